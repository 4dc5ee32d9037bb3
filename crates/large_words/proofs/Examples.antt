-- What is added in a MiB: to its first and last word, to the middles of its first and last page, and beside these.
use Rattle.std.proofs.Common.{◌≡◌, refl}
use Rattle.large_words.specs.Layout.{added_to}

first_word : added_to 131072 0 ≡ 256
first_word = refl

last_word : added_to 131072 131071 ≡ 256
last_word = refl

first_middle : added_to 131072 256 ≡ 1
first_middle = refl

last_middle : added_to 131072 130816 ≡ 1
last_middle = refl

beside_a_middle : added_to 131072 255 ≡ 0
beside_a_middle = refl
