-- Worked cases of value logs, computed.
use Rattle.std.proofs.Common.{◌≡◌, List, [], ◌∷◌, Some, None, take, refl}
use Rattle.value_log.proofs.Common.{LogRow, value_of}

-- words 4, 1, 4 and 0 were read
abbrev rows : List LogRow
rows = record { word = 4; value = 7 } ∷ record { word = 1; value = 0 } ∷ record { word = 4; value = 8 } ∷ record { word = 0; value = 9 } ∷ []

-- of two rows of one word the first one counts
read_twice : value_of 4 rows ≡ Some 7
read_twice = refl

-- a word in which 0 was found was read
zero_found : value_of 1 rows ≡ Some 0
zero_found = refl

last_read : value_of 0 rows ≡ Some 9
last_read = refl

-- a value is no word
not_read : value_of 7 rows ≡ None
not_read = refl

nothing_read : value_of 0 [] ≡ None
nothing_read = refl

-- the log is cut to its first three rows: the oldest one of word 4 counts still, and word 0 was not read
read_before_the_cut : value_of 4 (take 3 rows) ≡ Some 7
read_before_the_cut = refl

read_after_the_cut : value_of 0 (take 3 rows) ≡ None
read_after_the_cut = refl
