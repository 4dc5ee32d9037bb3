-- What a clause reads of words that were closed.
use Rattle.std.specs.Prelude.{ℕ, List, drop, slice_index}
use denote.RawPtr.{Ptr}
use Rattle.shared_words.specs.declared.closed_words.ClosedWords.{ClosedWords}

-- cell 0
abbrev pub clock_in : {A : Type 0} → ClosedWords A → ℕ
clock_in c = slice_index c.cells.items 0

-- the cells that follow it
abbrev pub words_in : {A : Type 0} → ClosedWords A → List ℕ
words_in c = drop 1 c.cells.items

-- where cell 0 lies
abbrev pub place_in : {A : Type 0} → ClosedWords A → Ptr
place_in c = c.cells.ptr
