-- What a thread begins with, and what the transactions leave.
use Rattle.std.specs.Prelude.{◌≡◌, ℕ, ◌+◌, ◌-◌, ◌*◌, ◌/◌, ◌%◌, ◌<◌, ◌==◌, ◌||◌, cond, false, List, length, drop, sum, slice_index}
use Rattle.shared_words.specs.Passes.{Owns, view_of}
use Rattle.shared_words.specs.InGlobal.{Words}
use Rattle.shared_words.specs.declared.pass.Pass.{Pass}
use Rattle.large_words.specs.declared.layout.TheConstants.{PAGE, TRANSACTIONS}

-- a thread may be made of the pass
pub record IsReady (words : Words) (pass : Pass) : Type 0 where
  pub own : Owns words pass
  pub idle : (view_of pass).holds ≡ false

-- what is added to a word, of so many: by each transaction to the first and to the last one, and by one to the middle of each page
abbrev pub added_to : ℕ → ℕ → ℕ
added_to words word = cond ((word == 0) || (word + 1 == words)) TRANSACTIONS (cond (word % PAGE == PAGE / 2) 1 0)

-- the clock tells that all have committed, and each word holds its number and what is added to it
pub record AreAdded (cells : List ℕ) : Type 0 where
  pub clock : slice_index cells 0 ≡ 2 * TRANSACTIONS
  pub words : (word : ℕ) → word + 1 < length cells → slice_index cells (word + 1) ≡ word + added_to (length cells - 1) word

-- n is the sum of so many words, each as the transactions leave it
pub record IsSumOf (words n : ℕ) : Type 0 where
  pub cells : List ℕ
  pub size : length cells ≡ words + 1
  pub added : AreAdded cells
  pub sum_is : n ≡ sum (drop 1 cells)
