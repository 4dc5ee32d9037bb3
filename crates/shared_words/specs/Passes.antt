-- What a clause reads of words and passes.
use Rattle.std.specs.Prelude.{◌≡◌, ◌≢◌, ◌⊎◌, ℕ, ◌+◌, ◌/◌, ◌%◌, ◌<◌, ◌≤◌, length}
use denote.RawPtr.{Ptr}
use Rattle.itm_types.specs.declared.limits.TheConstants.{MAX_WORDS}
use Rattle.itm_types.specs.Memory.{AllFit}
use Rattle.shared_words.specs.Commits.{StoresFit, CommitsFit}
use Rattle.shared_words.specs.declared.view.View.{View}
use Rattle.shared_words.specs.declared.words.Words.{Words}
use Rattle.shared_words.specs.declared.pass.Pass.{Pass}
use Rattle.shared_words.specs.Views.{opening}

abbrev pub view_of : Pass → View
view_of p = p.seat.me.0

-- how many commits a view knows of by the latest clock
abbrev pub commits_known : View → ℕ
commits_known v = v.high / 2

abbrev pub cells_of : {A : Type 0} → Words A → ℕ
cells_of w = w.shared.table_id.words

-- where cell 0 lies
abbrev pub place_of : {A : Type 0} → Words A → Ptr
place_of w = w.shared.words

-- the view is of so many cells, each value in it fits 64 bits, it saw no clock past the latest that it knows of, and as many commits as either of these tells
pub record IsOver (cells : ℕ) (v : View) : Type 0 where
  pub size : length v.base + 1 ≡ cells
  pub base_fits : AllFit v.base
  pub seen_fits : CommitsFit v.seen
  pub done_fits : StoresFit v.done
  pub high : v.clock ≤ v.high
  pub long : v.clock / 2 ≤ length v.seen
  pub known : commits_known v ≤ length v.seen

-- the pass is one of these words
pub record Owns {A : Type 0} (w : Words A) (p : Pass) : Type 0 where
  pub same : p.seat.table_id ≡ w.shared.table_id
  pub over : IsOver (cells_of w) (view_of p)

-- the one pass of words that are opened: it has all shares, and knows of nothing but the words at first
pub record IsFirst {A : Type 0} (w : Words A) (p : Pass) : Type 0 where
  pub own : Owns w p
  pub first : view_of p ≡ opening (view_of p).base

-- no bytes, no whole number of words, or too many for a memory made of bytes
abbrev pub IsWrongSize : ℕ → Type 0
IsWrongSize n = (n ≡ 0) ⊎ (n % 8 ≢ 0) ⊎ (1048576 < n)

-- so many cells are no clock with a word, or too many
abbrev pub IsWrongCount : ℕ → Type 0
IsWrongCount n = (n < 2) ⊎ (MAX_WORDS + 1 < n)
