-- What is true of the cells and of all views between any two steps, of whatever threads.
use Rattle.std.specs.Prelude.{◌≡◌, ℕ, ◌+◌, ◌*◌, ◌/◌, ◌%◌, ◌<◌, ◌≤◌, true, false, List, [], ◌∷◌, ◌++◌, length}
use mathlib.Core.Option.{some}
use lib.ListN.{get_elem?}
use Rattle.shared_words.specs.declared.view.View.{View}
use Rattle.itm_types.specs.Memory.{bytes_of, AllFit}
use Rattle.shared_words.specs.Commits.{stored, after, StartsWith, Stand, AllMet, StoresFit, CommitsFit}
use Rattle.shared_words.specs.Views.{held_words, holders, times, placed, shares}

-- what is true of one view, where `log` are the commits so far, `pending` the stores of the holder since, and `clock` is cell 0
pub record Fits (base : List ℕ) (log : List (List (ℕ × ℕ))) (pending : List (ℕ × ℕ)) (clock : ℕ) (v : View) : Type 0 where
  pub base_is : 0 < v.share → v.base ≡ base
  pub begins : StartsWith log v.seen
  pub shorter : StartsWith v.seen v.shorter
  pub late : v.clock ≤ clock
  pub high : v.high ≤ clock
  pub long : v.clock / 2 ≤ length v.seen
  pub stands : v.clock ≡ clock → clock % 2 ≡ 0 → Stand (after base log) v.fresh
  pub positions : (p : ℕ) → 0 < times p v.mine → p < length v.seen
  pub holding : v.holds ≡ true → (v.seen ≡ log) × (v.done ≡ pending) × (v.clock ≡ 2 * length log)
  pub met : AllMet base (log ++ pending ∷ []) v.met
  pub spent : v.share ≡ 0 → (v.holds ≡ false) × (v.mine ≡ [])

-- the clock is twice the number of commits, and one more while it is held
abbrev pub clock_of : List (List (ℕ × ℕ)) → List View → ℕ
clock_of log views = 2 * length log + holders views

-- one history of commits lies behind all: each view has seen a beginning of it, at most one view holds the clock, and each position was counted by one view
pub record Good (cells : List ℕ) (views : List View) : Type 0 where
  pub base : List ℕ
  pub log : List (List (ℕ × ℕ))
  pub pending : List (ℕ × ℕ)
  pub cells_are : cells ≡ clock_of log views ∷ stored (after base log) pending
  pub one : holders views ≤ 1
  pub settled : holders views ≡ 0 → pending ≡ []
  pub each : (j : ℕ) (v : View) → get_elem? views j ≡ some v → Fits base log pending (clock_of log views) v
  pub placed_once : (p : ℕ) → p < length log → placed p views ≡ 1
  pub placed_none : (p : ℕ) → length log ≤ p → placed p views ≡ 0
  pub whole : shares views ≡ 128
  pub base_fits : AllFit base
  pub log_fits : CommitsFit log
  pub pending_fits : StoresFit pending

-- the only view that is left has seen all commits, the clock is no earlier than any that was seen, the cells are what they left, each word that was loaded had its value at some moment of them, and all positions are its own
pub record Ends (v : View) (clock : ℕ) (words : List ℕ) : Type 0 where
  pub clock_is : clock ≡ 2 * length v.seen
  pub high : v.high ≤ clock
  pub words_are : words ≡ after v.base v.seen
  pub met : AllMet v.base (v.seen ++ [] ∷ []) v.met
  pub mine : (p : ℕ) → p < length v.seen → times p v.mine ≡ 1
  pub no_other : (p : ℕ) → length v.seen ≤ p → times p v.mine ≡ 0

-- the same, as bytes
pub record EndsWith (v : View) (clock : ℕ) (bytes : List ℕ) : Type 0 where
  pub clock_is : clock ≡ 2 * length v.seen
  pub high : v.high ≤ clock
  pub bytes_are : bytes ≡ bytes_of (after v.base v.seen)
  pub met : AllMet v.base (v.seen ++ [] ∷ []) v.met
  pub mine : (p : ℕ) → p < length v.seen → times p v.mine ≡ 1
  pub no_other : (p : ℕ) → length v.seen ≤ p → times p v.mine ≡ 0

-- the view holds the clock, which is no earlier than any that was seen, and the words are what its stores so far have left
pub record EndsInHold (v : View) (clock : ℕ) (words : List ℕ) : Type 0 where
  pub clock_is : clock ≡ 2 * length v.seen + 1
  pub high : v.high ≤ clock
  pub words_are : words ≡ held_words v

-- the same, as bytes
pub record EndsHeld (v : View) (clock : ℕ) (bytes : List ℕ) : Type 0 where
  pub clock_is : clock ≡ 2 * length v.seen + 1
  pub high : v.high ≤ clock
  pub bytes_are : bytes ≡ bytes_of (held_words v)
