-- The kinds of atomic step: which are lawful for a pass with the view v, and what its view w is afterwards, where n was found.
use Rattle.std.specs.Prelude.{◌≡◌, ◌≢◌, ℕ, suc, ◌+◌, ◌/◌, ◌%◌, ◌^◌, ◌<◌, ◌≤◌, max, true, false, cond, ◌==◌, List, ◌++◌, ◌⊎◌, length, Option, Some, slice_get, slice_index, slice_set}
use Rattle.shared_words.specs.declared.view.View.{View}
use Rattle.itm_types.specs.declared.limits.TheConstants.{MAX_COMMITS}
use Rattle.itm_types.specs.declared.step.Step.{Step}
use Rattle.itm_types.specs.declared.step.Step.TheVariants.{Load, Store, Cas}
use Rattle.shared_words.specs.Commits.{after, StartsWith, Stand, CommitsFit}
use Rattle.shared_words.specs.Views.{looked, took, read, noted, wrote, freed, held_words, times}

-- the history h was seen while the clock was n: it goes on from what was seen, it has n / 2 commits, n is no earlier than any clock that was known, and where the clock had not moved since the last look the words loaded since stand in it
pub record Sees (v : View) (n : ℕ) (h : List (List (ℕ × ℕ))) : Type 0 where
  pub grows : StartsWith h v.seen
  pub counts : length h ≡ n / 2
  pub late : v.clock ≤ n
  pub high : v.high ≤ n
  pub fit : CommitsFit h
  pub stands : n % 2 ≡ 0 → v.clock ≡ n → Stand (after v.base h) v.fresh

-- the clock was loaded
abbrev pub Looked : View → Step → ℕ → View → Type 0
Looked v st n w = (w ≡ looked v st w.seen n) × Sees v n w.seen

-- the clock was taken
abbrev pub Took : View → Step → ℕ → View → Type 0
Took v st s w = (w ≡ took v st w.seen s) × Sees v s w.seen

-- the clock was freed with n, which is no earlier than any clock that was known
abbrev pub Freed : View → Step → ℕ → View → Type 0
Freed v st n w = (w ≡ freed v st n) × (v.high ≤ n)

-- a word was loaded; the holder of the clock finds what its own stores have left
abbrev pub Loaded : View → Step → ℕ → ℕ → View → Type 0
Loaded v st k n w = (v.holds ≡ false → w ≡ read v st k n) × (v.holds ≡ true → (w ≡ noted v st n) × (n ≡ slice_index (held_words v) k))

-- the clock may be taken at s
abbrev pub CanTake : View → ℕ → Type 0
CanTake v s = (v.holds ≡ false) × (s % 2 ≡ 0) × (s / 2 < MAX_COMMITS)

-- the holder alone stores, and frees the clock with the number after the one that it put there; the others load, and try to take the clock
abbrev pub Lawful : View → Step → Type 0
Lawful v (Load c) = c ≡ 0 → v.holds ≡ false
Lawful v (Store c n) = (v.holds ≡ true) × (c ≡ 0 → n ≡ v.clock + 2)
Lawful v (Cas c s t) = (c ≡ 0) × (t ≡ s + 1) × CanTake v s

-- what the step tells: n is the value loaded, the one that an exchange met, or 0 after a store
abbrev pub StepTells : View → Step → ℕ → View → Type 0
StepTells v (Load c) n w = (c ≡ 0 → Looked v (Load c) n w) × ((k : ℕ) → c ≡ k + 1 → Loaded v (Load c) k n w)
StepTells v (Store c x) n w = (c ≡ 0 → Freed v (Store c x) x w) × ((k : ℕ) → c ≡ k + 1 → w ≡ wrote v (Store c x) k x)
StepTells v (Cas c s t) n w = (n ≡ s → Took v (Cas c s t) s w) × (n ≢ s → Looked v (Cas c s t) n w)

abbrev pub ValueFits : Step → Type 0
ValueFits (Load c) = Unit {0}
ValueFits (Store c x) = x < 2 ^ 64
ValueFits (Cas c s t) = Unit {0}

-- what was found, if anything, of the word that the step stores is what the holder's own stores have left there
abbrev pub WasFound : View → Step → Option ℕ → Type 0
WasFound v (Store (suc k) x) (Some n) = slice_get (held_words v) k ≡ Some n
WasFound v st found = Unit {0}

-- cell 0 is the clock, and the words follow it
abbrev pub cell_of : Step → ℕ
cell_of (Load c) = c
cell_of (Store c x) = c
cell_of (Cas c s t) = c

-- what the step finds in these cells
abbrev pub finds : List ℕ → Step → ℕ
finds cells (Load c) = slice_index cells c
finds cells (Store c x) = 0
finds cells (Cas c s t) = slice_index cells c

abbrev pub cells_after : List ℕ → Step → List ℕ
cells_after cells (Load c) = cells
cells_after cells (Store c x) = slice_set cells c x
cells_after cells (Cas c s t) = cond (slice_index cells c == s) (slice_set cells c t) cells

-- w is v with what u knew: of the two histories one goes on from the other, and the longer stays, as does the later of the latest clocks; no position is in both, and all are kept
pub record Joined (v u w : View) : Type 0 where
  pub longer : (StartsWith v.seen u.seen × (w.seen ≡ v.seen)) ⊎ (StartsWith u.seen v.seen × (w.seen ≡ u.seen))
  pub mine : w.mine ≡ v.mine ++ u.mine
  pub apart : (p : ℕ) → 0 < times p v.mine → times p u.mine ≡ 0
  pub base : w.base ≡ v.base
  pub clock : w.clock ≡ v.clock
  pub high : w.high ≡ max v.high u.high
  pub fresh : w.fresh ≡ v.fresh
  pub met : w.met ≡ v.met ++ u.met
  pub holds : w.holds ≡ v.holds
  pub done : w.done ≡ v.done
  pub steps : w.steps ≡ v.steps
  pub looks : w.looks ≡ v.looks
  pub share : w.share ≡ v.share + u.share
