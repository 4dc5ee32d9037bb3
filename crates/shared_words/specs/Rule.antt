-- The rule of the table of cells, and what each operation on it tells.
use Rattle.std.specs.Prelude.{◌≡◌, ℕ, ◌≤◌, List, slice_index, bit_xor}
use Rattle.atomic_table.specs.Table.{State, Me}
use Rattle.atomic_table.specs.Table as table
use Rattle.shared_words.specs.declared.view.View.{View}
use Rattle.itm_types.specs.declared.step.Step.{Step}
use Rattle.itm_types.specs.declared.step.Step.TheVariants.{Load, Store, Cas}
use Rattle.shared_words.specs.Commits.{StartsWith}
use Rattle.shared_words.specs.Views.{opening, held_cells, times}
use Rattle.shared_words.specs.Steps.{StepTells}
use Rattle.shared_words.specs.Good.{Good}
use Rattle.shared_words.specs.Moves.{Moves}

-- what a seat of the table holds: its view, and no slot
abbrev pub Held : Type 0
Held = Me ℕ View

abbrev pub AreGood : State ℕ View → Type 0
AreGood s = Good s.words s.views

abbrev pub first_view : List ℕ → View
first_view = opening

-- the step was made among good cells and views, and the view went on by it; shares and slots stay
abbrev pub MakesStep : Step → Held → ℕ → Held → Type 0
MakesStep st m n w = StepTells m.0 st n w.0 × (w.0.share ≡ m.0.share) × (w.1 ≡ m.1) × Moves m.0 st n w.0

abbrev pub loads : table.Step ℕ → Held → ℕ → Held → Type 0
loads s m n w = MakesStep (Load s.word) m n w

abbrev pub stores : table.Step ℕ → Held → ℕ → Held → Type 0
stores s m n w = MakesStep (Store s.word s.first) m 0 w

-- bits of a word are changed by the holder, who sees what stands there
abbrev pub changes : table.Step ℕ → Held → ℕ → Held → Type 0
changes s m n w = MakesStep (Store s.word (bit_xor (slice_index (held_cells m.0) s.word) s.first)) m 0 w

abbrev pub exchanges : table.Step ℕ → Held → ℕ → Held → Type 0
exchanges s m n w = MakesStep (Cas s.word s.first s.second) m n w

-- nothing changes: of the two histories that were joined one goes on from the other, and no position was in both
abbrev pub settled : table.Step ℕ → Held → ℕ → Held → Type 0
settled s m n w = (w ≡ m) × StartsWith m.0.seen m.0.shorter × ((p : ℕ) → times p m.0.mine ≤ 1) × (m.0.share ≤ 128)
