-- What is true of the phases of a write-back.
use Rattle.std.proofs.Common.{◌≡◌, ℕ, suc, ◌+◌, ◌<◌, length, Option, None, Some, sym, ap, ◌∙◌, add-one}
use Rattle.norec_turns.proofs.Common.{Data, InPhase, IsOpen, Row, Taking, value_into}
use Rattle.itm_types.specs.declared.step.Step.TheVariants.{Load, Store}
use Rattle.norec_core.specs.Phases as at

-- a row that is stored is one of the write set
pub store_row : (d : Data) (taking : Taking) (row : ℕ) (got : Option ℕ) → InPhase d (at.Store taking row got) → IsOpen d × (row < length d.frames.writes.rows)
store_row d taking row None s = (s.0.is_open, s.1)
store_row d taking row (Some word) s = (s.0.is_open, s.1)

-- the store of a row, as the write set shows it
pub stores_as : (r w : Row) → w ≡ r → (got : Option ℕ) (value : ℕ) → value ≡ value_into r got → Store (r.word + 1) value ≡ Store (suc w.word) (value_into w got)
stores_as r w e got value is = λ i. Store ((add-one r.word ∙ ap (λ (x : Row). suc x.word) (sym e)) i) ((is ∙ ap (λ (x : Row). value_into x got) (sym e)) i)

pub loads_as : (r w : Row) → w ≡ r → Load (r.word + 1) ≡ Load (suc w.word)
loads_as r w e = ap Load (add-one r.word) ∙ ap (λ (x : Row). Load (suc x.word)) (sym e)
