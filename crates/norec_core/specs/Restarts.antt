-- A block that goes back to its begin alone.
use Rattle.std.specs.Prelude.{◌≡◌, ℕ, ◌<◌, true, false, List, [], ◌∷◌, Some, slice_get}
use Rattle.itm_types.specs.declared.row.LogRow.{LogRow}
use Rattle.itm_types.specs.Memory.{IsMemory, Agrees}
use Rattle.nest_frames.specs.Nest.{Frame}
use Rattle.itm_model.specs.State.{State}
use Rattle.itm_model.specs.Machine.{back, entered}
use Rattle.norec_core.specs.declared.answer.Answer.{Answer}
use Rattle.norec_core.specs.declared.answer.Answer.TheVariants.{Restarted}
use Rattle.norec_core.specs.Core.{Core, renewed}
use Rattle.norec_core.specs.Order.{may_restart}
use Rattle.norec_core.specs.Stands.{stands_for}

-- a block went back to its begin alone
abbrev pub IsRestart : Answer → Type 0
IsRestart (Restarted clock word) = Unit {0}
IsRestart _ = ⊥

-- the innermost block begins, after what was rolled back
abbrev pub begun_again : List Frame → State → State
begun_again [] s = s
begun_again (b ∷ bs) s = entered s b.props

-- The innermost block has gone back to just after its begin, since a word that it has read differs: over every memory that agrees with the log as it was cut, the engine stands for that block rolled back and begun again. What it stood for matters there by what the block goes back to alone, and that has seen no more than the cut log.
pub record Restarts (mid : Core) (clock word : ℕ) (new : Core) : Type 0 where
  pub place : ℕ
  pub word_is : (logged : LogRow) × (slice_get mid.log place ≡ Some logged) × (logged.word ≡ word)
  pub may : may_restart mid place ≡ true
  pub clock_is : clock ≡ mid.clock
  pub later : mid.snapshot < clock
  pub free : mid.holds ≡ false
  pub revocable : mid.irrevocable ≡ false
  pub unfreed : mid.freed ≡ false
  pub stays : new ≡ record (renewed mid clock) { stage = new.stage; tries = new.tries }
  pub meets : (m : List ℕ) → IsMemory mid.words m → Agrees m new.log → stands_for new m ≡ begun_again mid.blocks (back (stands_for mid m))
