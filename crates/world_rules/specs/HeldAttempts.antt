-- The open attempt of an irrevocable transaction, and the words as its calls have left them.
use Rattle.std.specs.Prelude.{◌≡◌, ℕ, suc, true, List, Option, None, Some, slice_get}
use Rattle.itm_types.specs.declared.call.Call.{Call}
use Rattle.itm_types.specs.declared.step.Step.{Step}
use Rattle.itm_types.specs.declared.step.Step.TheVariants.{Store}
use Rattle.itm_model.specs.State.{State}
use Rattle.itm_model.specs.Machine.{after, is_open, reply}
use Rattle.norec_core.specs.Core.{Core}
use Rattle.norec_core.specs.Held.{answers, leaves}
use Rattle.norec_core.specs.Proceeds.{Got}
use Rattle.norec_core.specs.Stands.{stands_for}
use Rattle.tx_attempts.specs.declared.attempt.Attempt.{Attempt}
use Rattle.tx_attempts.specs.Attempts.{alone_whole}

-- Between two calls the words are those of the plain state. While a call waits for a step, they are such that it leaves what it leaves of the plain state, and gets its reply. `deepest` blocks may be open at once.
abbrev pub StandsIn : ℕ → Option Step → Option Call → Core → List ℕ → State → Type 0
StandsIn deepest None doing e words s = stands_for e words ≡ s
StandsIn deepest (Some step) None e words s = ⊥
StandsIn deepest (Some step) (Some call) e words s = (leaves e words ≡ after deepest s call) × (answers e words ≡ reply deepest s call)

-- the attempt's calls alone on this memory lead where the engine and the words stand, with what had run in blocks that ran again
pub record IsHeld (deepest : ℕ) (memory words : List ℕ) (row : Attempt) (e : Core) : Type 0 where
  pub still_open : is_open (alone_whole deepest memory row) ≡ true
  pub mode : (alone_whole deepest memory row).irrevocable ≡ true
  pub stands : StandsIn deepest e.waits e.doing e words (alone_whole deepest memory row)
  pub got : (word value : ℕ) → e.waits ≡ Some (Store (suc word) value) → Got e.got (slice_get words word)  -- what it loaded of the word that it stores next
