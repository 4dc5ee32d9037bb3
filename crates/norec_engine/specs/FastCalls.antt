-- What a call on the fast path comes to.
use Rattle.std.specs.Prelude.{◌≡◌, Bool, Option, MatchOption}
use Rattle.itm_types.specs.declared.call.Call.{Call}
use Rattle.itm_types.specs.declared.step.Step.{Step}
use Rattle.norec_core.specs.declared.answer.Answer.{Answer}
use Rattle.norec_core.specs.Core.{Core}
use Rattle.norec_core.specs.Moves.{IsCalled}
use Rattle.norec_engine.specs.NextSteps.{next_in}

-- the call came, and the step that it asks for first, or its answer, came of it; or nothing was done
abbrev pub ServesCall : Core → Call → Bool → Answer → Option (Option Step) → Answer → Core → Type 0
ServesCall old call again before result answer new = MatchOption result ((new ≡ old) × (answer ≡ before)) (λ first. IsCalled old call again (next_in first answer) new)
