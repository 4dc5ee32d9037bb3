-- What comes next, told by a step or, where there is none, by an answer.
use Rattle.std.specs.Prelude.{Bool, Option, None, Some, Result}
use Rattle.itm_types.specs.declared.call.Call.{Call}
use Rattle.itm_types.specs.declared.step.Step.{Step}
use Rattle.norec_core.specs.declared.answer.Answer.{Answer}
use Rattle.norec_core.specs.declared.answer.Next.{Next}
use Rattle.norec_core.specs.declared.answer.Next.TheVariants.{Step as Asks, Answer as Answers}
use Rattle.norec_core.specs.Core.{Core}
use Rattle.norec_core.specs.Moves.{Comes}

abbrev pub next_in : Option Step → Answer → Next
next_in (Some step) a = Asks step
next_in None a = Answers a

-- so it is told what comes of a call
abbrev pub ComesInto : {E : Type 0} → Core → Call → Bool → Result (Option Step) E → Answer → Core → Type 0
ComesInto old call again result answer new = Comes (λ (step : Option Step). next_in step answer) old call again result new
