-- What comes next, as its step or its answer tells it.
use Rattle.std.proofs.Common.{◌≡◌, Option, None, Some, refl, ap}
use Rattle.itm_runtime.proofs.Common.{Answer, Answers, Asks, Step, next_in}

-- the step that is done next, as what comes next
pub step_due : (o : Option Step) (a : Answer) (step : Step) → o ≡ Some step → next_in o a ≡ Asks step
step_due o a step is = ap (λ (x : Option Step). next_in x a) is

pub none_due : (o : Option Step) (a : Answer) → o ≡ None → next_in o a ≡ Answers a
none_due o a is = ap (λ (x : Option Step). next_in x a) is

pub answer_due : (o : Option Step) (a : Answer) → ((step : Step) → o ≡ Some step → ⊥) → next_in o a ≡ Answers a
answer_due None a n = refl
answer_due (Some step) a n = absurd (n step refl)
