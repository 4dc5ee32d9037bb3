-- What an actor does next.
use Rattle.std.specs.Prelude.{◌≡◌, Bool, true, false, Option, None, Some}
use Rattle.itm_types.specs.declared.call.Call.{Call}
use Rattle.itm_types.specs.declared.step.Step.{Step}
use Rattle.tx_runs.specs.declared.ending.End.{End}
use Rattle.world_rules.specs.declared.actor.Status.{Status}
use Rattle.world_rules.specs.declared.actor.Status.TheVariants.{Ready, Waits, Ended}

-- how it ended
abbrev pub ending_of : Status → Option End
ending_of Ready = None
ending_of (Waits call step) = None
ending_of (Ended end) = Some end

-- a step is waited for
abbrev pub is_waiting : Status → Bool
is_waiting Ready = false
is_waiting (Waits call step) = true
is_waiting (Ended end) = false

-- the player is to be asked
abbrev pub is_ready : Status → Bool
is_ready Ready = true
is_ready (Waits call step) = false
is_ready (Ended end) = false

abbrev pub waiting_step : Status → Option Step
waiting_step Ready = None
waiting_step (Waits call step) = Some step
waiting_step (Ended end) = None

-- true of the call in progress, where one waits for a step
abbrev pub InProgress : Status → (Call → Type 0) → Type 0
InProgress status Holds = (call : Call) (step : Step) → status ≡ Waits call step → Holds call
