-- A call is in progress just where something is waited for.
use Rattle.norec_data.{specs.declared.data.Data.Data, specs.declared.pending.Pending.Pending, specs.Turns.IsOn, specs.Turns.IsWaiting, specs.View.phase_of}
use Rattle.norec_data.specs.declared.pending.Pending.TheVariants as waits

pub is_waiting : (d : Data) (p : Pending) → IsOn (phase_of d p) → IsWaiting p
is_waiting d waits.Idle on = absurd on
is_waiting d p on = tt

pub is_on : (d : Data) (p : Pending) → IsWaiting p → IsOn (phase_of d p)
is_on d waits.Idle w = absurd w
is_on d p w = tt
