-- A call that wants the clock.
use Rattle.std.proofs.Common.{◌≡◌, ◌&&◌, true, false, not, nat_lt, length, Some, sym, true≢false}
use Rattle.worker_rules.proofs.Common.{Begin, Call, Commit, Core, IsSettled, Mode, WantsClock, false_from_ne_true, in_transaction, may_go, stays_revocable}
use Rattle.run_rules.proofs.ClockCalls.{both_true, no_true, told_under}
pub use Rattle.run_rules.proofs.ClockCalls.{wants_taking}

-- an irrevocable transaction wants it no more
pub wants_revocable : (c : Core) → IsSettled c → (call : Call) → WantsClock c (Some call) → c.irrevocable ≡ false
wants_revocable c settled Commit w = false_from_ne_true c.irrevocable (λ i. w.1 (settled.irrevocable i).1)
wants_revocable c settled (Mode room) w = no_true c.irrevocable (both_true (in_transaction c && not (stays_revocable c.blocks)) _ (told_under (in_transaction c && not (stays_revocable c.blocks) && not c.irrevocable) room w)).1
wants_revocable c settled (Begin props room) w =
    no_true c.irrevocable
    (both_true (props.goes_irrevocable && may_go c.blocks props && nat_lt (length c.blocks) c.depth) _
    (told_under (props.goes_irrevocable && may_go c.blocks props && nat_lt (length c.blocks) c.depth && not c.irrevocable) room w)).1
wants_revocable c settled call w = absurd (true≢false (sym w))
