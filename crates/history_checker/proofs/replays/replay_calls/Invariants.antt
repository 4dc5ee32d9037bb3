use Rattle.std.proofs.Common.{◌≡◌, ◌-◌, take}
use Rattle.history_checker.proofs.Common.{breaks_of, state_through}
use Rattle.history_checker.{proofs.Steps.Calls.made, proofs.Steps.Restarts.IsReplayed}
use Rattle.history_checker.proofs.replays.replay_calls.Given as goal

abbrev pub invariant-loop-place : goal.invariant-loop-place
invariant-loop-place l = record {
  replayed : IsReplayed l.fn.plain.deepest l.fn.plain.state l.calls l.restarts l.place l.next l.plain.state;
  late : l.late ≡ (state_through l.fn.plain.deepest (breaks_of l.restarts) l.fn.plain.state (made (take (l.place - 1) l.calls))).irrevocable;
  before : l.plain.before ≡ l.fn.plain.before;
  deepest : l.plain.deepest ≡ l.fn.plain.deepest;
}
