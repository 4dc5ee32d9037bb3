use Rattle.std.proofs.Common.{◌≡◌, ◌+◌, ◌≤◌, ℕ, List, length}
use Rattle.script_vm.proofs.Common.{groups_in, worked}
use Rattle.script_vm.proofs.work.passed.Given as goal

abbrev pub invariant-loop-first : goal.invariant-loop-first
invariant-loop-first l = record {
  same : (registers : List (List ℕ)) → worked l.stage registers l.rest ≡ worked l.fn.stage registers l.code;
  groups : groups_in l.stage + length l.rest ≤ groups_in l.fn.stage + length l.code;
  shorter : length l.rest ≤ length l.code;
}

abbrev pub decreases-loop-first : goal.decreases-loop-first
decreases-loop-first l = length l.rest
