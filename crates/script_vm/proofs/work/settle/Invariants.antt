use Rattle.std.proofs.Common.{◌≡◌, ◌≤◌, length}
use Rattle.script_vm.proofs.Common.{Runs, settled, worked}
use Rattle.script_vm.proofs.work.settle.Given as goal

abbrev pub invariant-loop-first : goal.invariant-loop-first
invariant-loop-first l = record {
  same : worked Runs l.registers l.rest ≡ settled l.fn.registers l.code;
  shorter : length l.rest ≤ length l.code;
}

abbrev pub decreases-loop-first : goal.decreases-loop-first
decreases-loop-first l = length l.rest
