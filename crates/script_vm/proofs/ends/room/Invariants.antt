use Rattle.std.proofs.Common.{◌≡◌, ◌+◌, ◌≤◌, length}
use Rattle.script_vm.proofs.Common.{room}
use Rattle.script_vm.proofs.ends.room.Given as goal

abbrev pub invariant-loop-first : goal.invariant-loop-first
invariant-loop-first l = record {
  counted : room l.left l.rest + length l.code ≡ room l.number l.code + length l.rest;
  shorter : length l.rest ≤ length l.code;
  bounded : l.left + length l.rest ≤ l.number + length l.code;
}

abbrev pub decreases-loop-first : goal.decreases-loop-first
decreases-loop-first l = length l.rest
