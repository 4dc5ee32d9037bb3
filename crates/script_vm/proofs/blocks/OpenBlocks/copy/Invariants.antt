use Rattle.std.proofs.Common.{◌≡◌, ◌≤◌, take, vec_capacity}
use Rattle.script_vm.proofs.blocks.OpenBlocks.copy.Given as goal

abbrev pub invariant-loop-start : goal.invariant-loop-start
invariant-loop-start l = record {
  copied : l.starts.items ≡ take l.start-index l.start-items;
  room : l.self.deepest ≤ vec_capacity l.starts;
}
