use Rattle.std.proofs.Common.{◌≡◌, ◌≤◌, ◌-◌}
use Rattle.script_program.specs.Sections.{expanded}
use Rattle.script_program.proofs.threads.Threads.repeat.Given as goal

abbrev pub invariant-loop-count : goal.invariant-loop-count
invariant-loop-count l = record {
  same : l.self ≡ expanded l.fn.self l.start l.count;
  some : 1 ≤ l.count;
  most : l.count ≤ l.times;
}

abbrev pub decreases-loop-count : goal.decreases-loop-count
decreases-loop-count l = l.times - l.count
