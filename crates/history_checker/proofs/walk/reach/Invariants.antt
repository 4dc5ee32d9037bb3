use Rattle.std.proofs.Common.{◌≡◌, None}
use Rattle.history_checker.proofs.Common.{IsRest, committed_fault}
use Rattle.history_checker.proofs.walk.reach.Given as goal

abbrev pub invariant-loop-position : goal.invariant-loop-position
invariant-loop-position l = record {
  rest : IsRest l.history l.position l.walk.plain l.walk.base.items;
  fault : committed_fault l.history l.position ≡ None;
}
