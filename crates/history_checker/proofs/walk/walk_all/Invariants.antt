use Rattle.std.proofs.Common.{◌≡◌, length, None}
use Rattle.history_checker.proofs.Common.{AreTold, IsRest, committed_fault}
use Rattle.history_checker.proofs.walk.walk_all.Given as goal

abbrev pub invariant-loop-position : goal.invariant-loop-position
invariant-loop-position l = record {
  rest : IsRest l.history l.position l.walk.plain l.walk.base.items;
  told : AreTold l.history l.position (length l.history.attempts) l.walk.told.items;
  fault : committed_fault l.history l.position ≡ None;
}
