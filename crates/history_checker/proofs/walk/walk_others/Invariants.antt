use Rattle.history_checker.proofs.Common.{IsRest}
use Rattle.history_checker.proofs.Steps.Walks.{IsNext, left_of}
use Rattle.history_checker.proofs.walk.walk_others.Given as goal

abbrev pub invariant-loop-next : goal.invariant-loop-next
invariant-loop-next l = record {
  rest : IsRest l.history l.position l.walk.plain l.walk.base.items;
  next : IsNext l.history l.position l.walk.told.items l.next;
}

abbrev pub decreases-loop-next : goal.decreases-loop-next
decreases-loop-next l = left_of l.next
