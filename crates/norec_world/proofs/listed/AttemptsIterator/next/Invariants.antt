use Rattle.std.proofs.Common.{◌≡◌, [], length}
use Rattle.norec_world.specs.Listed.{left_of}
use Rattle.norec_world.proofs.listed.AttemptsIterator.next.Given as goal

abbrev pub invariant-loop-actor : goal.invariant-loop-actor
invariant-loop-actor g l = record {
  none : l.self.ended.now ≡ [];
  left : left_of l.self ≡ left_of l.initial.self;
}

abbrev pub decreases-loop-actor : goal.decreases-loop-actor
decreases-loop-actor g l = length l.self.actors.now
