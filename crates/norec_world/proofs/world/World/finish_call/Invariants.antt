use Rattle.norec_world.{proofs.LeavesLessSoFar, proofs.call_left_at, proofs.waits_at, proofs.◌≡◌, proofs.false, proofs.true, proofs.IsSome, specs.Taken.EndsLast, specs.Taken.TakesOn, specs.Taken.TakesSome}
use Rattle.std.specs.Prelude.{ℕ}
use Rattle.norec_world.proofs.world.World.finish_call.Given as goal

abbrev pub invariant-loop-goes_on : goal.invariant-loop-goes_on
invariant-loop-goes_on g l = record {
  took : TakesSome g.P.Player l.actor l.taken l.initial.self l.self;
  waits : l.goes_on ≡ true → IsSome (waits_at l.self l.actor);
  quiet : l.goes_on ≡ true → l.self.attempts.ended ≡ l.initial.self.attempts.ended;
  on : l.goes_on ≡ true → (n : ℕ) × TakesOn g.P.Player l.actor n l.initial.self l.self;
  ends : l.goes_on ≡ false → EndsLast g.P.Player l.actor l.initial.self l.self;
  less : LeavesLessSoFar g.P.Player l.actor l.goes_on l.initial.self l.self;
}

abbrev pub decreases-loop-goes_on : goal.decreases-loop-goes_on
decreases-loop-goes_on g l = call_left_at g.P.Player l.actor l.goes_on l.self
