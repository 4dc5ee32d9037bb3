use Rattle.norec_world.{proofs.LeavesNoMore, proofs.run_left_at, proofs.whole_at, proofs.◌≡◌, proofs.◌≤◌, proofs.length, specs.Taken.TakesSome}
use Rattle.norec_world.proofs.world.World.run_out.Given as goal

abbrev pub invariant-loop-alloc : goal.invariant-loop-alloc
invariant-loop-alloc g l = record {
  took : TakesSome g.P.Player l.actor l.taken l.initial.self l.self;
  none : length l.initial.self.actors ≤ l.actor → (l.taken ≡ 0) × (l.self ≡ l.initial.self);
  less : LeavesNoMore g.P.Player l.actor l.initial.self l.self;
}

abbrev pub decreases-loop-alloc : goal.decreases-loop-alloc
decreases-loop-alloc g l = run_left_at g.P.Player l.actor (whole_at g.P.Player l.actor l.initial.self) l.self
