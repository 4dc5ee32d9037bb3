use Rattle.std.proofs.Common.{◌≡◌, false, length}
use Rattle.itm_model.proofs.Common.{undone}
use Rattle.itm_model.proofs.plain.Plain.back_all.Given as goal

abbrev pub invariant-loop-self : goal.invariant-loop-self
invariant-loop-self l = record {
  undone : undone l.self.state ≡ undone l.fn.self.state;
  before : l.self.before ≡ l.fn.self.before;
  deepest : l.self.deepest ≡ l.fn.self.deepest;
  revocable : l.self.state.irrevocable ≡ false;
}

abbrev pub decreases-loop-self : goal.decreases-loop-self
decreases-loop-self l = length l.self.state.blocks
