use Rattle.std.proofs.Common.{ℕ, List, take, drop, refl, sym, subst, arith}
use Rattle.itm_model.proofs.Common.{AreAmong, AreNewest, Old}
use Rattle.itm_types.proofs.Elements.{all_drop}
use Rattle.itm_model.proofs.pieces.hand_on.Goals as goal

pub loop-from-init : goal.loop-from-init
loop-from-init c = record {
  so_far = record {
    within = omega arith;
    newest = subst (λ (t : List Old). AreNewest (take c.args.at t) c.forget.new.newest.items) c.deref.ensures.value c.forget.ensures.newest;
    among = subst (λ (n : ℕ). AreAmong n (drop c.args.at c.args.journal.now.items)) (sym c.forget.ensures.count) (all_drop _ c.args.at c.args.journal.now.items c.requires.among);
  };
  len = refl;
  handed = refl;
  count = c.forget.ensures.count;
}
