use Rattle.std.proofs.Common.{◌≡◌, false, subst}
use Rattle.transactions.proofs.Common.{Abort, Answer, Core, IsAnswered, Owns, Pass, Standing, Words, start_of, view_of}
use Rattle.transactions.proofs.Modes.{keeps_abort, stays_revocable}
use Rattle.transactions.proofs.transaction.Transaction.take_back.Goals as goal

still : (words : Words) (t : Standing) (a : Answer) (p : Pass) (e : Core) → IsAnswered words (start_of t (Abort false) false) a p e → t.engine.irrevocable ≡ false → e.irrevocable ≡ false
still words t a p e answered is = stays_revocable (start_of t (Abort false) false) a (view_of p) e answered.served answered.stands keeps_abort is

pub invariant_of-self-2 : goal.invariant_of-self-2
invariant_of-self-2 c =
    let new = c.cancel.new.self in
    record {
      own = subst (λ (w : Words). Owns w new.pass) c.deref.ensures c.cancel.ensures.answered.own;
      revocable = still c.deref.result.now c.self.inside.thread c.cancel.result new.pass new.engine c.cancel.ensures.answered c.self.invariant.revocable;
    }
