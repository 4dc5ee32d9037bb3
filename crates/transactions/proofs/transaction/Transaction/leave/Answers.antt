use Rattle.std.proofs.Common.{◌≡◌, false, subst}
use Rattle.transactions.proofs.Common.{Answer, Commit, Core, IsAnswered, Owns, Pass, Standing, Words, start_of, view_of}
use Rattle.transactions.proofs.Modes.{keeps_commit, stays_revocable}
use Rattle.transactions.proofs.transaction.Transaction.leave.Goals as goal

still : (words : Words) (t : Standing) (a : Answer) (p : Pass) (e : Core) → IsAnswered words (start_of t Commit false) a p e → t.engine.irrevocable ≡ false → e.irrevocable ≡ false
still words t a p e answered is = stays_revocable (start_of t Commit false) a (view_of p) e answered.served answered.stands keeps_commit is

pub invariant_of-self-2 : goal.invariant_of-self-2
invariant_of-self-2 c =
    let new = c.commit.new.self in
    record {
      own = subst (λ (w : Words). Owns w new.pass) c.deref.ensures c.commit.ensures.answered.own;
      revocable = still c.deref.result.now c.self.inside.thread c.commit.result new.pass new.engine c.commit.ensures.answered c.self.invariant.revocable;
    }
