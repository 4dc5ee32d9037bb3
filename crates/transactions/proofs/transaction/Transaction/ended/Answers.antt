use Rattle.std.proofs.Common.{◌≡◌, ◌∙◌, inl, ap, false, refl, subst, sym}
use Rattle.transactions.proofs.Common.{Answer, Commit, Core, IsAnswered, LeftBy, Lent, Owns, Pass, Standing, Stands, Went, Words, commit_told, mine_of, start_of, view_of}
use Rattle.transactions.{proofs.Tries.again_told, proofs.Tries.gave_up, proofs.Modes.keeps_commit, proofs.Modes.mine_stays, proofs.Modes.stays_revocable}
use Rattle.transactions.proofs.transaction.Transaction.ended.Goals as goal

still : (words : Words) (t : Standing) (a : Answer) (p : Pass) (e : Core) → IsAnswered words (start_of t Commit false) a p e → t.engine.irrevocable ≡ false → e.irrevocable ≡ false
still words t a p e answered is = stays_revocable (start_of t Commit false) a (view_of p) e answered.served answered.stands keeps_commit is

moved : (inside now : Lent) (w : Words) (a : Answer) (p : Pass) (e : Core) → w ≡ inside.words → inside ≡ now → IsAnswered w (start_of inside.thread Commit false) a p e → IsAnswered now.words (start_of now.thread Commit false) a p e
moved inside now w a p e here is answered =
    subst (λ (l : Lent). IsAnswered l.words (start_of l.thread Commit false) a p e) is (subst (λ (x : Words). IsAnswered x (start_of inside.thread Commit false) a p e) here answered)

pub invariant_of-self-in_default : goal.invariant_of-self-in_default
invariant_of-self-in_default g c =
    let new = c.commit.new.self in
    record {
      own = subst (λ (w : Words). Owns w new.pass) c.deref.ensures c.commit.ensures.answered.own;
      revocable = still c.deref.result.now c.self.inside.thread c.commit.result new.pass new.engine c.commit.ensures.answered c.self.invariant.revocable;
    }

pub returns-in_default : goal.returns-in_default
returns-in_default g c = record {
  closed = c.give_up.ensures.closed;
  left = record {
    words = c.give_up.ensures.words ∙ ap (λ (l : Lent). l.words) c.self.view_is;
    mine_is = ap (λ (p : Pass). (view_of p).mine) c.give_up.ensures.given_up.pass ∙ c.commit.ensures.answered.served.mine ∙ mine_stays c.commit.result _ c.in_default.not-Committed ∙ ap mine_of c.self.view_is;
    went = subst (λ (l : Lent). Went (view_of l.thread.pass) (view_of c.give_up.new.self.thread.pass)) c.self.view_is (subst (λ (p : Pass). Went (view_of c.self.inside.thread.pass) (view_of p)) (sym c.give_up.ensures.given_up.pass) c.commit.ensures.answered.served.went);
  };
  ends = record {
    stood = subst (λ (l : Lent). Stands (view_of l.thread.pass) l.thread.engine) c.self.view_is c.clock-clock.ensures.stands;
    answer = c.commit.result;
    then = record { words = c.args.self.now.words; thread = c.commit.new.self };
    answered = moved _ c.args.self.now c.deref.result.now c.commit.result c.commit.new.self.pass c.commit.new.self.engine c.deref.ensures c.self.view_is c.commit.ensures.answered;
    told_is = again_told c.args.value c.commit.result c.in_default.not-Committed c.in_default.not-Full;
    left = gave_up c.commit.result (record { words = c.args.self.now.words; thread = c.commit.new.self }) c.give_up.new.self.thread c.in_default.not-Committed (record { pass = c.give_up.ensures.given_up.pass; engine = c.give_up.ensures.given_up.engine });
  };
}

pub returns-in-Committed-clause-ends : goal.returns-in-Committed-clause-ends
returns-in-Committed-clause-ends g c = record {
  stood = subst (λ (l : Lent). Stands (view_of l.thread.pass) l.thread.engine) c.self.view_is c.clock-clock.ensures.stands;
  answer = c.commit.result;
  then = record { words = c.args.self.now.words; thread = c.commit.new.self };
  answered = moved _ c.args.self.now c.deref.result.now c.commit.result c.commit.new.self.pass c.commit.new.self.engine c.deref.ensures c.self.view_is c.commit.ensures.answered;
  told_is = ap (commit_told c.args.value) (sym c.in-Committed.is);
  left = subst (λ (a : Answer). LeftBy a (record { words = c.args.self.now.words; thread = c.commit.new.self }) c.commit.new.self) (sym c.in-Committed.is) refl;
}

pub returns-in-Full-clause-ends : goal.returns-in-Full-clause-ends
returns-in-Full-clause-ends g c = record {
  stood = subst (λ (l : Lent). Stands (view_of l.thread.pass) l.thread.engine) c.self.view_is c.clock-clock.ensures.stands;
  answer = c.commit.result;
  then = record { words = c.args.self.now.words; thread = c.commit.new.self };
  answered = moved _ c.args.self.now c.deref.result.now c.commit.result c.commit.new.self.pass c.commit.new.self.engine c.deref.ensures c.self.view_is c.commit.ensures.answered;
  told_is = ap (commit_told c.args.value) (sym c.in-Full.is);
  left = subst (λ (a : Answer). LeftBy a (record { words = c.args.self.now.words; thread = c.commit.new.self }) c.commit.new.self) (sym c.in-Full.is) (inl refl);
}
