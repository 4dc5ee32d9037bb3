use Rattle.std.proofs.Common.{◌∙◌, inl, inr, ap, Result, Ok, Err, refl, subst, sym, arith}
use Rattle.transactions.proofs.Common.{CalledAtMut, Cancelled, Engine, Pass, Stopped, Went, mine_then, or_true, stop_told, view_of, went_on}
use Rattle.transactions.{proofs.Looks.or_not, proofs.Looks.stopped_looks, proofs.Tries.cancelled_mine, proofs.Tries.stopped_mine}
use Rattle.transactions.proofs.transaction.Transaction.attempt.Goals as goal

pub returns-in-Ok-body-clause-tells : goal.returns-in-Ok-body-clause-tells
returns-in-Ok-body-clause-tells g c =
    let run : CalledAtMut g.F.FnMut c.args.body.now c.begun.new.self c.body.result c.body.new.self c.body.new.arg2 = record { shown = _; shows = refl; left = _; called = c.body.ensures; leaves = refl } in
    let begun = c.in-Ok.ensures.begun in
    inl (record { answer = begun.0; began = c.begun.new.self; begins = begun.1; here = c.begun.ensures.kept.words; gives = Ok c.in-Ok-body.value; last = c.body.new.arg2; runs = subst (λ (r : Result g.row.R.Denot (Stopped g.row.E.Denot)). CalledAtMut g.F.FnMut c.args.body.now c.begun.new.self r c.body.new.self c.body.new.arg2) c.in-Ok-body.is run; ends = c.ended.ensures.ends; stays = c.ended.ensures.left.words })

pub returns-in-Ok-body-clause-left : goal.returns-in-Ok-body-clause-left
returns-in-Ok-body-clause-left g c keeps =
    let kept = keeps _ _ _ _ _ (record { shown = _; shows = refl; left = _; called = c.body.ensures; leaves = refl }) in
    record {
      words = c.ended.ensures.left.words ∙ kept.words ∙ c.begun.ensures.kept.words;
      mine_is = c.ended.ensures.left.mine_is ∙ ap (λ m. mine_then m c.ended.result) (kept.mine_is ∙ c.begun.ensures.kept.mine_is);
      went = went_on (view_of c.args.self.now.thread.pass) (view_of c.begun.new.self.thread.pass) (view_of c.ended.new.self.thread.pass) c.begun.ensures.kept.went (went_on (view_of c.begun.new.self.thread.pass) (view_of c.body.new.arg2.thread.pass) (view_of c.ended.new.self.thread.pass) kept.went c.ended.ensures.left.went);
    }

pub returns-in-Err-Engine-clause-tells : goal.returns-in-Err-Engine-clause-tells
returns-in-Err-Engine-clause-tells g c =
    let run : CalledAtMut g.F.FnMut c.args.body.now c.begun.new.self c.body.result c.body.new.self c.body.new.arg2 = record { shown = _; shows = refl; left = _; called = c.body.ensures; leaves = refl } in
    let begun = c.in-Ok.ensures.begun in
    inl (record { answer = begun.0; began = c.begun.new.self; begins = begun.1; here = c.begun.ensures.kept.words; gives = Err (Engine c.in-Err-Engine.why); last = c.body.new.arg2; runs = subst (λ (r : Result g.row.R.Denot (Stopped g.row.E.Denot)). CalledAtMut g.F.FnMut c.args.body.now c.begun.new.self r c.body.new.self c.body.new.arg2) (c.in-Err-Engine.is ∙ ap Err c.in-Err-Engine.field-0-is) run; ends = (c.stopped.ensures.given_up, c.stopped.ensures.told ∙ ap (stop_told c.in-Err-Engine.why) (or_not _)); stays = c.stopped.ensures.words })

pub returns-in-Err-Engine-clause-left : goal.returns-in-Err-Engine-clause-left
returns-in-Err-Engine-clause-left g c keeps =
    let kept = keeps _ _ _ _ _ (record { shown = _; shows = refl; left = _; called = c.body.ensures; leaves = refl }) in
    record {
      words = c.stopped.ensures.words ∙ kept.words ∙ c.begun.ensures.kept.words;
      mine_is = ap (λ (p : Pass). (view_of p).mine) c.stopped.ensures.given_up.pass ∙ kept.mine_is ∙ c.begun.ensures.kept.mine_is ∙ sym (stopped_mine _ c.stopped.result c.in-Err-Engine.why _ c.stopped.ensures.told);
      went = subst (λ (p : Pass). Went (view_of c.args.self.now.thread.pass) (view_of p)) (sym c.stopped.ensures.given_up.pass) (went_on (view_of c.args.self.now.thread.pass) (view_of c.begun.new.self.thread.pass) (view_of c.body.new.arg2.thread.pass) c.begun.ensures.kept.went kept.went);
    }

pub returns-in-Err-Cancelled-clause-tells : goal.returns-in-Err-Cancelled-clause-tells
returns-in-Err-Cancelled-clause-tells g c =
    let run : CalledAtMut g.F.FnMut c.args.body.now c.begun.new.self c.body.result c.body.new.self c.body.new.arg2 = record { shown = _; shows = refl; left = _; called = c.body.ensures; leaves = refl } in
    let begun = c.in-Ok.ensures.begun in
    inl (record { answer = begun.0; began = c.begun.new.self; begins = begun.1; here = c.begun.ensures.kept.words; gives = Err (Cancelled c.in-Err-Cancelled.why); last = c.body.new.arg2; runs = subst (λ (r : Result g.row.R.Denot (Stopped g.row.E.Denot)). CalledAtMut g.F.FnMut c.args.body.now c.begun.new.self r c.body.new.self c.body.new.arg2) (c.in-Err-Cancelled.is ∙ ap Err c.in-Err-Cancelled.field-0-is) run; ends = (c.cancelled.ensures.given_up, c.cancelled.ensures.told); stays = c.cancelled.ensures.words })

pub returns-in-Err-Cancelled-clause-left : goal.returns-in-Err-Cancelled-clause-left
returns-in-Err-Cancelled-clause-left g c keeps =
    let kept = keeps _ _ _ _ _ (record { shown = _; shows = refl; left = _; called = c.body.ensures; leaves = refl }) in
    record {
      words = c.cancelled.ensures.words ∙ kept.words ∙ c.begun.ensures.kept.words;
      mine_is = ap (λ (p : Pass). (view_of p).mine) c.cancelled.ensures.given_up.pass ∙ kept.mine_is ∙ c.begun.ensures.kept.mine_is ∙ sym (cancelled_mine _ c.cancelled.result c.in-Err-Cancelled.why _ c.cancelled.ensures.told);
      went = subst (λ (p : Pass). Went (view_of c.args.self.now.thread.pass) (view_of p)) (sym c.cancelled.ensures.given_up.pass) (went_on (view_of c.args.self.now.thread.pass) (view_of c.begun.new.self.thread.pass) (view_of c.body.new.arg2.thread.pass) c.begun.ensures.kept.went kept.went);
    }

pub returns-in-Err-clause-tells : goal.returns-in-Err-clause-tells
returns-in-Err-clause-tells g c =
    inr (record { stop = _; then = c.begun.new.self; begins = c.in-Err.ensures.stopped; here = c.begun.ensures.kept.words; given_up = c.stopped-in-Err.ensures.given_up; stays = c.stopped-in-Err.ensures.words; not_run = refl; told_is = c.stopped-in-Err.ensures.told ∙ ap (stop_told c.in-Err.why) (or_true _) })

pub returns-in-Err-clause-left : goal.returns-in-Err-clause-left
returns-in-Err-clause-left g c keeps = record {
  words = c.stopped-in-Err.ensures.words ∙ c.begun.ensures.kept.words;
  mine_is = ap (λ (p : Pass). (view_of p).mine) c.stopped-in-Err.ensures.given_up.pass ∙ c.begun.ensures.kept.mine_is ∙ sym (stopped_mine _ c.stopped-in-Err.result _ _ c.stopped-in-Err.ensures.told);
  went = subst (λ (p : Pass). Went (view_of c.args.self.now.thread.pass) (view_of p)) (sym c.stopped-in-Err.ensures.given_up.pass) c.begun.ensures.kept.went;
}

pub returns-in-Ok-body-clause-looks : goal.returns-in-Ok-body-clause-looks
returns-in-Ok-body-clause-looks g c keeps goes =
    let kept = keeps _ _ _ _ _ (record { shown = _; shows = refl; left = _; called = c.body.ensures; leaves = refl }) in
    omega (arith, c.in-Ok.ensures.looks, kept.went.looks, c.ended.ensures.left.went.looks)

pub returns-in-Err-Engine-clause-looks : goal.returns-in-Err-Engine-clause-looks
returns-in-Err-Engine-clause-looks g c keeps goes =
    let kept = keeps _ _ _ _ _ (record { shown = _; shows = refl; left = _; called = c.body.ensures; leaves = refl }) in
    omega (arith, c.in-Ok.ensures.looks, kept.went.looks, ap (λ (p : Pass). (view_of p).looks) c.stopped.ensures.given_up.pass)

pub returns-in-Err-Cancelled-clause-looks : goal.returns-in-Err-Cancelled-clause-looks
returns-in-Err-Cancelled-clause-looks g c keeps goes =
    let kept = keeps _ _ _ _ _ (record { shown = _; shows = refl; left = _; called = c.body.ensures; leaves = refl }) in
    omega (arith, c.in-Ok.ensures.looks, kept.went.looks, ap (λ (p : Pass). (view_of p).looks) c.cancelled.ensures.given_up.pass)

pub returns-in-Err-clause-looks : goal.returns-in-Err-clause-looks
returns-in-Err-clause-looks g c keeps goes =
    let told = c.stopped-in-Err.ensures.told ∙ ap (stop_told c.in-Err.why) (or_true _) in
    omega (arith, stopped_looks c.args.self.now.thread c.args.again c.begun.new.self c.stopped-in-Err.result c.in-Err.why c.in-Err.ensures.stopped told goes, ap (λ (p : Pass). (view_of p).looks) c.stopped-in-Err.ensures.given_up.pass)
