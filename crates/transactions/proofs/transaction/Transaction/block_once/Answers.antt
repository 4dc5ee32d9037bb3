use Rattle.std.proofs.Common.{◌∙◌, inl, ap, Result, Ok, Err, refl, subst}
use Rattle.transactions.proofs.Common.{CalledAtMut, Cancelled, Engine, Stopped}
use Rattle.transactions.proofs.transaction.Transaction.block_once.Goals as goal

pub returns-in-Ok-clause-tells : goal.returns-in-Ok-clause-tells
returns-in-Ok-clause-tells g c =
    let run : CalledAtMut g.F.FnMut c.args.body.now c.enter.new.self c.body.result c.body.new.self c.body.new.arg2 = record { shown = _; shows = refl; left = _; called = c.body.ensures; leaves = refl } in
    inl (record { began = c.enter.new.self; enters = c.in_ok-enter.ensures.entered; gives = Ok c.in-Ok.value; last = c.body.new.arg2; runs = subst (λ (r : Result g.row.R.Denot (Stopped g.row.E.Denot)). CalledAtMut g.F.FnMut c.args.body.now c.enter.new.self r c.body.new.self c.body.new.arg2) c.in-Ok.is run; ends = (c.leave-left.result, c.leave-left.ensures, c.told_committed.ensures) })

pub returns-in-Err-Cancelled-clause-tells : goal.returns-in-Err-Cancelled-clause-tells
returns-in-Err-Cancelled-clause-tells g c =
    let run : CalledAtMut g.F.FnMut c.args.body.now c.enter.new.self c.body.result c.body.new.self c.body.new.arg2 = record { shown = _; shows = refl; left = _; called = c.body.ensures; leaves = refl } in
    inl (record { began = c.enter.new.self; enters = c.in_ok-enter.ensures.entered; gives = Err (Cancelled c.in-Err-Cancelled.why); last = c.body.new.arg2; runs = subst (λ (r : Result g.row.R.Denot (Stopped g.row.E.Denot)). CalledAtMut g.F.FnMut c.args.body.now c.enter.new.self r c.body.new.self c.body.new.arg2) (c.in-Err-Cancelled.is ∙ ap Err c.in-Err-Cancelled.field-0-is) run; ends = (c.take_back-left.result, c.take_back-left.ensures, c.told_taken_back.ensures) })

pub returns-in-Err-Engine-clause-tells : goal.returns-in-Err-Engine-clause-tells
returns-in-Err-Engine-clause-tells g c =
    let run : CalledAtMut g.F.FnMut c.args.body.now c.enter.new.self c.body.result c.body.new.self c.body.new.arg2 = record { shown = _; shows = refl; left = _; called = c.body.ensures; leaves = refl } in
    inl (record { began = c.enter.new.self; enters = c.in_ok-enter.ensures.entered; gives = Err (Engine c.in-Err-Engine.why); last = c.body.new.arg2; runs = subst (λ (r : Result g.row.R.Denot (Stopped g.row.E.Denot)). CalledAtMut g.F.FnMut c.args.body.now c.enter.new.self r c.body.new.self c.body.new.arg2) (c.in-Err-Engine.is ∙ ap Err c.in-Err-Engine.field-0-is) run; ends = (c.take_back.result, c.take_back.ensures, refl) })
