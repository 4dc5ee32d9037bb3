use Rattle.std.proofs.Common.{◌+◌, inl, subst, sym}
use Rattle.itm_runtime.proofs.Common.{Asks, Cas, Core, Finds, InCall, fits_of, found_further, found_in, view_of, waits_of}
use Rattle.itm_runtime.specs.Blocks.{RowsStored}
use Rattle.itm_runtime.proofs.rounds.commit_again.Goals as goal

pub write_back-requires : goal.write_back-requires
write_back-requires g c =
    let d = c.requires.due in
    let e = c.args.engine.now in
    record {
      own = c.requires.own;
      back = inl c.requires.takes;
      due = (d.0, subst (λ (x : Core). InCall d.0 (view_of c.args.pass.now) x (Cas 0 e.snapshot (e.snapshot + 1))) (sym c.requires.takes.asked) d.1);
    }

pub resume_into-requires-clause-waits : goal.resume_into-requires-clause-waits
resume_into-requires-clause-waits g c =
    let s = c.requires.due.0 in
    let e = c.args.engine.now in
    let f = subst (λ (x : Core). Finds c.args.words.now (view_of c.args.pass.now) x (Asks (Cas 0 e.snapshot (e.snapshot + 1))) c.in-Err.found c.write_back.new.pass x) c.requires.takes.asked c.in-Err.ensures.found in
    waits_of s f.before _ f.step (found_in c.args.words.now (view_of c.args.pass.now) e (Cas 0 e.snapshot (e.snapshot + 1)) s c.requires.due.1 c.requires.own.over _ _ _ f)

pub resume_into-requires-clause-fits : goal.resume_into-requires-clause-fits
resume_into-requires-clause-fits g c =
    let s = c.requires.due.0 in
    let e = c.args.engine.now in
    let f = subst (λ (x : Core). Finds c.args.words.now (view_of c.args.pass.now) x (Asks (Cas 0 e.snapshot (e.snapshot + 1))) c.in-Err.found c.write_back.new.pass x) c.requires.takes.asked c.in-Err.ensures.found in
    fits_of s f.before _ _ _ f.step (found_in c.args.words.now (view_of c.args.pass.now) e (Cas 0 e.snapshot (e.snapshot + 1)) s c.requires.due.1 c.requires.own.over _ _ _ f) f.stepped.turn

pub returns-in-Ok : goal.returns-in-Ok
returns-in-Ok g c =
    let s = c.requires.due.0 in
    let e = c.args.engine.now in
    let r = subst (λ (x : Core). RowsStored c.args.words.now (view_of c.args.pass.now) x (Asks (Cas 0 e.snapshot (e.snapshot + 1))) x c.in-Ok.loads c.write_back.new.pass) c.requires.takes.asked c.in-Ok.ensures.stored in
    found_further c.args.words.now (view_of c.args.pass.now) e (Cas 0 e.snapshot (e.snapshot + 1)) s c.requires.due.1 c.requires.own.over _ _ _ r.finds _ _ (c.rows_stored-at.ensures r.freed)

pub returns-in-Err : goal.returns-in-Err
returns-in-Err g c =
    let s = c.requires.due.0 in
    let e = c.args.engine.now in
    let f = subst (λ (x : Core). Finds c.args.words.now (view_of c.args.pass.now) x (Asks (Cas 0 e.snapshot (e.snapshot + 1))) c.in-Err.found c.write_back.new.pass x) c.requires.takes.asked c.in-Err.ensures.found in
    found_further c.args.words.now (view_of c.args.pass.now) e (Cas 0 e.snapshot (e.snapshot + 1)) s c.requires.due.1 c.requires.own.over _ _ _ f _ _ c.resume_into.ensures
