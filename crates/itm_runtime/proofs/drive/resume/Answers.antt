use Rattle.std.proofs.Common.{refl}
use Rattle.itm_runtime.proofs.Common.{cells_of, fits_of, goes, then_finishes, view_of, waits_of}
use Rattle.itm_runtime.proofs.drive.resume.Goals as goal

pub resume_into-next-requires : goal.resume_into-next-requires
resume_into-next-requires g c =
    let d = c.requires.done.1 in
    record {
      waits = waits_of c.requires.done.0 _ _ _ d.in_call;
      fits = fits_of c.requires.done.0 _ _ _ _ d.step d.in_call d.turn;
    }

pub finish-requires-clause-due : goal.finish-requires-clause-due
finish-requires-clause-due g c =
    let d = c.requires.done.1 in
    let r = c.resume_into-next.ensures in
    (c.requires.done.0, goes (cells_of c.args.words.now) d.before (view_of c.args.pass.now) d.over c.requires.own.over c.args.engine.now c.resume_into-next.new.self d.step c.args.seen d.turn _ r c.requires.done.0 d.in_call)

pub returns : goal.returns
returns g c v step stepped = then_finishes refl stepped.moves stepped.turn c.requires.own c.resume_into-next.ensures c.finish.ensures
