use Rattle.std.proofs.Common.{refl}
use Rattle.itm_runtime.proofs.Common.{Load, cells_of, goes, then_finishes, view_of}
use Rattle.itm_runtime.proofs.drive.finish_moved.Goals as goal

pub finish-requires-clause-due : goal.finish-requires-clause-due
finish-requires-clause-due g c =
    let r = c.resume_into-next.ensures in
    let d = c.requires.due in
    (d.0, goes (cells_of c.args.words.now) d.1 (view_of c.args.pass.now) d.2 c.requires.own.over c.args.engine.now c.resume_into-next.new.self (Load 0) c.args.clock d.4 _ r d.0 d.3)

pub returns : goal.returns
returns g c v stepped = then_finishes refl stepped.moves stepped.turn c.requires.own c.resume_into-next.ensures c.finish.ensures
