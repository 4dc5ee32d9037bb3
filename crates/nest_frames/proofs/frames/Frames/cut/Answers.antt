use Rattle.std.proofs.Common.{ap, ◌∙◌, take}
use Rattle.nest_frames.proofs.Common.{Nest}
use Rattle.nest_frames.proofs.OpenBlocks.{nest_written}
use Rattle.nest_frames.proofs.frames.Frames.cut.Goals as goal

pub returns-clause-new : goal.returns-clause-new
returns-clause-new c =
    let f = c.self.inside in
    nest_written f.writes c.cut.new.self _ f.undo.olds f.undo.size f.moments.most f.actions.room f.actions.actions f.moments.items c.self.invariant c.cut.ensures.marks c.cut.ensures.new
    ∙ ap (λ (v : Nest). record v { writes = record v.writes { rows = take c.args.len v.writes.rows } }) c.self.view_is
