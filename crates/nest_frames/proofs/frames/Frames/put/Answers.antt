use Rattle.std.proofs.Common.{ap, ◌∙◌}
use Rattle.nest_frames.proofs.Common.{Nest, put}
use Rattle.nest_frames.proofs.OpenBlocks.{nest_written}
use Rattle.nest_frames.proofs.frames.Frames.put.Goals as goal

pub returns-clause-new : goal.returns-clause-new
returns-clause-new c =
    let f = c.self.inside in
    nest_written f.writes c.put.new.self _ f.undo.olds f.undo.size f.moments.most f.actions.room f.actions.actions f.moments.items c.self.invariant c.put.ensures.marks c.put.ensures.new
    ∙ ap (λ (v : Nest). record v { writes = record v.writes { rows = put v.writes.rows c.args.word c.args.mask c.args.value } }) c.self.view_is
