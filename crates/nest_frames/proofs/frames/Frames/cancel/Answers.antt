use Rattle.std.proofs.Common.{drop, ap, ◌∙◌}
use Rattle.nest_frames.proofs.Common.{Nest, Undo, frames_of}
use Rattle.nest_frames.proofs.OpenBlocks.{moment_popped, frames_cancelled}
use Rattle.nest_frames.proofs.frames.Frames.cancel.Goals as goal

pub returns-clause-blocks : goal.returns-clause-blocks
returns-clause-blocks c =
    let f = c.self.inside in
    let olds = f.undo.olds in
    let moments = f.moments.items in
    let h = moment_popped f.writes olds f.actions.actions moments c.pop.new.self.items _ c.in-Some.cancelled c.self.invariant c.pop.ensures.items c.in-Some.is in
    let rest = c.pop.new.self.items in
    ap (λ (u : Undo). frames_of c.back_to.new.self u.olds rest) c.back_to-2.ensures.log
    ∙ (frames_cancelled f.writes c.back_to.new.self olds f.actions.actions moments rest c.in-Some.cancelled h c.back_to.ensures.marks
    ∙ ap (λ (v : Nest). drop 1 v.blocks) c.self.view_is)
