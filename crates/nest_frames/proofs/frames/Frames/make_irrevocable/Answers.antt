use Rattle.std.proofs.Common.{ap, map, ◌∙◌, []}
use Rattle.nest_frames.proofs.Common.{Nest, made_irrevocable, unwritten}
use Rattle.nest_frames.proofs.ForgottenMoments.{nest_so, sound_so}
use Rattle.nest_frames.proofs.frames.Frames.make_irrevocable.Goals as goal

pub invariant_of-self : goal.invariant_of-self
invariant_of-self c =
    let f = c.self.inside in
    sound_so f.writes c.clear.new.self f.undo.olds c.clear-2.new.self f.actions c.forget_undos.new.self f.moments.items _ f.undo.size f.moments.most c.forget.new.self.most c.clear.ensures c.clear-2.ensures c.forget_undos.ensures c.forget.ensures.items c.forget.ensures.most c.self.invariant

pub returns : goal.returns
returns c =
    let f = c.self.inside in
    nest_so f.writes c.clear.new.self f.undo.olds c.clear-2.new.self f.actions c.forget_undos.new.self f.moments.items _ f.undo.size f.moments.most c.forget.new.self.most c.clear.ensures c.clear-2.ensures c.forget_undos.ensures c.forget.ensures.items c.forget.ensures.most
    ∙ ap (λ (v : Nest). record { writes = unwritten; size = v.size; depth = v.depth; blocks = map made_irrevocable v.blocks; actions = record v.actions { undos = [] }; room = v.room }) c.self.view_is
