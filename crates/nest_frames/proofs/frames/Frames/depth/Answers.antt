use Rattle.std.proofs.Common.{◌≡◌, [], length, ap, subst, ◌∙◌, arith}
use Rattle.nest_frames.proofs.Common.{Nest, unwritten}
use Rattle.nest_frames.proofs.OpenBlocks.{length-frames_of, no_frames}
use Rattle.nest_frames.proofs.frames.Frames.depth.Goals as goal

pub returns-clause-depth : goal.returns-clause-depth
returns-clause-depth c =
    let f = c.self.inside in
    let blocks = ap (λ (v : Nest). length v.blocks) c.self.view_is in
    omega (arith, c.len.ensures.value, length-frames_of f.writes f.undo.olds f.moments.items, blocks)

pub returns-clause-few : goal.returns-clause-few
returns-clause-few c =
    let f = c.self.inside in
    let blocks = ap (λ (v : Nest). length v.blocks) c.self.view_is in
    let most = ap (λ (v : Nest). v.depth) c.self.view_is in
    omega (arith, c.len.ensures.value, c.len.ensures.few, most, length-frames_of f.writes f.undo.olds f.moments.items, blocks)

pub returns-clause-none : goal.returns-clause-none
returns-clause-none c e =
    let f = c.self.inside in
    subst (λ (v : Nest). (v.writes ≡ unwritten) × (v.actions.commits ≡ []) × (v.actions.undos ≡ [])) c.self.view_is
    (no_frames f.writes f.undo.olds f.actions.actions f.moments.items c.self.invariant (ap (λ (v : Nest). v.blocks) c.self.view_is ∙ e))
