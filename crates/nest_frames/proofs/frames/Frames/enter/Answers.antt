use Rattle.std.proofs.Common.{length, ap, arith}
use Rattle.nest_frames.proofs.Common.{Nest}
use Rattle.nest_frames.proofs.OpenBlocks.{length-frames_of}
use Rattle.nest_frames.proofs.frames.Frames.enter.Goals as goal

pub push-requires-2 : goal.push-requires-2
push-requires-2 c =
    let f = c.self.inside in
    let blocks = ap (λ (v : Nest). length v.blocks) c.self.view_is in
    let most = ap (λ (v : Nest). v.depth) c.self.view_is in
    omega (arith, c.requires, blocks, most, length-frames_of f.writes f.undo.olds f.moments.items)
