use Rattle.std.proofs.Common.{◌≡◌, length, ap, arith}
use Rattle.itm_model.proofs.Common.{Undoable, blocks_of}
use Rattle.itm_model.proofs.OpenBlocks.{length-blocks_of}
use Rattle.itm_model.proofs.plain.Plain.depth.Goals as goal

pub returns : goal.returns
returns c =
    let p = c.self.inside in
    let blocks = length-blocks_of p.irrevocable p.journal.items p.memory.items p.arena.items p.logs.items p.marks.items in
    let view : length (blocks_of p.irrevocable p.journal.items p.memory.items p.arena.items p.logs.items p.marks.items) ≡ length c.args.self.now.state.blocks = ap (λ (u : Undoable). length u.state.blocks) c.self.view_is in
    grind (arith, c.len.ensures, blocks, view)
