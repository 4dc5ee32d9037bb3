use Rattle.std.proofs.Common.{◌≡◌, ◌<◌, inl, inr, length, ap, arith, ◌∙◌}
use Rattle.nest_frames.proofs.Common.{Nest, Written, cases_Bool, write}
use Rattle.nest_frames.proofs.OpenBlocks.{nest_written, length-frames_of, IsSound-kept}
use Rattle.nest_frames.proofs.frames.Frames.write_found.Goals as goal

pub returns-clause-written : goal.returns-clause-written
returns-clause-written c done =
    let f = c.self.inside in
    nest_written f.writes c.write_found.new.self _ f.undo.olds f.undo.size f.moments.most f.actions.room f.actions.actions f.moments.items c.self.invariant c.write_found.ensures.marks (c.write_found.ensures.written done)
    ∙ ap (λ (v : Nest). record v { writes = write v.writes c.args.word c.args.mask c.args.value }) c.self.view_is

pub invariant_of-self : goal.invariant_of-self
invariant_of-self c =
    let f = c.self.inside in
    let blocks = ap (λ (v : Nest). length v.blocks) c.self.view_is in
    let some : 0 < length f.moments.items = omega (arith, c.requires, blocks, length-frames_of f.writes f.undo.olds f.moments.items) in
    let inner : c.write_found.new.self.inner ≡ f.writes.inner = elim (cases_Bool c.write_found.result) [
      | inl done ↦ ap (λ (w : Written). w.inner) (c.write_found.ensures.written done)
      | inr not ↦ ap (λ (w : Written). w.inner) (c.write_found.ensures.none not)
    ] in
    IsSound-kept f.writes c.write_found.new.self f.undo.olds f.undo.olds f.actions.actions f.moments.items c.self.invariant inner (omega arith) some
