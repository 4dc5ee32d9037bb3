use Rattle.std.proofs.Common.{length, subst, ◌≡◌}
use Rattle.nest_frames.proofs.Common.{Nest, rows_of}
use Rattle.nest_frames.proofs.NewRows.{inner-at_begin}
use Rattle.nest_frames.proofs.frames.Frames.len.Goals as goal

pub returns-clause-begun : goal.returns-clause-begun
returns-clause-begun c =
    let f = c.self.inside in
    subst (λ (v : Nest). v.writes.inner.rows ≡ length (rows_of v.blocks)) c.self.view_is
    (inner-at_begin f.writes f.undo.olds f.actions.actions f.moments.items c.self.invariant c.len.ensures.marks)
