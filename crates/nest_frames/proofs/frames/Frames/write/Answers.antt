use Rattle.std.proofs.Common.{IsSome, ap, sym, subst, ◌∙◌}
use Rattle.nest_frames.proofs.Common.{Nest, false≢true, lookup, write}
use Rattle.nest_frames.{proofs.NewRows.IsNew-at_begin, proofs.OpenBlocks.nest_written}
use Rattle.nest_frames.proofs.frames.Frames.write.Goals as goal

pub returns-clause-ok : goal.returns-clause-ok
returns-clause-ok c =
    let f = c.self.inside in
    nest_written f.writes c.write.new.self _ f.undo.olds f.undo.size f.moments.most f.actions.room f.actions.actions f.moments.items c.self.invariant c.write.ensures.marks c.in_ok-write.ensures.ok
    ∙ ap (λ (v : Nest). record v { writes = write v.writes c.args.word c.args.mask c.args.value }) c.self.view_is

pub returns-in_err-write-clause-has_row : goal.returns-in_err-write-clause-has_row
returns-in_err-write-clause-has_row c row none =
    let f = c.self.inside in
    let here = subst (λ (v : Nest). IsSome (lookup c.args.word v.writes.rows)) (sym c.self.view_is) row in
    let new = IsNew-at_begin f.writes f.undo.olds f.actions.actions f.moments.items c.args.word c.args.self.now c.self.invariant (ap (λ (v : Nest). v.blocks) c.self.view_is) c.requires none in
    absurd (false≢true (c.in_err-write.ensures.has_row here new))
