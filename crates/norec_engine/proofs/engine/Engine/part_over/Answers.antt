use Rattle.std.proofs.Common.{◌<◌, ◌∙◌, Some, length, ap, subst, sym}
use Rattle.norec_engine.proofs.Common.{Core, Row, value_into, write_at, write_at_of}
use Rattle.norec_engine.proofs.RowSteps.{exchanges}
use Rattle.norec_engine.proofs.engine.Engine.part_over.Goals as goal

pub row-written-requires : goal.row-written-requires
row-written-requires c =
    let s = c.self.inside in
    let x = exchanges s.irrevocable s.state s.pending c.args.self.now c.self.view_is c.self.invariant c.requires.back in
    subst (λ (e : Core). c.args.row < length e.writes) (sym x.same) c.requires.within

pub returns : goal.returns
returns c =
    let s = c.self.inside in
    let x = exchanges s.irrevocable s.state s.pending c.args.self.now c.self.view_is c.self.invariant c.requires.back in
    c.merge.ensures.value
    ∙ (ap (λ (r : Row). value_into r (Some c.args.found)) (sym (write_at_of s.state.frames.writes.rows c.args.row c.row-written.result c.row-written.ensures.row))
    ∙ ap (λ (e : Core). value_into (write_at e.writes c.args.row) (Some c.args.found)) x.same)
