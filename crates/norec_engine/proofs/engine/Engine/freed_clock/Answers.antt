use Rattle.std.proofs.Common.{◌≡◌, ◌+◌, [], length, ap, refl, subst, sym}
use Rattle.norec_engine.proofs.Common.{Commit, Core, Store, last_stage, next_step, step_in}
use Rattle.norec_engine.proofs.RowSteps.{exchanges}
use Rattle.norec_engine.proofs.engine.Engine.freed_clock.Goals as goal

pub returns : goal.returns
returns c =
    let s = c.self.inside in
    let x = exchanges s.irrevocable s.state s.pending c.args.self.now c.self.view_is c.self.invariant c.requires.back in
    let d = s.state in
    let rows = d.frames.writes.rows in
    let step : step_in d.log.rows d.snapshot rows [] _ ≡ Store 0 (d.snapshot + 2) = sym (ap (step_in d.log.rows d.snapshot rows []) (last_stage Commit rows (length rows) refl)) in
    subst (λ (e : Core). next_step e (length e.writes) ≡ Store 0 (d.snapshot + 2)) x.same step
