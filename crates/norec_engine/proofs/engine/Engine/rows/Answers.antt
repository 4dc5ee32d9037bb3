use Rattle.std.proofs.Common.{refl, subst}
use Rattle.norec_engine.proofs.Common.{StoresRows}
use Rattle.norec_engine.proofs.RowSteps.{asking_fields, exchanges, stores_rows}
use Rattle.norec_engine.proofs.engine.Engine.rows.Goals as goal

pub returns-clause-stores : goal.returns-clause-stores
returns-clause-stores c =
    let s = c.self.inside in
    let x = exchanges s.irrevocable s.state s.pending c.args.self.now c.self.view_is c.self.invariant c.requires.back in
    subst StoresRows x.same (stores_rows (asking_fields s.state x.spent x.entry x.tries) refl x.sound)
