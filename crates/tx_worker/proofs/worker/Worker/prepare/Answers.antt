use Rattle.std.proofs.Common.{OnErr, sym, subst}
use Rattle.tx_runs.specs.Currents.{Current}
use Rattle.worker_rules.{specs.Worker.Worker, specs.Workers.IsWorking, specs.Workers.LacksFor, proofs.Laws.Shortages.unprepared}
use Rattle.tx_worker.proofs.worker.Worker.prepare.Goals as goal

pub returns-in-Some-clause-unready : goal.returns-in-Some-clause-unready
returns-in-Some-clause-unready g c =
    let k = c.requires.works in
    let works = subst (λ (w : Worker g.row.P.Denot). IsWorking g.P.Player k.0 k.1 k.2 w) (sym c.self.view_is) k.3 in
    let x = c.prepare.ensures in
    rw (← c.self.view_is) (unprepared works c.args.call.now c.in-Some.open.now c.prepare.new.attempt c.in-Some.ensures.value c.prepare.result x.err x.points x.kept.0)

pub returns-in-Some-clause-short : goal.returns-in-Some-clause-short
returns-in-Some-clause-short g c =
    rw (← c.self.view_is) (subst (λ (y : Current). OnErr c.prepare.result (LacksFor c.self.inside.thread.engine c.args.call.now y)) (sym c.in-Some.ensures.value) c.prepare.ensures.short)
