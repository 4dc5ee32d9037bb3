use Rattle.std.proofs.Common.{◌≡◌, ◌/◌, ◌++◌, List, refl, sym, subst, ◌∙◌}
use Rattle.itm_types.specs.declared.call.Ran.{Ran}
use Rattle.tx_attempts.specs.declared.attempt.Outcome.TheVariants as outcomes
use Rattle.tx_runs.{specs.PlayerRuns.MayStop, specs.PlayerRuns.stage_of, specs.Tallies.Stand, specs.Tallies.over_as, specs.Tallies.stand_of}
use Rattle.norec_core.{specs.declared.answer.Undone.TheVariants.Held, specs.Undoing.undone_of}
use Rattle.worker_rules.specs.Worker.{Worker}
use Rattle.worker_rules.specs.Workers.{IsHungry}
use Rattle.worker_rules.proofs.Laws.Starves.{holds_on, may_stop, may_tell, starves, told_by}
use Rattle.tx_worker.proofs.worker.Worker.starve.Goals as goal

pub ran-told-requires : goal.ran-told-requires
ran-told-requires g c = told_by c.requires.5

pub stop-requires : goal.stop-requires
stop-requires g c =
    let r = c.requires in
    let k = subst (λ (w : Worker g.row.P.Denot). IsHungry g.P.Player r.0 r.1 r.2 r.3 r.4 w) (sym c.self.view_is) r.5 in
    let a = c.abort.ensures in
    let given_up : undone_of c.self.inside.thread.engine ≡ Held → ⊥ = λ e. c.in_default.not-Held (a.undone ∙ e) in
    record {
      room = subst (λ (ran : List Ran). MayStop (c.snapshot-at.result / 2) ran c.self.inside.run.current) (sym c.due.ensures) (may_stop k c.abort.new.self a.engine a.pass given_up);
      place = may_tell k c.abort.new.self a.engine a.pass given_up;
    }

pub returns-in-Held-clause-stopped : goal.returns-in-Held-clause-stopped
returns-in-Held-clause-stopped g c words course b old call shuts is =
    let k = subst (λ (w : Worker g.row.P.Denot). IsHungry g.P.Player words course b old call w) (sym c.self.view_is) is in
    let a = c.abort.ensures in
    holds_on k c.abort.new.self a.engine a.pass (sym a.undone ∙ c.in-Held.is) shuts a.stands

pub returns-in_default : goal.returns-in_default
returns-in_default g c = record {
  end = refl;
  stopped = λ words course b old call shuts is.
      (let w = c.self.inside in
      let k = subst (λ (w : Worker g.row.P.Denot). IsHungry g.P.Player words course b old call w) (sym c.self.view_is) is in
      let a = c.abort.ensures in
      let new : Worker g.row.P.Denot = record { run = c.stop.new.self; thread = c.abort.new.self; ended = c.stop.new.ended; calls = w.calls } in
      let told : Stand = record { is_open = (stand_of c.abort.new.self.engine).is_open; at = c.snapshot-at.result / 2; ran = c.due.result.now; arena = c.abort.new.self.engine.arena } in
      let same : told ≡ stand_of c.abort.new.self.engine = λ i. record { is_open = (stand_of c.abort.new.self.engine).is_open; at = c.snapshot-at.ensures.value i / 2; ran = c.due.ensures i; arena = c.abort.new.self.engine.arena } in
      starves k c.abort.new.self a.engine a.pass (λ e. c.in_default.not-Held (a.undone ∙ e)) shuts a.stands new refl c.stop.ensures.run
      (subst (λ (s : Stand). c.stop.new.ended.items ≡ w.ended.items ++ over_as outcomes.NoMemory s (stage_of w.run.current)) same (c.stop.ensures.over told.is_open told.arena)));
}
