use Rattle.std.proofs.Common.{◌+◌, ◌≤◌, refl, ◌∙◌, arith}
use Rattle.step_picture.proofs.Common.{ItemFirst, SoMany, Take, both_many, err_from_is_err_and, none_of}
use Rattle.step_picture.proofs.GatheredMarks.{gathered_none, gathered_on, stopped_on}
use Rattle.step_picture.proofs.gathering.gather_events.Goals as goal

pub loop-taken-init : goal.loop-taken-init
loop-taken-init g c = record {
  gathers = gathered_none c.args.view.now (SoMany g.P.Player c.args.thread 0) c.args.world.now c.args.marks.now.items (none_of g.P.Player c.args.thread c.args.world.now, refl);
  actors = refl;
}

pub loop-taken-preserved : goal.loop-taken-preserved
loop-taken-preserved g c =
    let before = c.loop-taken.invariant in
    record {
      gathers = gathered_on c.args.view.now (SoMany g.P.Player c.args.thread c.loop-taken._taken) (SoMany g.P.Player c.args.thread 1) (SoMany g.P.Player c.args.thread (c.loop-taken._taken + 1)) c.args.world.now c.loop-taken.world c.gather_event.new.world _ _ _ (both_many g.P.Player c.args.thread c.loop-taken._taken 1 c.args.world.now c.loop-taken.world c.gather_event.new.world) before.gathers c.in_ok-gather_event.ensures.gathers;
      actors = c.gather_event.ensures.actors ∙ before.actors;
    }

pub returns-in_err-gather_event-clause-gathers : goal.returns-in_err-gather_event-clause-gathers
returns-in_err-gather_event-clause-gathers g c =
    let p = err_from_is_err_and c.from_residual.result c.from_residual.ensures.1 in
    let n = c.loop-taken._taken in
    let within : n + 1 ≤ c.args.count = omega arith in
    rw p.1 (stopped_on c.args.view.now (SoMany g.P.Player c.args.thread n) (SoMany g.P.Player c.args.thread 1) (ItemFirst g.P.Player (Take c.args.thread c.args.count)) c.args.world.now c.loop-taken.world c.gather_event.new.world _ _ _
    (λ xs ys p q. (let both = both_many g.P.Player c.args.thread n 1 c.args.world.now c.loop-taken.world c.gather_event.new.world xs ys p q in (both.0, (let long = both.1 in omega (arith, long, within)))))
    c.loop-taken.invariant.gathers c.in_err-gather_event.ensures.gathers)

pub returns-then-not-is_waiting-clause-gathers : goal.returns-then-not-is_waiting-clause-gathers
returns-then-not-is_waiting-clause-gathers g c =
    let before = c.loop-taken.invariant in
    let ended = c.is_waiting.ensures.ended c.if-not-is_waiting.true (omega (arith, c.requires, before.actors)) in
    (before.gathers.0, (before.gathers.1.0, (let long = before.gathers.1.1 in omega (arith, long)), λ less. ended), before.gathers.2)

pub returns-clause-gathers : goal.returns-clause-gathers
returns-clause-gathers g c =
    let at_end = c.loop-taken.invariant in
    let long = at_end.gathers.1.1 in
    (at_end.gathers.0, (at_end.gathers.1.0, omega (arith, long), λ less. absurd (omega (arith, long, less))), at_end.gathers.2)
