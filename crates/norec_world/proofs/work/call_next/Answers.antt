use Rattle.std.proofs.Common.{◌≡◌, ℕ, Option, None, Some, refl, sym, ap, subst, ◌∙◌, ◌++◌}
use Rattle.norec_world.proofs.{Actor, Answer, Answers, Asks, Core, IsTied, MayRunOn, Outcome, PlayerRun, Stage, Stand, Starves, StatusIs, Step, Waits, after_undoing, answer_falls, call_taken, call_worked, calling, due, finish_worked, idle_still, in_transaction, next_in, others_place, others_twice, over_as, rests, rows_in, stage_of, stand_of, starve_worked, tally_of, with_room}
use Rattle.event_rules.proofs.Engines.SoundSteps.{mid}
use Rattle.tx_runs.{specs.Ranks.restarts_left, specs.Tallies.begins, specs.Tallies.outside, specs.Tallies.within}
use Rattle.tx_attempts.specs.declared.attempt.Outcome.TheVariants as outcomes
use Rattle.norec_world.proofs.work.call_next.Goals as goal

-- what the engine gave, by what it told
as_step : (a : Answer) {o : Option Step} {step : Step} → o ≡ Some step → next_in o a ≡ Asks step
as_step a e = ap (λ (n : Option Step). next_in n a) e

as_answer : (a : Answer) {o : Option Step} → o ≡ None → next_in o a ≡ Answers a
as_answer a e = ap (λ (n : Option Step). next_in n a) e

-- the room that it had is no matter where an attempt is over
over_room : (outcome : Outcome) (s : Stand) (room : ℕ) (stage : Stage) → over_as outcome s (with_room room stage) ≡ over_as outcome s stage
over_room outcome s room outside = refl
over_room outcome s room (begins row) = refl
over_room outcome s room (within row points) = refl

pub settle-requires : goal.settle-requires
settle-requires g c = record {
  answered = (
    in_transaction c.args.actor.now.engine,
    _,
    due (call_taken (calling c.requires.sound c.requires.ready (as_answer c.ask.new.answer c.in-Ok-None.field-0-is) c.in-Ok-None.ensures.asked.asked c.in-Ok-None.ensures.asked.told c.ask.ensures.place)),
  );
  place = c.ask.ensures.place;
  acts = subst (MayRunOn c.ask.new.actor c.in-Some.call) (as_answer c.ask.new.answer c.in-Ok-None.field-0-is) c.in-Ok-None.ensures.asked.acts;
}

pub returns-in_default-clause-worked : goal.returns-in_default-clause-worked
returns-in_default-clause-worked g c = finish_worked g.met.P.Player.laws c.requires.sound c.requires.ready (sym c.next.ensures ∙ c.in_default.is)

pub returns-in-Ok-Some-clause-worked : goal.returns-in-Ok-Some-clause-worked
returns-in-Ok-Some-clause-worked g c =
    let m = calling c.requires.sound c.requires.ready (as_step c.ask.new.answer c.in-Ok-Some.field-0-is) c.in-Ok-Some.ensures.asked.asked c.in-Ok-Some.ensures.asked.told c.ask.ensures.place in
    call_worked g.met.P.Player.laws m (rows_in c.ask.new.ended) (record c.ask.new.actor { status = Waits c.in-Some.call c.in-Ok-Some.step }) (refl, refl) (refl, refl) (sym c.next.ensures ∙ c.in-Some.is) (let o = c.ask.ensures.others in record { thread = o.thread; more = o.more; ended = o.ended; mine = o.mine; room = o.room }) (subst (MayRunOn c.ask.new.actor c.in-Some.call) (as_step c.ask.new.answer c.in-Ok-Some.field-0-is) c.in-Ok-Some.ensures.asked.acts)

pub returns-in-Ok-None-clause-worked : goal.returns-in-Ok-None-clause-worked
returns-in-Ok-None-clause-worked g c =
    let m = calling c.requires.sound c.requires.ready (as_answer c.ask.new.answer c.in-Ok-None.field-0-is) c.in-Ok-None.ensures.asked.asked c.in-Ok-None.ensures.asked.told c.ask.ensures.place in
    let was = in_transaction c.args.actor.now.engine in
    let d = due (call_taken m) in
    call_worked g.met.P.Player.laws m (rows_in c.settle.new.ended) c.settle.new.actor ((c.settle.ensures.recorded was (restarts_left (mid m)) d).done) ((c.settle.ensures.recorded was (restarts_left (mid m)) d).tells) (sym c.next.ensures ∙ c.in-Some.is)
    (others_twice c.args.actor.now c.ask.new.actor c.settle.new.actor (rows_in c.args.ended.now) (rows_in c.ask.new.ended) (rows_in c.settle.new.ended) c.ask.ensures.others ((c.settle.ensures.recorded was (restarts_left (mid m)) d).others)) c.settle.ensures.acts

pub returns-in-Ok-None-clause-falls : goal.returns-in-Ok-None-clause-falls
returns-in-Ok-None-clause-falls g c =
    let m = calling c.requires.sound c.requires.ready (as_answer c.ask.new.answer c.in-Ok-None.field-0-is) c.in-Ok-None.ensures.asked.asked c.in-Ok-None.ensures.asked.told c.ask.ensures.place in
    answer_falls m (c.settle.ensures.recorded (in_transaction c.args.actor.now.engine) (restarts_left (mid m)) (due (call_taken m))).done

pub returns-in-Err-clause-worked : goal.returns-in-Err-clause-worked
returns-in-Err-clause-worked g c =
    let a = c.args.actor.now in
    let x = c.ask.new.actor in
    let last = c.starve.new.actor in
    let u = c.in-Err.ensures.refused.unasked in
    let rows = rows_in c.ask.new.ended in
    let r1 = rows_in c.starve.new.ended in
    let starved = c.starve.ensures in
    let engine = ap (λ (y : Actor g.row.P.Denot). y.engine) u.actor in
    let run = ap (λ (y : Actor g.row.P.Denot). y.run) u.actor in
    let irrevocable = ap (λ (e : Core). e.irrevocable) engine in
    let left : last.engine ≡ after_undoing a.engine = starved.engine ∙ ap after_undoing engine in
    let others = others_twice a x last (rows_in c.args.ended.now) rows r1 c.ask.ensures.others starved.others in
    let s : Starves g.P.Player (rows_in c.args.ended.now) a r1 last = record {
      call = c.in-Some.call;
      next_is = sym c.next.ensures ∙ c.in-Some.is;
      grows = c.in-Err.ensures.refused.grows;
      used = c.in-Err.ensures.refused.used;
      status = starved.status;
      same = record { thread = starved.same.0 ∙ ap (λ (y : PlayerRun g.row.P.Denot). y.thread) run; retries = starved.same.1 ∙ ap (λ (y : PlayerRun g.row.P.Denot). y.retries) run; nothing = λ e. absurd (let z = sym starved.status ∙ e in cc) };
      engine = left;
      stops = λ revocable.
          (let t = starved.stops (irrevocable ∙ revocable) in
          record {
            tally = t.tally ∙ (λ i. record (tally_of (run i)) { stage = outside });
            ended = t.ended ∙ (λ i. c.ask.ensures.ended i ++ (ap (over_as outcomes.NoMemory (stand_of last.engine)) u.stage.1 ∙ over_room outcomes.NoMemory (stand_of last.engine) u.stage.0 (stage_of a.run.current)) i);
            status = t.status;
          });
      held = λ i.
          (let h = starved.held (irrevocable ∙ i) in
          let same = ap (λ (y : Actor g.row.P.Denot). y.run) h.1 in
          record {
            ended = h.0 ∙ c.ask.ensures.ended;
            run = same ∙ (run ∙ ap (λ (y : PlayerRun g.row.P.Denot). record a.run { current = y.current }) (sym same));
            room = u.stage.0;
            stage = ap (λ (y : PlayerRun g.row.P.Denot). stage_of y.current) same ∙ u.stage.1;
          });
    } in
    starve_worked g.met.P.Player.laws c.requires.sound c.requires.ready r1 last
    (record {
      tied = starved.tied c.args.memory.now (subst (IsTied c.args.memory.now) (sym engine) c.requires.sound.tied);
      kept = starved.kept;
      acts = starved.acts;
      status = subst (StatusIs g.P.Player last) (sym starved.status) (idle_still a.engine last.engine left (rests c.requires.sound c.requires.ready).idle);
      place = others_place others c.requires.sound.place;
    })
    s others
