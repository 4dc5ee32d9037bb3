use Rattle.norec_world.proofs.{Actor, Answers, Ended, IsActing, IsAnswered, IsSettledBy, Ran, Records, may_take, Stand, Status, Taken, back_within, others_taken, recorded_acting, room_less, rows_in, settles, stand_of, status_after, tally_of, took_in, ◌≡◌, ◌/◌, ◌++◌, ◌∙◌, sym, ap, refl, subst, arith, Bool, List, ℕ}
use Rattle.world_rules.specs.Sound.{IsRecorded}
use Rattle.tx_runs.specs.PlayerRuns.{KeepsPlaces, MayGoBack, MayTakeIn}
use Rattle.norec_core.specs.Restarts.{IsRestart}
use Rattle.norec_world.proofs.work.settle.Goals.{After-take_in-end}
use Rattle.norec_world.proofs.work.settle.Goals as goal

module _ (g : _) (c : After-take_in-end g) (status : Status) (is : status ≡ status_after c.take_in-end.result) where
  abbrev Last : Actor g.row.P.Denot
  Last = record { run = c.take_in-end.new.self; engine = c.args.actor.now.engine; status = status }

  -- where the engine stands
  abbrev Told : Taken g.row.P.Denot
  Told = took_in g.P.Player c.args.actor.now.run.retries (tally_of c.args.actor.now.run) c.args.call.now c.args.answer.now (stand_of c.args.actor.now.engine)

  told_so : took_in g.P.Player c.args.actor.now.run.retries (tally_of c.args.actor.now.run) c.args.call.now c.args.answer.now (record { is_open = c.is_open-is_open.result; at = c.snapshot-at.result / 2; ran = c.due-ran.result.now; arena = c.bytes-arena.result.now }) ≡ Told
  told_so = λ i. took_in g.P.Player c.args.actor.now.run.retries (tally_of c.args.actor.now.run) c.args.call.now c.args.answer.now (record { is_open = c.is_open-is_open.ensures i; at = c.snapshot-at.ensures i / 2; ran = c.due-ran.ensures i; arena = (c.bytes-arena.ensures ∙ c.arena.ensures) i })

  told : Records g.P.Player (rows_in c.args.ended.now) (rows_in c.take_in-end.new.ended) c.args.actor.now Last c.args.call.now c.args.answer.now
  told = record {
    takes = record {
      tally = c.take_in-end.ensures.taken.0 ∙ ap (λ (t : Taken g.row.P.Denot). t.tally) told_so;
      ended = c.take_in-end.ensures.taken.1 ∙ ap (λ (t : Taken g.row.P.Denot). c.args.ended.now.items ++ t.over) told_so;
      status = is ∙ ap status_after (c.take_in-end.ensures.taken.2 ∙ ap (λ (t : Taken g.row.P.Denot). t.end) told_so);
    };
  }

  settled : (was : Bool) (before : ℕ) → IsAnswered g.P.Player was before c.args.actor.now c.args.call.now c.args.answer.now → IsSettledBy g.P.Player was before c.args.actor.now Last
  settled was before d = settles g.P.Player g.met.P.Player.laws c.args.actor.now c.args.call.now before Last refl c.take_in-end.ensures.same.0 c.take_in-end.ensures.same.1 was c.args.answer.now d told

  acting : IsActing Last
  acting =
      let answered = c.requires.answered in
      recorded_acting g.P.Player (rows_in c.args.ended.now) (rows_in c.take_in-end.new.ended) c.args.actor.now Last c.args.call.now c.requires.acts refl (subst (λ (ran : List Ran). KeepsPlaces ran c.args.actor.now.run.current c.take_in-end.new.self.current) c.due-ran.ensures c.take_in-end.ensures.places)
      answered.0 answered.1 answered.2 told (settled answered.0 answered.1 answered.2).kept.row

  recorded : (was : Bool) (before : ℕ) → IsAnswered g.P.Player was before c.args.actor.now c.args.call.now c.args.answer.now → IsRecorded g.P.Player was before (rows_in c.args.ended.now) c.args.actor.now c.args.call.now (Answers c.args.answer.now) (rows_in c.take_in-end.new.ended) Last
  recorded was before d =
      assumption (settled was before d, told, others_taken d.kept told (λ is. (back_within c.args.answer.now d is).1) c.take_in-end.ensures.same.0 (room_less c.args.ended.now c.take_in-end.new.ended Told.over (told.takes.ended) c.take_in-end.ensures.joined.capacity))

pub take_in-end-requires-clause-again : goal.take_in-end-requires-clause-again
take_in-end-requires-clause-again g c = λ clock word is.
    (let a = c.args.actor.now in
    let back : IsRestart c.args.answer.now = subst IsRestart (sym is) tt in
    let stand : record { is_open = c.is_open-is_open.result; at = c.snapshot-at.result / 2; ran = c.due-ran.result.now; arena = c.bytes-arena.result.now } ≡ stand_of a.engine =
    λ i. record { is_open = c.is_open-is_open.ensures i; at = c.snapshot-at.ensures i / 2; ran = c.due-ran.ensures i; arena = (c.bytes-arena.ensures ∙ c.arena.ensures) i } in
    let deep = (back_within c.args.answer.now c.requires.answered.2 back).0 in
    (omega arith, subst (λ (s : Stand). MayGoBack s a.run.current) (sym stand) (c.requires.acts.renews back)))

pub take_in-end-requires-clause-room : goal.take_in-end-requires-clause-room
take_in-end-requires-clause-room g c = λ no.
    (let a = c.args.actor.now in
    subst (λ (ran : List Ran). MayTakeIn c.args.call.now (record { is_open = c.is_open-is_open.result; at = c.snapshot-at.result / 2; ran = ran; arena = c.bytes-arena.result.now }) a.run.current) (sym c.due-ran.ensures)
    (may_take a c.args.call.now c.args.answer.now c.is_open-is_open.result (c.snapshot-at.result / 2) c.bytes-arena.result.now c.requires.acts no c.is_open-is_open.ensures a.run.current refl))

pub returns-in-Some-clause-acts : goal.returns-in-Some-clause-acts
returns-in-Some-clause-acts g c = acting g (goal.at.returns-in-Some-clause-acts g c).After-take_in-end (Ended c.in-Some.end) (ap status_after (sym c.in-Some.is))

pub returns-in-Some-clause-recorded : goal.returns-in-Some-clause-recorded
returns-in-Some-clause-recorded g c = recorded g (goal.at.returns-in-Some-clause-recorded g c).After-take_in-end (Ended c.in-Some.end) (ap status_after (sym c.in-Some.is))

pub returns-in_default-clause-acts : goal.returns-in_default-clause-acts
returns-in_default-clause-acts g c = acting g (goal.at.returns-in_default-clause-acts g c).After-take_in-end c.args.actor.now.status (c.requires.answered.2.status ∙ ap status_after (sym c.in_default.is))

pub returns-in_default-clause-recorded : goal.returns-in_default-clause-recorded
returns-in_default-clause-recorded g c = recorded g (goal.at.returns-in_default-clause-recorded g c).After-take_in-end c.args.actor.now.status (c.requires.answered.2.status ∙ ap status_after (sym c.in_default.is))
