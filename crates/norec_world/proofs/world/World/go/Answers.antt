use Rattle.norec_world.proofs.{Actor, Goes, WorldFault, event_result, goes_no_more, goes_nowhere, is_waiting, mapped_none, mapped_some, option_and_then, some_waiting, waiting_step, slice_get, IsSome, Result, sym, ap, subst, ◌∙◌}
use Rattle.norec_world.proofs.world.World.go.Goals as goal

pub returns-in-None-clause-goes : goal.returns-in-None-clause-goes
returns-in-None-clause-goes g c =
    goes_nowhere g.P.Player c.args.self.now c.args.actor
    c.waits.ensures.commits c.waits.ensures.opaque c.waits.ensures.tied
    (mapped_none (λ (a : Actor g.row.P.Denot). is_waiting a.status) (slice_get c.args.self.now.actors c.args.actor) (sym c.in-None.is ∙ c.waits.ensures.value))

pub returns-in-Some-false-clause-goes : goal.returns-in-Some-false-clause-goes
returns-in-Some-false-clause-goes g c =
    let found = mapped_some (λ (a : Actor g.row.P.Denot). is_waiting a.status) (slice_get c.args.self.now.actors c.args.actor) c.in-Some-false.field-0 (sym c.in-Some-false.is ∙ c.waits.ensures.value) in
    goes_no_more g.P.Player c.args.self.now c.args.actor
    c.waits.ensures.commits c.waits.ensures.opaque c.waits.ensures.tied
    found.0 found.1 (found.2 ∙ c.in-Some-false.field-0-test) (c.waits.ensures.sound.each c.args.actor found.0 found.1).done

pub event-goes_on-requires : goal.event-goes_on-requires
event-goes_on-requires g c =
    let found = mapped_some (λ (a : Actor g.row.P.Denot). is_waiting a.status) (slice_get c.args.self.now.actors c.args.actor) c.in-Some-true.field-0 (sym c.in-Some-true.is ∙ c.waits.ensures.value) in
    let step_is = ap (option_and_then (λ (a : Actor g.row.P.Denot). waiting_step a.status)) found.1 in
    subst IsSome (sym step_is) (some_waiting found.0.status (found.2 ∙ c.in-Some-true.field-0-test))

pub returns-in-Some-true-clause-goes : goal.returns-in-Some-true-clause-goes
returns-in-Some-true-clause-goes g c =
    subst (λ (r : Result (Unit {0}) WorldFault). Goes g.P.Player c.args.actor c.args.self.now r c.event-goes_on.new.self) (ap event_result (sym c.ending.ensures) ∙ sym c.event_result.ensures) c.event-goes_on.ensures.goes
