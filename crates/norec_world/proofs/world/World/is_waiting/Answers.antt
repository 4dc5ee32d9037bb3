use Rattle.norec_world.proofs.{Actor, ended_there, is_waiting, mapped_none, mapped_some, not_there, option_and_then, some_waiting, waiting_step, slice_get, IsSome, sym, ap, subst, ◌∙◌}
use Rattle.norec_world.proofs.world.World.is_waiting.Goals as goal

pub returns-in-None-clause-ended : goal.returns-in-None-clause-ended
returns-in-None-clause-ended g c off within =
    not_there c.args.self.now c.args.actor within (mapped_none (λ (a : Actor g.row.P.Denot). is_waiting a.status) (slice_get c.args.self.now.actors c.args.actor) (sym c.in-None.is ∙ c.waits.ensures.value))

pub returns-in-Some-clause-waits : goal.returns-in-Some-clause-waits
returns-in-Some-clause-waits g c on =
    let found = mapped_some (λ (a : Actor g.row.P.Denot). is_waiting a.status) (slice_get c.args.self.now.actors c.args.actor) c.in-Some.waits (sym c.in-Some.is ∙ c.waits.ensures.value) in
    subst IsSome (sym (ap (option_and_then (λ (a : Actor g.row.P.Denot). waiting_step a.status)) found.1)) (some_waiting found.0.status (found.2 ∙ on))

pub returns-in-Some-clause-ended : goal.returns-in-Some-clause-ended
returns-in-Some-clause-ended g c off within =
    let found = mapped_some (λ (a : Actor g.row.P.Denot). is_waiting a.status) (slice_get c.args.self.now.actors c.args.actor) c.in-Some.waits (sym c.in-Some.is ∙ c.waits.ensures.value) in
    ended_there c.args.self.now c.args.actor c.waits.ensures.sound found.0 found.1 (found.2 ∙ off)
