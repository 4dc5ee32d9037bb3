use Rattle.norec_world.proofs.{goes_after, going_in, less_after, told_after, world_after, world_of, world_tied, sym}
use Rattle.norec_world.proofs.world.World.event_told.Goals as goal

pub step-requires-clause-sound : goal.step-requires-clause-sound
step-requires-clause-sound g c = (c.self.invariant.actors.each c.args.actor c.index_mut-acting.result.now (going_in c.self.view_is c.args.actor c.index_mut-acting.result.now c.requires c.index_mut-acting.ensures.value).0).sound

-- its open attempt stands where its engine reads
pub step-requires-clause-reads : goal.step-requires-clause-reads
step-requires-clause-reads g c row e =
    (world_tied g.P.Player g.met.P.Player.laws (world_of c.self.inside) c.self.invariant).reads c.args.actor c.index_mut-acting.result.now row (going_in c.self.view_is c.args.actor c.index_mut-acting.result.now c.requires c.index_mut-acting.ensures.value).0 e

pub step-requires-clause-waits : goal.step-requires-clause-waits
step-requires-clause-waits g c = (going_in c.self.view_is c.args.actor c.index_mut-acting.result.now c.requires c.index_mut-acting.ensures.value).1

pub invariant_of-self : goal.invariant_of-self
invariant_of-self g c =
    world_after g.met.P.Player.laws c.self.view_is c.self.invariant c.args.actor c.index_mut-acting.result.now c.requires c.index_mut-acting.ensures.value c.step.ensures c.work.ensures.worked c.work.ensures.done c.saturating_add-self-inside.result

pub returns-clause-goes : goal.returns-clause-goes
returns-clause-goes g c =
    goes_after g.met.P.Player.laws c.self.view_is c.self.invariant c.args.actor c.index_mut-acting.result.now c.requires c.index_mut-acting.ensures.value c.step.ensures c.work.ensures.worked c.work.ensures.done c.saturating_add-self-inside.result c.saturating_add-self-inside.ensures

pub returns-clause-less : goal.returns-clause-less
returns-clause-less g c =
    less_after g.met.P.Player.laws c.self.view_is c.self.invariant c.args.actor c.index_mut-acting.result.now c.requires c.index_mut-acting.ensures.value c.step.ensures c.work.ensures.worked c.work.ensures.done c.waits-goes_on.result (sym c.waits-goes_on.ensures)

pub returns-clause-tells : goal.returns-clause-tells
returns-clause-tells g c =
    told_after g.met.P.Player.laws c.self.view_is c.self.invariant c.args.actor c.index_mut-acting.result.now c.requires c.index_mut-acting.ensures.value c.step.ensures c.work.ensures.worked c.work.ensures.done c.waits-goes_on.result (sym c.waits-goes_on.ensures) c.saturating_add-self-inside.result c.replies-calls.result c.replies-calls.ensures
