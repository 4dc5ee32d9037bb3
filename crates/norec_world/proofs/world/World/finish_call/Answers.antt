use Rattle.norec_world.proofs.{call_falls, call_left_at, counted_one, events_both, leaves_on, opening_both, over_less, quiet_event, takes_one, told_event, waits_still, suc, ◌<◌, Bool, sym, subst, ◌∙◌}
use Rattle.norec_world.proofs.world.World.finish_call.Goals as goal

pub event-goes_on-requires : goal.event-goes_on-requires
event-goes_on-requires g c = c.loop-goes_on.invariant.waits c.loop-goes_on-test.true

pub loop-goes_on-smaller : goal.loop-goes_on-smaller
loop-goes_on-smaller g c =
    subst (λ (on : Bool). call_left_at g.P.Player c.args.actor c.event-goes_on.result c.event-goes_on.new.self < call_left_at g.P.Player c.args.actor on c.loop-goes_on.self) (sym c.loop-goes_on-test.true)
    (call_falls g.P.Player c.args.actor c.event-goes_on.result c.loop-goes_on.self c.event-goes_on.new.self
    (c.loop-goes_on.invariant.waits c.loop-goes_on-test.true) c.event-goes_on.ensures.goes.actors c.event-goes_on.ensures.less)

pub loop-goes_on-preserved : goal.loop-goes_on-preserved
loop-goes_on-preserved g c =
    let invariant = c.loop-goes_on.invariant in
    let before = invariant.took in
    let waits = invariant.waits c.loop-goes_on-test.true in
    let goes = c.event-goes_on.ensures.goes in
    record {
      took = record {
        took = (
          suc before.took.0,
          takes_one g.P.Player c.args.actor before.took.0 c.args.self.now c.loop-goes_on.self c.event-goes_on.new.self before.took.1 goes,
          counted_one before.took.0 c.loop-goes_on.taken c.saturating_add-taken.result before.took.2 c.saturating_add-taken.ensures,
        );
        counts = events_both c.args.self.now.events c.loop-goes_on.self.events c.event-goes_on.new.self.events c.loop-goes_on.taken 1 c.saturating_add-taken.result before.counts (goes.counts (told_event _)) c.saturating_add-taken.ensures;
        opening = opening_both c.args.self.now c.loop-goes_on.self c.event-goes_on.new.self before.opening goes.opening;
        actors = goes.actors ∙ before.actors;
      };
      waits = waits_still g.P.Player c.args.actor c.event-goes_on.result c.loop-goes_on.self c.event-goes_on.new.self waits goes.actors c.event-goes_on.ensures.less;
      quiet = λ on. quiet_event g.P.Player c.args.actor c.event-goes_on.result c.loop-goes_on.self c.event-goes_on.new.self waits goes c.event-goes_on.ensures.tells on ∙ invariant.quiet c.loop-goes_on-test.true;
      on = λ on. (suc (invariant.on c.loop-goes_on-test.true).0, (c.loop-goes_on.self, (invariant.on c.loop-goes_on-test.true).1, sym c.event-goes_on.ensures.tells.before ∙ on, goes));
      ends = λ off. record { before = c.loop-goes_on.self; goes_on = invariant.on c.loop-goes_on-test.true; over = sym c.event-goes_on.ensures.tells.before ∙ off; opening = before.opening; ended = invariant.quiet c.loop-goes_on-test.true; waits = waits; last = goes };
      less = leaves_on g.P.Player c.args.actor c.loop-goes_on.goes_on c.event-goes_on.result c.args.self.now c.loop-goes_on.self c.event-goes_on.new.self c.loop-goes_on-test.true waits invariant.less c.event-goes_on.ensures.less;
    }

pub returns-clause-less : goal.returns-clause-less
returns-clause-less g c = over_less g.P.Player c.args.actor c.loop-goes_on.goes_on c.args.self.now c.loop-goes_on.self c.loop-goes_on-test.false c.loop-goes_on.invariant.less

pub returns-clause-ends : goal.returns-clause-ends
returns-clause-ends g c = c.loop-goes_on.invariant.ends c.loop-goes_on-test.false
