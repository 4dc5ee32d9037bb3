use Rattle.norec_world.proofs.{counts_both, events_both, no_more_first, no_more_on, opening_both, opening_same, run_falls, slice_get_within, takes_both, waits_there, refl, ◌∙◌, arith, rules}
use Rattle.norec_world.proofs.world.World.run_out.Goals as goal

pub loop-alloc-init : goal.loop-alloc-init
loop-alloc-init g c = record { took = record { took = (0, refl, refl); counts = search rules; opening = opening_same c.args.self.now; actors = refl }; none = λ l. (refl, refl); less = no_more_first g.P.Player c.args.actor c.args.self.now }

pub loop-alloc-smaller : goal.loop-alloc-smaller
loop-alloc-smaller g c =
    let waits = c.is_waiting.ensures.waits c.loop-alloc-test.true in
    run_falls g.P.Player c.args.actor c.args.self.now c.loop-alloc.self c.finish_call.new.self
    c.loop-alloc.invariant.took.actors c.finish_call.ensures.took.actors waits c.loop-alloc.invariant.less c.finish_call.ensures.less

pub loop-alloc-preserved : goal.loop-alloc-preserved
loop-alloc-preserved g c =
    let waits = c.is_waiting.ensures.waits c.loop-alloc-test.true in
    let invariant = c.loop-alloc.invariant in
    let before = invariant.took in
    let more = c.finish_call.ensures.took in
    let t = more.took in
    let both = takes_both g.P.Player c.args.actor before.took.0 t.0 c.args.self.now c.loop-alloc.self c.finish_call.new.self before.took.1 t.1 in
    let there = waits_there c.loop-alloc.self c.args.actor waits in
    let within = slice_get_within c.loop-alloc.self.actors c.args.actor there.0 there.1 in
    record {
      took = record {
        took = (both.0, both.2, counts_both before.took.0 t.0 both.0 c.loop-alloc.taken c.finish_call.result c.saturating_add-taken.result before.took.2 t.2 both.1 c.saturating_add-taken.ensures);
        counts = events_both c.args.self.now.events c.loop-alloc.self.events c.finish_call.new.self.events c.loop-alloc.taken c.finish_call.result c.saturating_add-taken.result before.counts more.counts c.saturating_add-taken.ensures;
        opening = opening_both c.args.self.now c.loop-alloc.self c.finish_call.new.self before.opening more.opening;
        actors = more.actors ∙ before.actors;
      };
      none = λ l. absurd (let same = before.actors in omega arith);
      less = no_more_on g.P.Player c.args.actor c.args.self.now c.loop-alloc.self c.finish_call.new.self before.actors waits invariant.less c.finish_call.ensures.less;
    }
