use Rattle.std.proofs.Common.{refl, ◌∙◌, arith}
use Rattle.run_commands.proofs.Common.{ItemBegins, Out, no_more_first, no_more_on, run_falls, takes_both}
use Rattle.run_commands.proofs.Plays.{fails_later, performs_stopped, sends_none, sends_on, sends_stopped}
use Rattle.run_commands.proofs.playing.run_out.Goals as goal

pub loop-alloc-init : goal.loop-alloc-init
loop-alloc-init g c = record {
  sends = sends_none c.args.world.now _ c.requires.fresh;
  took = (0, refl);
  actors = refl;
  less = no_more_first g.P.Player c.args.thread c.args.world.now;
}

pub loop-alloc-smaller : goal.loop-alloc-smaller
loop-alloc-smaller g c =
    run_falls g.P.Player c.args.thread c.args.world.now c.loop-alloc.world c.finish_call.new.world
    c.loop-alloc.invariant.actors c.finish_call.ensures.performs.actors (c.is_waiting.ensures.waits c.loop-alloc-test.true) c.loop-alloc.invariant.less c.in_ok-finish_call.ensures.less

pub loop-alloc-preserved : goal.loop-alloc-preserved
loop-alloc-preserved g c =
    let waits = c.is_waiting.ensures.waits c.loop-alloc-test.true in
    let before = c.loop-alloc.invariant in
    let call = c.in_ok-finish_call.ensures.performs in
    let both = takes_both g.P.Player c.args.thread before.took.0 call.leads.0 c.args.world.now c.loop-alloc.world c.finish_call.new.world before.took.1 call.leads.1 in
    record {
      sends = sends_on before.sends call.sends;
      took = (both.0, both.2);
      actors = call.actors ∙ before.actors;
      less = no_more_on g.P.Player c.args.thread c.args.world.now c.loop-alloc.world c.finish_call.new.world before.actors waits before.less c.in_ok-finish_call.ensures.less;
    }

pub returns-in_err-finish_call : goal.returns-in_err-finish_call
returns-in_err-finish_call g c =
    let before = c.loop-alloc.invariant in
    let call = c.in_err-finish_call.ensures.performs in
    let out = ItemBegins g.P.Player (Out c.args.thread) in
    let sends = sends_stopped c.from_residual.result before.sends call.sends (grind arith) in
    performs_stopped g.P.Player sends c.from_residual.ensures.0
    (fails_later g.P.Player out out c.args.world.now c.loop-alloc.world c.finish_call.new.world _ _ _ c.requires.fresh before.sends.answer before.sends.adds
    (λ w l. (let both = takes_both g.P.Player c.args.thread before.took.0 l.0 c.args.world.now c.loop-alloc.world w before.took.1 l.1 in (both.0, both.2)))
    call.fails)
    (call.actors ∙ before.actors)

pub returns : goal.returns
returns g c =
    let at_end = c.loop-alloc.invariant in
    record {
      sends = at_end.sends;
      leads = (at_end.took.0, at_end.took.1, c.is_waiting.ensures.ended c.loop-alloc-test.false (omega (arith, c.requires.there, at_end.actors)));
      fails = record {};
      actors = at_end.actors;
    }
