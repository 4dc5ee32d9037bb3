use Rattle.std.proofs.Common.{◌+◌, refl, ◌∙◌, arith}
use Rattle.run_commands.proofs.Common.{ItemBegins, Take}
use Rattle.run_commands.proofs.Items.{led_none, led_on, led_to_end}
use Rattle.run_commands.proofs.Plays.{fails_here, performs_stopped, sends_none, sends_on, sends_stopped}
use Rattle.run_commands.proofs.playing.take_events.Goals as goal

pub loop-taken-init : goal.loop-taken-init
loop-taken-init g c = record {
  sends = sends_none c.args.world.now _ c.requires.fresh;
  led = led_none g.P.Player c.args.world.now c.args.thread;
  actors = refl;
}

pub loop-taken-preserved : goal.loop-taken-preserved
loop-taken-preserved g c =
    let before = c.loop-taken.invariant in
    record {
      sends = sends_on before.sends c.in_ok-take_event.ensures.sends;
      led = led_on g.P.Player _ _ _ c.args.thread c.loop-taken._taken _ before.led c.take_event.ensures.goes;
      actors = c.take_event.ensures.goes.actors ∙ before.actors;
    }

pub returns-in_err-take_event : goal.returns-in_err-take_event
returns-in_err-take_event g c =
    let before = c.loop-taken.invariant in
    let goes = c.take_event.ensures.goes in
    let n = c.loop-taken._taken in
    let more = led_on g.P.Player _ _ _ c.args.thread n _ before.led goes in
    let sends = sends_stopped c.from_residual.result before.sends c.in_err-take_event.ensures.sends (grind arith) in
    performs_stopped g.P.Player sends c.from_residual.ensures.0
    (fails_here g.P.Player (ItemBegins g.P.Player (Take c.args.thread c.args.count)) c.args.world.now c.loop-taken.world c.take_event.new.world c.args.thread _ _ _ c.requires.fresh before.sends.answer before.sends.adds c.take_event.ensures.sends.adds
    (n, omega arith, before.led.0, before.led.1) (n + 1, omega arith, more.0, more.1) goes)
    (goes.actors ∙ before.actors)

pub returns-then-not-is_waiting : goal.returns-then-not-is_waiting
returns-then-not-is_waiting g c =
    let before = c.loop-taken.invariant in
    record {
      sends = before.sends;
      leads = led_to_end g.P.Player c.args.world.now c.loop-taken.world c.args.thread c.loop-taken._taken c.args.count (omega arith) before.led c.is_waiting.ensures.commits c.is_waiting.ensures.opaque c.is_waiting.ensures.tied (c.is_waiting.ensures.ended c.if-not-is_waiting.true (omega (arith, c.requires.there, before.actors)));
      fails = record {};
      actors = before.actors;
    }
