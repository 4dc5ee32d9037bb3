use Rattle.std.proofs.Common.{arith, rules}
use Rattle.run_commands.proofs.Common.{ended_within}
use Rattle.run_commands.proofs.Plays.{event_adds, event_ends_none, on_ok}
use Rattle.run_commands.proofs.playing.take_event.Goals as goal

pub put_ended-requires-clause-first : goal.put_ended-requires-clause-first
put_ended-requires-clause-first g c = ended_within g.P.Player c.args.world.now c.event-goes_on.new.self c.args.thread c.ended-first.result c.requires.waits c.event-goes_on.ensures.goes c.ended-first.ensures.value

pub returns-in_err-put_ended-clause-sends : goal.returns-in_err-put_ended-clause-sends
returns-in_err-put_ended-clause-sends g c = record {
  same = c.put_ended.ensures.same;
  answer = grind arith;
  adds = event_adds g.P.Player c.args.world.now c.event-goes_on.new.self c.args.thread c.ended-first.result _ _ c.requires.waits c.event-goes_on.ensures.goes c.ended-first.ensures.value c.put_ended.ensures.adds (on_ok c.put_ended.result _ c.put_ended.ensures.answer c.put_ended.ensures.fits);
}

pub returns-clause-sends : goal.returns-clause-sends
returns-clause-sends g c = record {
  same = c.put_ended.ensures.same;
  answer = c.in_ok-put_ended.ensures.answer;
  adds = event_adds g.P.Player c.args.world.now c.event-goes_on.new.self c.args.thread c.ended-first.result _ _ c.requires.waits c.event-goes_on.ensures.goes c.ended-first.ensures.value c.put_ended.ensures.adds (on_ok c.put_ended.result _ c.put_ended.ensures.answer c.put_ended.ensures.fits);
}

pub returns-then-ended-first-clause-sends : goal.returns-then-ended-first-clause-sends
returns-then-ended-first-clause-sends g c = record {
  same = search rules;
  answer = c.requires.fresh;
  adds = event_ends_none g.P.Player c.args.world.now c.event-goes_on.new.self c.args.thread c.ended-first.result c.ended.result _ c.requires.waits c.event-goes_on.ensures.goes c.ended-first.ensures.value c.ended.ensures.value c.if-ended-first.true;
}
