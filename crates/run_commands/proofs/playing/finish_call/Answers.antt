use Rattle.std.proofs.Common.{ℕ, rules}
use Rattle.run_commands.proofs.Common.{Takes}
use Rattle.run_commands.proofs.CallEvents.{call_adds, call_ends_none, call_fails, first_within}
use Rattle.run_commands.proofs.Plays.{on_any, on_err, on_ok}
use Rattle.run_commands.proofs.playing.finish_call.Goals as goal

pub put_ended-requires-clause-first : goal.put_ended-requires-clause-first
put_ended-requires-clause-first g c = first_within g.P.Player c.args.thread c.args.world.now c.finish_call-taken.new.self c.finish_call-taken.ensures.ends c.ended-first.result c.ended-first.ensures.value

pub returns-clause-performs : goal.returns-clause-performs
returns-clause-performs g c =
    let call = c.finish_call-taken.ensures in
    let new = c.finish_call-taken.new.self in
    let put = c.put_ended.ensures in
    let took : (n : ℕ) × Takes g.P.Player c.args.thread n c.args.world.now new = (call.took.took.0, call.took.took.1) in
    let fits = on_ok c.put_ended.result _ put.answer put.fits in
    record {
      sends = record { same = put.same; answer = put.answer; adds = call_adds g.P.Player c.args.thread c.args.world.now new call.ends c.ended-first.result _ _ c.ended-first.ensures.value put.adds fits };
      leads = on_any c.put_ended.result took;
      fails = on_err c.put_ended.result (call_fails g.P.Player c.args.thread c.args.world.now new call.ends c.ended-first.result _ _ c.requires.fresh c.ended-first.ensures.value put.adds fits took);
      actors = call.took.actors;
    }

pub returns-clause-less : goal.returns-clause-less
returns-clause-less g c = on_any c.put_ended.result c.finish_call-taken.ensures.less

pub returns-then-ended-first-clause-performs : goal.returns-then-ended-first-clause-performs
returns-then-ended-first-clause-performs g c =
    let call = c.finish_call-taken.ensures in
    record {
      sends = record { same = search rules; answer = c.requires.fresh; adds = call_ends_none g.P.Player c.args.thread c.args.world.now c.finish_call-taken.new.self call.ends c.ended-first.result c.ended.result _ c.ended-first.ensures.value c.ended.ensures.value c.if-ended-first.true };
      leads = (call.took.took.0, call.took.took.1);
      fails = record {};
      actors = call.took.actors;
    }
