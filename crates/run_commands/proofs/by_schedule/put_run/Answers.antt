use Rattle.std.proofs.Common.{Ok, ap, sym, ◌∙◌}
use Rattle.run_commands.proofs.Common.{Appends-kept, StreamState, cut_through, flushed, put_through, thread_rules}
use Rattle.run_commands.proofs.Plays.{cut_as, cut_whole, none_ok, on_any, on_err}
use Rattle.run_commands.proofs.WrittenWorlds.{cut_written}
use Rattle.run_commands.proofs.by_schedule.put_run.Goals as goal

pub returns-in_err-play-clause-text : goal.returns-in_err-play-clause-text
returns-in_err-play-clause-text g c =
    let name = sym (c.play.ensures.sends.same ∙ c.new-stream.ensures.same) in
    cut_written c.from_residual.result _ _ _ (cut_through _ _ _ _ c.from_residual.result _ _ c.play.ensures.sends.adds c.new-stream.ensures.nothing c.in_err-play.ensures.sends.answer (ap g.W.Write.contents (c.writer-1.given.1 name)) c.from_residual.ensures.0)

pub returns-in_err-play-clause-played : goal.returns-in_err-play-clause-played
returns-in_err-play-clause-played g c =
    let name = sym (c.play.ensures.sends.same ∙ c.new-stream.ensures.same) in
    let played = c.in_err-play.ensures.played in
    let before = ap (λ (s : StreamState). s.written) c.new-stream.ensures.nothing in
    let after = ap g.W.Write.contents (c.writer-1.given.1 name) in
    record {
      leads = none_ok _ c.from_residual.result c.from_residual.ensures.0;
      stops = on_err c.from_residual.result (cut_as thread_rules c.args.version c.args.items.now c.args.world.now c.play.new.world _ _ _ _ played.stops before after);
      commits = played.commits;
      opaque = played.opaque;
      tied = played.tied;
    }

pub returns-clause-text : goal.returns-clause-text
returns-clause-text g c =
    let name = sym (c.play.ensures.sends.same ∙ c.new-stream.ensures.same) in
    flushed _ _ _ c.flush.result _ (put_through _ _ _ _ (Ok c.in_ok-play.field-0) _ c.play.ensures.sends.adds c.new-stream.ensures.nothing c.in_ok-play.ensures.sends.answer (ap g.W.Write.contents (c.writer-1.given.1 name))) c.flush.ensures.bytes

pub returns-clause-played : goal.returns-clause-played
returns-clause-played g c =
    let name = sym (c.play.ensures.sends.same ∙ c.new-stream.ensures.same) in
    let whole = put_through _ _ _ _ (Ok c.in_ok-play.field-0) _ c.play.ensures.sends.adds c.new-stream.ensures.nothing c.in_ok-play.ensures.sends.answer (ap g.W.Write.contents (c.writer-1.given.1 name)) in
    let played = c.in_ok-play.ensures.played in
    record {
      leads = on_any c.flush.result played.leads;
      stops = on_err c.flush.result (cut_whole thread_rules c.args.version c.args.items.now c.args.world.now c.play.new.world _ _ (Appends-kept _ _ _ _ whole c.flush.ensures.bytes) c.play.ensures.base played.leads);
      commits = played.commits;
      opaque = played.opaque;
      tied = played.tied;
    }

pub returns-clause-fits : goal.returns-clause-fits
returns-clause-fits g c = on_any c.flush.result c.in_ok-play.ensures.sends.fits
