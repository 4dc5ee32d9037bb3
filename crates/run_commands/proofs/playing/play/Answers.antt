use Rattle.std.proofs.Common.{refl, ◌∙◌, rules, arith}
use Rattle.run_commands.proofs.Plays.{adds_cut, adds_history, adds_lines, cut_first, cut_off, history_fits, if_ok, none_ok, on_any, on_err, on_ok, stops_last}
use Rattle.run_commands.proofs.playing.play.Goals as goal

pub returns-in_err-open_history-clause-sends : goal.returns-in_err-open_history-clause-sends
returns-in_err-open_history-clause-sends g c = record {
  same = c.open_history.ensures.same;
  adds = adds_cut c.args.version c.args.world.now _ _ _ c.open_history.ensures.adds c.in_err-open_history.ensures.answer;
  answer = grind arith;
  fits = none_ok _ c.from_residual.result c.from_residual.ensures.0;
}

pub returns-in_err-open_history-clause-played : goal.returns-in_err-open_history-clause-played
returns-in_err-open_history-clause-played g c = record {
  leads = none_ok _ c.from_residual.result c.from_residual.ensures.0;
  stops = on_err c.from_residual.result (cut_first g.P.Player c.args.version c.args.items.now c.args.world.now c.args.world.now _ _ _ refl c.in_err-open_history.ensures.answer c.open_history.ensures.adds);
  commits = search rules;
  opaque = search rules;
  tied = search rules;
}

pub returns-in_err-taken-clause-sends : goal.returns-in_err-taken-clause-sends
returns-in_err-taken-clause-sends g c =
    let taken = c.in_err-taken.ensures.sends in
    record {
      same = taken.same ∙ c.open_history.ensures.same;
      adds = adds_cut c.args.version c.take_items-taken.new.world _ _ _ (adds_lines c.args.version c.args.world.now c.take_items-taken.new.world _ _ _ c.open_history.ensures.adds taken.adds) taken.answer;
      answer = grind arith;
      fits = none_ok _ c.from_residual-in_err-taken.result c.from_residual-in_err-taken.ensures.0;
    }

pub returns-in_err-taken-clause-played : goal.returns-in_err-taken-clause-played
returns-in_err-taken-clause-played g c =
    let taken = c.in_err-taken.ensures in
    record {
      leads = none_ok _ c.from_residual-in_err-taken.result c.from_residual-in_err-taken.ensures.0;
      stops = on_err c.from_residual-in_err-taken.result
          (cut_off g.P.Player c.args.version c.args.items.now c.args.world.now c.take_items-taken.new.world _ _ _ _ c.in_ok-open_history.ensures.answer taken.sends.answer c.open_history.ensures.adds taken.sends.adds taken.fails);
      commits = search rules;
      opaque = search rules;
      tied = search rules;
    }

pub returns-clause-sends : goal.returns-clause-sends
returns-clause-sends g c =
    let taken = c.in_ok-taken.ensures.sends in
    let last = c.close_history.ensures in
    record {
      same = last.same ∙ (taken.same ∙ c.open_history.ensures.same);
      adds = adds_history c.args.version c.take_items-taken.new.world _ _ _ (adds_lines c.args.version c.args.world.now c.take_items-taken.new.world _ _ _ c.open_history.ensures.adds taken.adds) last.adds;
      answer = last.answer;
      fits = if_ok c.close_history.result _ last.answer (λ good.
          history_fits c.args.version c.args.world.now c.take_items-taken.new.world _ _ c.in_ok-open_history.ensures.fits taken.adds taken.answer (on_ok c.close_history.result _ last.answer last.fits good));
    }

pub returns-clause-played : goal.returns-clause-played
returns-clause-played g c =
    let taken = c.in_ok-taken.ensures in
    let last = c.close_history.ensures in
    let lines = adds_lines c.args.version c.args.world.now c.take_items-taken.new.world _ _ _ c.open_history.ensures.adds taken.sends.adds in
    record {
      leads = on_any c.close_history.result taken.leads;
      stops = stops_last g.P.Player c.args.version c.args.items.now c.args.world.now c.take_items-taken.new.world _ _ _ c.close_history.result _ taken.sends.answer last.answer lines last.adds
          (adds_history c.args.version c.take_items-taken.new.world _ _ _ lines last.adds) taken.sends.adds.base taken.leads;
      commits = search rules;
      opaque = search rules;
      tied = search rules;
    }
