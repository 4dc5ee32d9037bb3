use Rattle.std.proofs.Common.{rules, ◌≡◌, false}
use Rattle.norec_core.specs.Phases.{Load}
use Rattle.norec_engine.proofs.SettledEngines.{settled_in}
use Rattle.norec_engine.proofs.engine.Engine.read_fast.Goals as goal

pub returns-clause-called : goal.returns-clause-called
returns-clause-called c = record {
  proceeds = search rules;
  at_once = tt;
  stays = search rules;
  order = search rules;
  ends = tt;
  tries = search rules;
  asks = search rules;
  count = search rules;
  settled = settled_in c.self.inside.irrevocable (record c.begin_word.new.state { spent = 1 }) (Load c.begin_word.new.state.reading) (search rules);
  held = λ h. (let r : c.args.self.now.irrevocable ≡ false = search rules in absurd (cc));
}
