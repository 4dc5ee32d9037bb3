use Rattle.std.proofs.Common.{rules, ◌≡◌, false}
use Rattle.norec_engine.proofs.Common.{Idle}
use Rattle.norec_engine.proofs.SettledEngines.{settled_in}
use Rattle.norec_engine.proofs.engine.Engine.read_known.Goals as goal

pub returns-clause-called : goal.returns-clause-called
returns-clause-called c = record {
  proceeds = search rules;
  at_once = search rules;
  stays = search rules;
  order = search rules;
  ends = search rules;
  tries = search rules;
  asks = search rules;
  count = search rules;
  settled = settled_in c.self.inside.irrevocable c.known_number.new.state Idle (search rules);
  held = λ h. (let r : c.args.self.now.irrevocable ≡ false = search rules in absurd (cc));
}
