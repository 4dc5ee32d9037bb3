use Rattle.std.proofs.Common.{rules}
use Rattle.norec_engine.proofs.Common.{Idle}
use Rattle.norec_engine.proofs.SettledEngines.{settled_in}
use Rattle.norec_engine.proofs.engine.Engine.confirm_fast.Goals as goal

pub returns : goal.returns
returns c = record {
  proceeds = search rules;
  joins = search rules;
  order = search rules;
  ends = search rules;
  tries = search rules;
  snapshot = search rules;
  log = search rules;
  asks = search rules;
  count = search rules;
  settled = settled_in c.self.inside.irrevocable c.tell.new.state Idle (search rules);
  held = λ h. (let r = c.requires.confirms.revocable in absurd (cc));
}
