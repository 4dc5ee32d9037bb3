use Rattle.std.proofs.Common.{rules}
use Rattle.norec_turns.proofs.Refusals.{asked_replies}
use Rattle.norec_revocable.proofs.local.in_transaction.Goals as goal

pub returns : goal.returns
returns c = record {
  sound = search rules;
  proceeds = (rw (c.mode-end.ensures c.start_call.new.self) (rw c.start_call.ensures (asked_replies c.args.state.now c.requires.sound)));
  stays = search rules;
  order = search rules;
  ends = search rules;
  tries = search rules;
}
