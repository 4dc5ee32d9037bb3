use Rattle.std.proofs.Common.{rules}
use Rattle.norec_accesses.proofs.CopyCalls.Effects.{refused_copy}
use Rattle.norec_accesses.proofs.copies.refusals.refuse_copy.Goals as goal

pub returns : goal.returns
returns c = record {
  sound = search rules;
  proceeds = (rw c.start_call.ensures (refused_copy c.args.state.now c.args.copying c.args.why c.requires.sound c.requires.why));
  stays = search rules;
  order = search rules;
  ends = search rules;
  tries = search rules;
}
