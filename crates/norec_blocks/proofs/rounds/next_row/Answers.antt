use Rattle.std.proofs.Common.{arith, refl, rules}
use Rattle.norec_blocks.proofs.Common.{AllWithin-at}
use Rattle.norec_blocks.proofs.rounds.next_row.Goals as goal

pub returns-then-row-len-clause-goes : goal.returns-then-row-len-clause-goes
returns-then-row-len-clause-goes c = record {
  sound = search rules;
  proceeds = record {
    unfreed = refl;
    lawful = (omega (arith, AllWithin-at c.args.state.now.words c.args.state.now.log.rows c.args.row c.requires.rows.round.is_open.log.within), (c.requires.rows.round.is_open.is_open, λ h. absurd (cc)));
    stays = refl;
  };
  stays = search rules;
  order = search rules;
  ends = tt;
  tries = search rules;
}
