use Rattle.std.proofs.Common.{rules}
use Rattle.norec_blocks.proofs.commits.commit_reads.Goals as goal

pub returns : goal.returns
returns c = record {
  turns = record {
    sound = search rules;
    proceeds = search rules;
    stays = search rules;
    order = search rules;
    ends = search rules;
    tries = search rules;
  };
}
