use Rattle.std.proofs.Common.{sym, ◌∙◌, rules}
use Rattle.norec_blocks.proofs.Blocks.NestedCommits.{closed_sound}
use Rattle.norec_blocks.proofs.commits.commit.Goals as goal

pub returns-then-not-is_outermost : goal.returns-then-not-is_outermost
returns-then-not-is_outermost c = record {
  sound = record {
    asked = tt;
    sound =
        closed_sound c.args.state.now c.start_call.new.self c.leave.new.self c.start_call.ensures c.requires.sound (sym c.is_open.ensures ∙ c.if-not-is_open.false) (sym c.is_outermost.ensures ∙ c.if-not-is_outermost.true)
        c.leave.ensures.blocks c.leave.ensures.rows c.leave.ensures.actions c.leave.ensures.limits.size c.leave.ensures.limits.depth;
  };
  proceeds = search rules;
  stays = search rules;
  order = search rules;
  ends = search rules;
  tries = search rules;
}

pub returns-then-len-eq0 : goal.returns-then-len-eq0
returns-then-len-eq0 c = record {
  sound = search rules;
  proceeds = search rules;
  stays = search rules;
  order = search rules;
  ends = search rules;
  tries = search rules;
}
