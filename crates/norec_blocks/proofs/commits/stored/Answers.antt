use Rattle.std.proofs.Common.{arith}
use Rattle.norec_turns.proofs.Phases.{store_row}
use Rattle.norec_blocks.proofs.commits.stored.Goals as goal

pub overflow_add-row : goal.overflow_add-row
overflow_add-row c = (let facts = store_row c.args.state.now c.args.state.now.taking c.args.row c.args.state.now.got c.requires.sound.in_phase in omega (arith, facts.1, c.len-rows.ensures.len, c.len-rows.type_inv))
