use Rattle.std.proofs.Common.{sym, ◌∙◌}
use Rattle.step_table.proofs.EventRows.{next_there}
use Rattle.step_table.proofs.showing.next_of.Goals as goal

pub unreachable-requires : goal.unreachable-requires
unreachable-requires g c = next_there c.args.world.now c.args.thread c.requires (sym c.in-None.is ∙ c.next_operation.ensures)
