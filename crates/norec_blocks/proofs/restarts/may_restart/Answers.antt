use Rattle.std.proofs.Common.{arith}
use Rattle.norec_blocks.proofs.Blocks.MayRestarts.{all_there, none_around, not_its_own}
use Rattle.norec_blocks.proofs.restarts.may_restart.Goals as goal

pub returns-then-open-lt2 : goal.returns-then-open-lt2
returns-then-open-lt2 c = none_around c.args.state.now c.args.row (omega (arith, c.depth-open.ensures.depth))

pub returns-then-row-begun : goal.returns-then-row-begun
returns-then-row-begun c = not_its_own c.args.state.now c.args.row (omega (arith, c.reads-begun.ensures))

pub returns : goal.returns
returns c = all_there c.args.state.now c.args.row (omega (arith, c.depth-open.ensures.depth)) (omega (arith, c.reads-begun.ensures))
