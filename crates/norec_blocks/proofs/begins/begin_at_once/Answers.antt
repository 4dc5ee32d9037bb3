use Rattle.std.proofs.Common.{subst, sym}
use Rattle.norec_blocks.proofs.Common.{BeginTurns}
use Rattle.norec_blocks.proofs.Blocks.OuterBegins.{begins_at_once}
use Rattle.norec_blocks.proofs.begins.begin_at_once.Goals as goal

pub returns-clause-turns : goal.returns-clause-turns
returns-clause-turns c room =
    let s = c.args.state.now in
    let o = c.open.ensures in
    let served = c.requires.served in
    subst (BeginTurns s c.args.props room c.args.again c.args.seen c.open.result) (sym o.others)
    (begins_at_once s c.args.props room c.args.again c.open.new.state.frames c.args.seen c.open.result c.requires.sound c.requires.outside c.requires.stays served.0 served.1 c.requires.fits c.requires.even
    (record { blocks = o.blocks; actions = o.actions; rows = o.rows; size = o.frames.0; room = o.frames.1; depth = o.depth }) o.reply)
