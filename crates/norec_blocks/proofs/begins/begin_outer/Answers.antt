use Rattle.std.proofs.Common.{sym, subst}
use Rattle.norec_blocks.proofs.Common.{Begin as Begins, CallTurns, Data, Wait}
use Rattle.norec_data.specs.declared.pending.Pending.TheVariants as waits
use Rattle.norec_blocks.proofs.Blocks.OuterBegins.{asks}
use Rattle.norec_blocks.proofs.begins.begin_outer.Goals as goal

pub returns : goal.returns
returns c =
    let s = c.args.state.now in
    let served = c.requires.served in
    subst (λ (d : Data). CallTurns s (Begins c.args.props c.args.room) c.args.again (Wait waits.Begin) (record d { tries = 1; restarted = 0; opening = record { props = c.args.props; room = c.args.room; again = c.args.again } })) (sym c.start_call.ensures)
    (asks s c.args.props c.args.room c.args.again c.requires.sound c.requires.outside c.requires.stays served.0 served.1)
