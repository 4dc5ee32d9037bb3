use Rattle.std.proofs.Common.{◌∙◌, ap}
use Rattle.norec_blocks.proofs.Common.{Row, write_at_of}
use Rattle.norec_blocks.proofs.StoredRows.{asks_row}
use Rattle.norec_blocks.proofs.commits.ask_store.Goals as goal

pub returns-clause-goes : goal.returns-clause-goes
returns-clause-goes c =
    asks_row c.args.state.now c.args.row c.requires.may c.requires.within
    (ap (λ (r : Row). r.mask) (write_at_of c.args.state.now.frames.writes.rows c.args.row c.args.written c.requires.written) ∙ c.requires.mask)
