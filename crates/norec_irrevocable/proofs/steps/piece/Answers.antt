use Rattle.std.proofs.Common.{arith, sym, ◌∙◌}
use Rattle.norec_irrevocable.proofs.Common.{none_there, piece_there}
use Rattle.norec_irrevocable.proofs.steps.piece.Goals as goal

pub unreachable-requires : goal.unreachable-requires
unreachable-requires c =
    let w = c.args.writing in
    let past = none_there w.at w.size w.number (sym c.piece_at.ensures.value ∙ c.in-None.is) in
    absurd (omega (arith, past, c.requires.some))

pub returns-clause-value : goal.returns-clause-value
returns-clause-value c = (let w = c.args.writing in (piece_there w.at w.size w.number c.in-Some.piece (sym c.piece_at.ensures.value ∙ c.in-Some.is)).1)
