use Rattle.std.proofs.Common.{List, sym, subst, ◌∙◌}
use Rattle.itmsteps.proofs.Common.{InOrder, IsNote, Seat}
use Rattle.history_checker.specs.declared.verdict.Finding.{Finding}
use Rattle.itmsteps.proofs.DrawnHistories.{drawn_as}
use Rattle.itmsteps.proofs.histories.draw.Goals as goal

pub returns : goal.returns
returns g c =
    let note = c.note_of-note.result in
    let attempts = c.as_slice-attempts.result.now in
    let order = subst (λ (seats : List Seat). InOrder attempts seats) (sym c.deref-2.ensures.value) c.in_ok-seats.ensures in
    let is = subst (λ (f : Finding). IsNote f note) c.in_ok-explain.ensures.finding c.note_of-note.ensures in
    drawn_as c.args.history.now attempts c.deref.result.now c.deref-2.result.now note _ _ c.as_slice-attempts.ensures (c.deref.ensures.value ∙ c.in_ok-columns.ensures) order is c.write_drawing.result
    c.write_drawing.ensures.drawn c.write_drawing.ensures.failure
