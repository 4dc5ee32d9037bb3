use Rattle.std.proofs.Common.{◌≡◌, ap, arith}
use Rattle.norec_engine.proofs.Common.{AllWithin-at, LogRow, row_at}
use Rattle.std.proofs.lemmas.Option.{get_or_from_slice_get}
use Rattle.norec_engine.proofs.RoundSteps.{row_here, row_revocable, row_sound}
use Rattle.norec_engine.proofs.engine.Engine.row_ahead.Goals as goal

pub overflow_add-result : goal.overflow_add-result
overflow_add-result c =
    let s = c.self.inside in
    let row = c.in-RoundRow.row in
    let sound = row_sound s.irrevocable s.state s.pending row c.self.invariant (row_revocable s.irrevocable s.state s.pending row c.self.invariant c.in-RoundRow.is) c.in-RoundRow.is in
    let less = AllWithin-at s.state.words s.state.log.rows row sound.in_phase.0.is_open.log.within sound.in_phase.2 in
    let here : row_at s.state.log.rows row ≡ c.row-logged.result = get_or_from_slice_get s.state.log.rows row c.row-logged.result _ c.row-logged.ensures in
    omega (arith, less, ap (λ (r : LogRow). r.word) here, sound.bounds.small)

pub returns-in-RoundRow-clause-some : goal.returns-in-RoundRow-clause-some
returns-in-RoundRow-clause-some c =
    let s = c.self.inside in
    let row = c.in-RoundRow.row in
    let here : row_at s.state.log.rows row ≡ c.row-logged.result = get_or_from_slice_get s.state.log.rows row c.row-logged.result _ c.row-logged.ensures in
    (row, row_here s.irrevocable s.state s.pending c.args.self.now c.self.view_is (row_revocable s.irrevocable s.state s.pending row c.self.invariant c.in-RoundRow.is) row c.row-logged.result c.in-RoundRow.is here)
