use Rattle.std.proofs.Common.{◌≡◌, arith, ap, sym, ◌∙◌}
use Rattle.access_rules.proofs.Overlays.{AllWithin-at, AllWritesWithin-at, write_at_of}
use Rattle.itm_types.specs.declared.row.LogRow.{LogRow}
use Rattle.write_set.specs.declared.row.Row.{Row}
use Rattle.norec_data.specs.Turns.{counted}
use Rattle.std.proofs.lemmas.Option.{get_or_from_slice_get}
use Rattle.norec_core.specs.Rows.{row_at, value_into, write_at}
use Rattle.norec_turns.proofs.Phases.{store_row, stores_as, loads_as}
use Rattle.norec_revocable.proofs.steps.step_of.Goals as goal
use Rattle.norec_revocable.proofs.steps.step_of.Goals.{in-Some, in-None}

pub overflow_add-result-in-RoundRow : goal.overflow_add-result-in-RoundRow
overflow_add-result-in-RoundRow c =
    let s = rw c.in-RoundRow.is at c.requires.sound in
    let logged : row_at c.args.state.now.log.rows c.in-RoundRow.row ≡ c.row-logged.result = get_or_from_slice_get c.args.state.now.log.rows c.in-RoundRow.row c.row-logged.result _ c.row-logged.ensures in
    omega (arith, AllWithin-at c.args.state.now.words c.args.state.now.log.rows c.in-RoundRow.row s.in_phase.0.is_open.log.within s.in_phase.2, ap (λ (r : LogRow). r.word) logged, s.bounds.small)

pub overflow_add-result-in-BackLoad : goal.overflow_add-result-in-BackLoad
overflow_add-result-in-BackLoad c =
    let s = rw c.in-BackLoad.is at c.requires.sound in
    let written = write_at_of c.args.state.now.frames.writes.rows c.in-BackLoad.row c.row-written.result c.row-written.ensures.row in
    omega (arith, AllWritesWithin-at c.args.state.now.words c.args.state.now.frames.writes.rows c.in-BackLoad.row s.in_phase.0.is_open.writes s.in_phase.1, ap (λ (r : Row). r.word) written, s.bounds.small)

pub overflow_add-result-in-Store : goal.overflow_add-result-in-Store
overflow_add-result-in-Store c =
    let s = rw c.in-Store.is at c.requires.sound in
    let facts = store_row (counted c.args.state.now) _ c.in-Store.row c.args.state.now.got s.in_phase in
    let written = write_at_of c.args.state.now.frames.writes.rows c.in-Store.row c.row-written-in-Store.result c.row-written-in-Store.ensures.row in
    omega (arith, AllWritesWithin-at c.args.state.now.words c.args.state.now.frames.writes.rows c.in-Store.row facts.0.writes facts.1, ap (λ (r : Row). r.word) written, s.bounds.small)

pub returns-in-BackLoad : goal.returns-in-BackLoad
returns-in-BackLoad c =
    rw c.in-BackLoad.is (loads_as c.row-written.result (write_at c.args.state.now.frames.writes.rows c.in-BackLoad.row) (write_at_of c.args.state.now.frames.writes.rows c.in-BackLoad.row c.row-written.result c.row-written.ensures.row))

pub returns-after-state : goal.returns-after-state
returns-after-state c =
    let r = c.row-written-in-Store.result in
    let written = write_at_of c.args.state.now.frames.writes.rows c.in-Store.row r c.row-written-in-Store.ensures.row in
    rw c.in-Store.is (elim c.match-state.branch [
      | in-Some w ↦ stores_as r (write_at c.args.state.now.frames.writes.rows c.in-Store.row) written c.args.state.now.got c.match-state.value (w.value-is ∙ w.merge-value.ensures.value ∙ ap (value_into r) (sym w.in-Some.is))
      | in-None w ↦ stores_as r (write_at c.args.state.now.frames.writes.rows c.in-Store.row) written c.args.state.now.got c.match-state.value (w.value-is ∙ ap (value_into r) (sym w.in-None.is))
    ])
