use Rattle.std.proofs.Common.{get_or, take, sym, subst, arith, ◌∙◌}
use Rattle.value_log.proofs.Common.{IsIndex, LogRow, length-take-le, take_more}
use Rattle.value_log.proofs.index.Index.cover.Goals as goal

pub loop-place-preserved : goal.loop-place-preserved
loop-place-preserved c =
    let rows = c.args.rows.now in
    let place = c.loop-place.place in
    let nothing : LogRow = record { word = 0; value = 0 } in
    let row = get_or rows place nothing in
    let within = c.loop-place-test.true in
    let size = length-take-le place rows (omega (arith, within)) in
    let more = c.put.ensures.index (take place rows) size c.loop-place.invariant.0 row.value in (
      subst (IsIndex c.put.new.self.last.items c.put.new.self.before.items) (sym (take_more rows place nothing within)) more,
      c.put.ensures.last ∙ c.loop-place.invariant.1,
      c.put.ensures.before ∙ c.loop-place.invariant.2,
    )
