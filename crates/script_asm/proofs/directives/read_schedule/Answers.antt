use Rattle.std.proofs.Common.{◌+◌, ◌≤◌, length, arith}
use Rattle.script_asm.proofs.Common.{MAX_ITEMS, fields, items_in}
use Rattle.script_asm.proofs.KeptLines.{items_kept}
use Rattle.script_asm.proofs.directives.read_schedule.Goals as goal

pub returns-else-total-gt-MAX_ITEMS : goal.returns-else-total-gt-MAX_ITEMS
returns-else-total-gt-MAX_ITEMS c =
    let fits : length c.args.state.now.schedule.items + length (items_in (fields c.args.rest.now)) ≤ MAX_ITEMS = omega (arith, c.len-before.ensures, c.saturating_add-total.ensures, c.if-total-gt-MAX_ITEMS.false, c.in-Ok.ensures.count) in
    items_kept c.args.state.now c.args.line (fields c.args.rest.now) (items_in (fields c.args.rest.now)) c.in-Ok.ensures.items fits
