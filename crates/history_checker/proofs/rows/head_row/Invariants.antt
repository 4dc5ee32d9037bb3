use Rattle.std.proofs.Common.{◌≡◌, ◌≤◌}
use Rattle.history_checker.proofs.Common.{head_row, told_row}
use Rattle.history_checker.proofs.rows.head_row.Given as goal

abbrev pub invariant-loop-i : goal.invariant-loop-i
invariant-loop-i l = record {
  row : l.row ≡ told_row (head_row l.fn.version l.attempts l.i);
  within : l.i ≤ l.place;
}
