use Rattle.std.proofs.Common.{◌≡◌, ◌+◌, ◌≤◌, ◌-◌, ◌^◌, drop, sum_by}
use Rattle.history_checker.proofs.Common.{again_count, told_row}
use Rattle.history_checker.proofs.rows.after_all.Given as goal

abbrev pub invariant-loop-again : goal.invariant-loop-again
invariant-loop-again l = record {
  told : told_row (l.row + sum_by again_count (drop l.again-index l.restarts)) ≡ told_row (l.from + sum_by again_count l.restarts);
  most : l.row ≤ 2 ^ 64 - 1;
}
