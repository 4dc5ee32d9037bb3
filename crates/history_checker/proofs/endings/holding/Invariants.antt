use Rattle.std.proofs.Common.{◌≡◌, ◌+◌, ◌≤◌, drop}
use Rattle.history_checker.proofs.Common.{told_holding}
use Rattle.history_checker.proofs.endings.holding.Given as goal

abbrev pub invariant-loop-one : goal.invariant-loop-one
invariant-loop-one l = record {
  counted : told_holding l.told ≡ l.count + told_holding (drop l.one-index l.told);
  few : l.count ≤ l.one-index;
}
