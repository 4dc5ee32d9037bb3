use Rattle.std.proofs.Common.{◌≤◌, length, vec_capacity}
use Rattle.history_checker.proofs.Common.{AreLinks}
use Rattle.history_checker.proofs.tables.link.Given as goal

abbrev pub invariant-loop-i : goal.invariant-loop-i
invariant-loop-i l = record {
  room : length l.attempts ≤ vec_capacity l.older;
  links : AreLinks l.count l.attempts l.i l.newest.items l.older.items;
}
