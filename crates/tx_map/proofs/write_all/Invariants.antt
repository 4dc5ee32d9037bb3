use Rattle.std.proofs.Common.{◌≡◌, ◌*◌, ◌%◌, ◌≤◌}
use Rattle.tx_map.proofs.Common.{HasWritten}
use Rattle.tx_map.proofs.write_all.Given as goal

abbrev pub invariant-loop-n : goal.invariant-loop-n
invariant-loop-n l = record {
  words : l.client.transaction.words ≡ l.fn.client.transaction.words;
  few : l.added ≤ l.n;
  written : HasWritten l.table.slots.first l.table.slots.count (32 * (l.thread % 4)) l.n l.added l.fn.client.transaction l.client.transaction;
}
