use Rattle.std.proofs.Common.{◌≤◌, ◌<◌, ◌+◌, ℕ, length, vec_len, vec_capacity}
use Rattle.itm_model.proofs.Common.{KeepsOld, newest_in}
use Rattle.itm_model.proofs.pieces.keep_pieces.Given as goal

abbrev pub invariant-loop-piece : goal.invariant-loop-piece
invariant-loop-piece l = record {
  room : l.end + vec_len l.journal ≤ l.piece + vec_capacity l.journal;
  longer : length l.fn.journal.items ≤ length l.journal.items;
  keeps : KeepsOld l.top l.bytes l.fn.journal.items l.journal.items l.newest.items;
  kept : (q : ℕ) → l.first ≤ q → q < l.piece → l.top < newest_in l.journal.items q;
}
