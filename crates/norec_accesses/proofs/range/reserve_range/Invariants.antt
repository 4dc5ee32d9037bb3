use Rattle.std.proofs.Common.{◌≡◌, All}
use Rattle.norec_accesses.proofs.Common.{KeepsAllButWrites, MayPut, chunks_before, range_pieces, reserved_all}
use Rattle.norec_accesses.proofs.range.reserve_range.Given as goal

abbrev pub invariant-loop-number : goal.invariant-loop-number
invariant-loop-number l = record {
  rows : l.frames.writes.rows ≡ reserved_all l.fn.frames.writes.rows (range_pieces l.to (chunks_before l.chunks.direction l.chunks.size l.number));
  may_put : All (λ p. MayPut l.frames.writes p.word) (range_pieces l.to (chunks_before l.chunks.direction l.chunks.size l.number));
  inner : l.frames.writes.inner ≡ l.fn.frames.writes.inner;
  kept : KeepsAllButWrites l.fn.frames l.frames;
}
