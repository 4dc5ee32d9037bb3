use Rattle.std.proofs.Common.{◌≡◌, map}
use Rattle.norec_accesses.proofs.Common.{KeepsAllButWrites, KeepsRoom, chunks_before, put_chunks}
use Rattle.norec_accesses.proofs.range.put_range.Given as goal

abbrev pub invariant-loop-number : goal.invariant-loop-number
invariant-loop-number l = record {
  rows : l.frames.writes.rows ≡ put_chunks l.fn.frames.writes.rows l.to (chunks_before l.chunks.direction l.chunks.size l.number) l.bytes;
  words : map (λ r. r.word) l.frames.writes.rows ≡ map (λ r. r.word) l.fn.frames.writes.rows;
  others : KeepsRoom l.fn.frames.writes l.frames.writes;
  kept : KeepsAllButWrites l.fn.frames l.frames;
}
