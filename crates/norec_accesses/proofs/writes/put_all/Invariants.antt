use Rattle.std.proofs.Common.{◌≡◌, take, map}
use Rattle.norec_accesses.proofs.Common.{KeepsAllButWrites, KeepsRoom, put_all}
use Rattle.norec_accesses.proofs.writes.put_all.Given as goal

abbrev pub invariant-loop-piece : goal.invariant-loop-piece
invariant-loop-piece l = record {
  rows : l.frames.writes.rows ≡ put_all l.fn.frames.writes.rows (take l.piece-index l.pieces) l.bytes;
  others : KeepsRoom l.fn.frames.writes l.frames.writes;
  words : map (λ r. r.word) l.frames.writes.rows ≡ map (λ r. r.word) l.fn.frames.writes.rows;
  kept : KeepsAllButWrites l.fn.frames l.frames;
}
