use Rattle.std.proofs.Common.{◌≡◌, All, take}
use Rattle.norec_accesses.proofs.Common.{KeepsAllButWrites, KeepsRoom, MayPut, reserved_all}
use Rattle.norec_accesses.proofs.writes.reserve_all.Given as goal

abbrev pub invariant-loop-piece : goal.invariant-loop-piece
invariant-loop-piece l = record {
  rows : l.frames.writes.rows ≡ reserved_all l.fn.frames.writes.rows (take l.piece-index l.pieces);
  may_put : All (λ p. MayPut l.frames.writes p.word) (take l.piece-index l.pieces);
  inner : l.frames.writes.inner ≡ l.fn.frames.writes.inner;
  others : KeepsRoom l.fn.frames.writes l.frames.writes;
  kept : KeepsAllButWrites l.fn.frames l.frames;
}
