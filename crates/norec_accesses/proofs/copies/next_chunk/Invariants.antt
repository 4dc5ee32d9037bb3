use Rattle.std.proofs.Common.{◌≡◌, ◌-◌, length, drop}
use Rattle.norec_accesses.proofs.Common.{MayCopy, chunks_in, load_chunks, rows_before}
use Rattle.norec_accesses.proofs.copies.next_chunk.Given as goal

abbrev pub decreases-loop-reading : goal.decreases-loop-reading
decreases-loop-reading l = length (chunks_in l.copying) - l.number

abbrev pub invariant-loop-reading : goal.invariant-loop-reading
invariant-loop-reading l = record {
  may : MayCopy l.state l.copying l.number;
  frame : l.state ≡ record l.fn.state { gathered = l.state.gathered; buffer = l.state.buffer };
  order : load_chunks (rows_before l.fn.state) l.fn.state.log.rows l.copying l.fn.number (drop l.fn.number (chunks_in l.copying)) ≡ load_chunks (rows_before l.fn.state) l.fn.state.log.rows l.copying l.number (drop l.number (chunks_in l.copying));
}
