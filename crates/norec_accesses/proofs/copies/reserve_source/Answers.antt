use Rattle.std.proofs.Common.{◌≡◌, ◌*◌, ◌≤◌, false, length, arith}
use Rattle.norec_accesses.proofs.Common.{chunks_in, chunks_of, is_out, map_ok, source_few}
use Rattle.norec_accesses.specs.declared.reads.TheConstants.{MOST_PIECES}
use Rattle.norec_accesses.proofs.copies.reserve_source.Goals as goal

pub returns-in-In : goal.returns-in-In
returns-in-In c =
    let k = c.args.copying in
    let many : length (chunks_of c.chunks.result.direction c.chunks.result.size) ≡ length (chunks_in k) = λ i. length (chunks_of (c.chunks.ensures.direction i) (c.chunks.ensures.size i)) in
    record {
      rows = c.reserve.ensures.rows;
      room = map_ok c.reserve.result (λ (fits : MOST_PIECES * c.len.result ≤ c.reserve.new.self.room) (out : is_out k.pair ≡ false). omega (arith, fits, source_few k, c.len.ensures.value, many)) c.reserve.ensures.ok;
    }
