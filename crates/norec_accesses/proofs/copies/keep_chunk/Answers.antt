use Rattle.std.proofs.Common.{◌≡◌, ℕ, ◌+◌, ◌-◌, ◌≤◌, List, [], length, take, replicate, sym, ap, subst, ◌∙◌, arith}
use Rattle.norec_accesses.proofs.Common.{IsFor, Purpose, bytes_of, chunk_there, chunk_within, count, direction_of, gathered, gathered-pieces_of, length-gathered-all, length-overlay, length-with_slice, overlay, parts, slice, slice-slice, take_all-pieces_of, with_slice}
use Rattle.word_pieces.proofs.ChunkBytes.{written-next-chunk}
use Rattle.norec_accesses.proofs.copies.keep_chunk.Goals as goal

pub overflow_sub-start : goal.overflow_sub-start
overflow_sub-start c =
    let r = c.args.reading in
    let s = c.args.state.now in
    let f = subst (λ (what : Purpose). IsFor s what r.at r.size) c.requires.chunk c.requires.whole.purpose in
    omega (arith, f.at_is)

pub put_bytes-requires : goal.put_bytes-requires
put_bytes-requires c =
    let r = c.args.reading in
    let s = c.args.state.now in
    let k = c.args.copying in
    let f = subst (λ (what : Purpose). IsFor s what r.at r.size) c.requires.chunk c.requires.whole.purpose in
    let within = chunk_within (direction_of k) k.size c.args.number f.chunk f.is in
    let all : take (count r) (parts r) ≡ parts r = take_all-pieces_of r.at r.size (count r) (omega arith) in
    let gathered_all = length-gathered-all [] r.at r.size c.requires.whole.small in
    omega (arith, f.at_is, f.size_is, within.0, f.copied.served.sized, c.requires.whole.sized, ap (λ ps. length (gathered [] ps)) all, gathered_all, ap (length {A = ℕ}) c.deref.ensures.0)

pub returns-clause-copied : goal.returns-clause-copied
returns-clause-copied c =
    let r = c.args.reading in
    let s = c.args.state.now in
    let k = c.args.copying in
    let n = c.args.number in
    let f = subst (λ (what : Purpose). IsFor s what r.at r.size) c.requires.chunk c.requires.whole.purpose in
    let there = chunk_there (direction_of k) k.size n f.chunk f.is in
    let within = chunk_within (direction_of k) k.size n f.chunk f.is in
    let all : take (count r) (parts r) ≡ parts r = take_all-pieces_of r.at r.size (count r) (omega arith) in
    let start : r.at - k.from ≡ 0 + f.chunk.at = omega (arith, f.at_is) in
    let put = c.put_bytes.ensures in
    let long : (r.at - k.from) + length c.deref.result.now ≤ length s.buffer.items = omega (arith, f.at_is, f.size_is, within.0, f.copied.served.sized, c.requires.whole.sized, ap (λ ps. length (gathered [] ps)) all, length-gathered-all [] r.at r.size c.requires.whole.small, ap (length {A = ℕ}) c.deref.ensures.0) in
    record {
      served = record {
        accepted = f.copied.served.accepted;
        reserved = f.copied.served.reserved;
        may_put = f.copied.served.may_put;
        sized = ap (length {A = ℕ}) put ∙ (length-with_slice s.buffer.items c.deref.result.now (r.at - k.from) long ∙ f.copied.served.sized);
      };
      shared = f.copied.shared;
      has = λ m mem agrees.
          (let value : List ℕ = slice (bytes_of (overlay m s.frames.writes.rows)) k.from k.size in
          let size : length (overlay m s.frames.writes.rows) ≡ s.words = length-overlay m s.frames.writes.rows ∙ mem.0 in
          let got : s.gathered.items ≡ slice value f.chunk.at f.chunk.size =
          c.requires.whole.has m mem agrees
          ∙ (ap (gathered (overlay m s.frames.writes.rows)) all
          ∙ (gathered-pieces_of (overlay m s.frames.writes.rows) r.at r.size (omega (arith, size, c.requires.whole.within))
          ∙ ((λ i. slice (bytes_of (overlay m s.frames.writes.rows)) (f.at_is i) (f.size_is i))
          ∙ sym (slice-slice (bytes_of (overlay m s.frames.writes.rows)) k.from k.size f.chunk.at f.chunk.size within.0)))) in
          put ∙ ((λ i. with_slice (f.copied.has m mem agrees i) (start i) ((c.deref.ensures.0 ∙ got) i))
          ∙ sym (written-next-chunk (direction_of k) k.size n f.chunk there.0 there.1 (replicate k.size 0) value 0)));
    }
