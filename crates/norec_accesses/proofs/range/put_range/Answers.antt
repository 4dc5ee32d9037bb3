use Rattle.std.proofs.Common.{◌≡◌, ◌+◌, ◌-◌, List, All, drop, length, take, IsSome, Some, slice_get, refl, ap, sym, subst, ◌∙◌, arith}
use Rattle.norec_accesses.proofs.Common.{Chunk, MayPut, Piece, all_of_chunk, chunks_before, chunks_of, lookup, pieces_of, put_all, put_chunks, put_chunks_more, some_words, take_all}
use Rattle.norec_accesses.proofs.KeptFrames.{kept_on}
use Rattle.norec_accesses.proofs.range.put_range.Goals as goal

pub loop-number-init : goal.loop-number-init
loop-number-init c = record { rows = refl; words = refl; others = λ word may. may; kept = refl }

pub put_all-requires-clause-room : goal.put_all-requires-clause-room
put_all-requires-clause-room c =
    let old = c.args.frames.now.writes.rows in
    let k : Chunk = c.in-Some.chunk in
    let cs = chunks_of c.args.direction (length c.args.bytes.now) in
    let same : chunks_of c.new-chunks.result.direction c.new-chunks.result.size ≡ cs = (λ i. chunks_of (c.new-chunks.ensures.direction i) (c.new-chunks.ensures.size i)) in
    let here : slice_get cs c.loop-number.number ≡ Some k = ap (λ (xs : List Chunk). slice_get xs c.loop-number.number) (sym same) ∙ sym c.in-Some.ensures.value in
    let all = all_of_chunk (λ (p : Piece). IsSome (lookup p.word old)) c.args.to cs c.loop-number.number k here c.requires.room in
    let pieces_are : c.deref.result.now ≡ pieces_of (c.args.to + k.at) k.size = c.deref.ensures.0 ∙ c.pieces-pieces.ensures.value in
    subst (All (λ (p : Piece). IsSome (lookup p.word c.loop-number.frames.writes.rows))) (sym pieces_are)
    (λ j d l. some_words c.loop-number.frames.writes.rows old _ c.loop-number.invariant.words (all j d l))

pub put_all-requires-clause-may_put : goal.put_all-requires-clause-may_put
put_all-requires-clause-may_put c =
    let k : Chunk = c.in-Some.chunk in
    let cs = chunks_of c.args.direction (length c.args.bytes.now) in
    let same : chunks_of c.new-chunks.result.direction c.new-chunks.result.size ≡ cs = (λ i. chunks_of (c.new-chunks.ensures.direction i) (c.new-chunks.ensures.size i)) in
    let here : slice_get cs c.loop-number.number ≡ Some k = ap (λ (xs : List Chunk). slice_get xs c.loop-number.number) (sym same) ∙ sym c.in-Some.ensures.value in
    let all = all_of_chunk (λ (p : Piece). MayPut c.args.frames.now.writes p.word) c.args.to cs c.loop-number.number k here c.requires.may_put in
    let pieces_are : c.deref.result.now ≡ pieces_of (c.args.to + k.at) k.size = c.deref.ensures.0 ∙ c.pieces-pieces.ensures.value in
    subst (All (λ (p : Piece). MayPut c.loop-number.frames.writes p.word)) (sym pieces_are) (λ j d l. c.loop-number.invariant.others _ (all j d l))

pub loop-number-preserved : goal.loop-number-preserved
loop-number-preserved c =
    let i = c.loop-number.invariant in
    let old = c.args.frames.now.writes.rows in
    let bytes = c.args.bytes.now in
    let k : Chunk = c.in-Some.chunk in
    let before = chunks_before c.new-chunks.result.direction c.new-chunks.result.size c.loop-number.number in
    let pieces_are : c.deref.result.now ≡ pieces_of (c.args.to + k.at) k.size = c.deref.ensures.0 ∙ c.pieces-pieces.ensures.value in
    let size : k.at + c.from.result - k.at ≡ k.size = omega (arith, c.from.ensures) in
    record {
      rows = c.put_all.ensures.rows ∙ ((λ j. put_all (i.rows j) (pieces_are j) (take (size j) (drop k.at bytes)))
          ∙ sym (ap (λ (xs : List Chunk). put_chunks old c.args.to xs bytes) c.in-Some.ensures.next.next ∙ put_chunks_more old c.args.to before k bytes));
      words = c.put_all.ensures.words ∙ i.words;
      others = λ word may. c.put_all.ensures.others word (i.others word may);
      kept = kept_on c.args.frames.now c.loop-number.frames c.put_all.new.frames i.kept c.put_all.ensures.kept;
    }

pub returns-clause-rows : goal.returns-clause-rows
returns-clause-rows c =
    let all = take_all c.loop-number.number (chunks_of c.new-chunks.result.direction c.new-chunks.result.size) (omega (arith, c.len-number-end.ensures.value, c.loop-number-test.false)) in
    c.loop-number.invariant.rows
    ∙ ap (λ (xs : List Chunk). put_chunks c.args.frames.now.writes.rows c.args.to xs c.args.bytes.now)
    (all ∙ (λ i. chunks_of (c.new-chunks.ensures.direction i) (c.new-chunks.ensures.size i)))
