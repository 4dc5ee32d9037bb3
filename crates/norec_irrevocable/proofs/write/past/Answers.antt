use Rattle.std.proofs.Common.{◌≡◌, ℕ, ◌+◌, ◌%◌, drop, refl, sym, ap, ◌∙◌, add-one, arith, rules}
use Rattle.norec_irrevocable.proofs.Common.{Target, Up, chunk_from, chunk_there, chunks_in, chunks_of, copied_each, count_of, fill_from, filled_each, in_call, kept, placed_for, placed_past, rest_of, size_of, words_in-next}
use Rattle.norec_irrevocable.proofs.Replies.PartsOfCalls.{turned}
use Rattle.norec_irrevocable.proofs.Pieces.ChunkPhases.{few_chunks, steps_placed}
use Rattle.norec_irrevocable.proofs.Replies.Completions.{write_done}
use Rattle.norec_irrevocable.proofs.write.past.Goals as goal

pub overflow_add-number : goal.overflow_add-number
overflow_add-number c =
    let target = rw c.in-Fill.is at c.requires.placed.target in
    let there = (chunk_there Up c.in-Fill.size c.in-Fill.number target.2 target.3).0 in
    omega (arith, there, target.0, c.requires.held.bounds.small)

pub fill_on-requires-clause-may : goal.fill_on-requires-clause-may
fill_on-requires-clause-may c =
    let w = c.args.writing in
    let target = rw c.in-Fill.is at c.requires.placed.target in
    let spent = rw c.in-Fill.is at c.requires.placed.spent in
    let next = words_in-next c.in-Fill.to (chunks_of Up c.in-Fill.size) c.in-Fill.number target.2 target.3 in
    let same : count_of w.at w.size ≡ count_of (c.in-Fill.to + (target.2).at) (target.2).size = (λ i. count_of (target.4 i) (target.5 i)) in
    record { within = target.0; spent = omega (arith, spent, next, same) }

pub overflow_add-number-in-Chunk : goal.overflow_add-number-in-Chunk
overflow_add-number-in-Chunk c =
    let target = rw c.in-Chunk.is at c.requires.placed.target in
    omega (arith, few_chunks c.args.state.now c.in-Chunk.copying c.in-Chunk.number (target.0).chunk (target.0).served c.requires.held.bounds.small (target.0).is)

pub chunk_on-requires-clause-may : goal.chunk_on-requires-clause-may
chunk_on-requires-clause-may c =
    let w = c.args.writing in
    let k = c.in-Chunk.copying in
    let target = rw c.in-Chunk.is at c.requires.placed.target in
    let spent = rw c.in-Chunk.is at c.requires.placed.spent in
    let chunk = (target.0).chunk in
    let next = steps_placed k c.in-Chunk.number chunk (target.0).is k.pair target.1 in
    let same : count_of w.at w.size ≡ count_of (k.to + chunk.at) chunk.size = (λ i. count_of ((target.0).start_is i) ((target.0).size_is i)) in
    record { served = (target.0).served; spent = omega (arith, spent, next, same) }

pub returns-in-Value : goal.returns-in-Value
returns-in-Value c bytes = record {
  sound = c.requires.held;
  proceeds =
      (let s = c.args.state.now in
      let w = c.args.writing in
      let target = rw c.in-Value.is at c.requires.placed.target in
      let size : w.size ≡ size_of s.value.width = target.1 ∙ ap size_of target.0 in
      rw c.in-Value.is (write_done s c.requires.held.is_open c.in-Value.hint s.value w.at bytes (omega (arith, c.requires.placed.within, size))));
  comes = search rules;
  stays = record { opens = λ o. o; log = λ o. refl; snapshot = refl };
  order = sym (ap placed_past c.in-Value.is);
  ends = tt;
}

pub returns-in-Fill : goal.returns-in-Fill
returns-in-Fill c bytes =
    let s = c.args.state.now in
    let f = c.in-Fill in
    let is = sym f.is in
    turned s s.arena s.gathered _ _ (c.fill_on.ensures bytes) (ap (λ (t : Target). in_call s (placed_for s t c.args.writing.at) bytes) is) (ap (fill_from f.hint f.to f.byte f.size) (add-one f.number) ∙ ap placed_past is)
    (λ m mem. (ap (λ (x : ℕ). filled_each (kept s m) f.to (f.byte % 256) (drop x (chunks_of Up f.size))) (add-one f.number) ∙ ap (λ (t : Target). rest_of t (kept s m)) is, refl))

pub returns-in-Chunk : goal.returns-in-Chunk
returns-in-Chunk c bytes =
    let s = c.args.state.now in
    let k = c.in-Chunk.copying in
    let is = sym c.in-Chunk.is in
    turned s s.arena s.gathered _ _ (c.chunk_on.ensures bytes) (ap (λ (t : Target). in_call s (placed_for s t c.args.writing.at) bytes) is) (ap (chunk_from k) (add-one c.in-Chunk.number) ∙ ap placed_past is)
    (λ m mem. (ap (λ (x : ℕ). copied_each (kept s m) k (drop x (chunks_in k))) (add-one c.in-Chunk.number) ∙ ap (λ (t : Target). rest_of t (kept s m)) is, refl))
