use Rattle.std.proofs.Common.{◌≡◌, ℕ, suc, ◌+◌, ◌-◌, true, drop, length, None, Some, refl, sym, ap, subst, ◌∙◌, add-one, arith, rules}
use Rattle.norec_irrevocable.proofs.Common.{Copy, CopyPair, Idle, Purpose, WritesShared, access_saved, answered, call_for, chunk_saved, chunk_source, chunks_in, copied_each, copy_refusal, count_of, in_call, is_in, kept, place_from, read_past, reading_of, target_written, with_slice, written_at as written}
use Rattle.norec_irrevocable.proofs.Replies.PartsOfCalls.{turned}
use Rattle.norec_core.specs.declared.call_parts.Target.TheVariants as into
use Rattle.norec_irrevocable.proofs.Pieces.ChunkPhases.{few_chunks, read_in_next, read_within_next, steps_in, steps_within, target_in_arena}
use Rattle.norec_irrevocable.proofs.Replies.Completions.{read_done}
use Rattle.norec_irrevocable.proofs.read.whole.Goals as goal

pub overflow_add-start : goal.overflow_add-start
overflow_add-start c =
    let k = c.in-Chunk.copying in
    let loads = rw c.in-Chunk.is at c.requires.loaded.purpose in
    let chunk = loads.0 in
    let l = target_in_arena c.args.state.now k c.in-Chunk.number chunk.chunk chunk.served (ap is_in c.in-In.is) chunk.is in
    omega (arith, l, chunk.start_is, c.size-bytes.ensures.most)

pub put-requires : goal.put-requires
put-requires c =
    let k = c.in-Chunk.copying in
    let loads = rw c.in-Chunk.is at c.requires.loaded.purpose in
    let chunk = loads.0 in
    let l = target_in_arena c.args.state.now k c.in-Chunk.number chunk.chunk chunk.served (ap is_in c.in-In.is) chunk.is in
    let many = ap (length {A = ℕ}) c.deref.ensures.0 in
    omega (arith, l, chunk.start_is, chunk.size_is, many, c.requires.loaded.sized)

pub overflow_add-number : goal.overflow_add-number
overflow_add-number c =
    let loads = rw c.in-Chunk.is at c.requires.loaded.purpose in
    let chunk = loads.0 in
    omega (arith, few_chunks c.args.state.now c.in-Chunk.copying c.in-Chunk.number chunk.chunk chunk.served c.requires.held.bounds.small chunk.is)

pub chunk_on-requires-clause-may : goal.chunk_on-requires-clause-may
chunk_on-requires-clause-may c =
    let s = c.args.state.now in
    let r = c.args.reading in
    let k = c.in-Chunk.copying in
    let loads = rw c.in-Chunk.is at c.requires.loaded.purpose in
    let spent = rw c.in-Chunk.is at c.requires.loaded.spent in
    let chunk = loads.0 in
    let next = steps_in k c.in-Chunk.number chunk.chunk chunk.is k.pair (ap is_in c.in-In.is) in
    let same : count_of r.at r.size ≡ count_of (k.from + (chunk.chunk).at) (chunk.chunk).size = (λ i. count_of (chunk.start_is i) (chunk.size_is i)) in
    record {
      served = subst (λ (n : ℕ). copy_refusal true s.words n k ≡ None) (sym c.put.ensures.size) chunk.served;
      spent = omega (arith, spent, next, same);
    }

pub store_chunk-requires-clause-may : goal.store_chunk-requires-clause-may
store_chunk-requires-clause-may c =
    let s = c.args.state.now in
    let r = c.args.reading in
    let k = c.in-Chunk.copying in
    let loads = rw c.in-Chunk.is at c.requires.loaded.purpose in
    let spent = rw c.in-Chunk.is at c.requires.loaded.spent in
    let chunk = loads.0 in
    let next = steps_within k c.in-Chunk.number chunk.chunk chunk.is k.pair loads.1 (ap is_in c.in-Within.is) in
    let same : count_of r.at r.size ≡ count_of (k.from + (chunk.chunk).at) (chunk.chunk).size = (λ i. count_of (chunk.start_is i) (chunk.size_is i)) in
    let at : (chunk.chunk).at ≡ r.at - k.from = omega (arith, chunk.start_is) in
    record {
      served = chunk.served;
      chunk = chunk.is ∙ (λ i. Some (record { at = at i; size = sym chunk.size_is i }));
      shared = subst WritesShared (sym c.in-Within.is) tt;
      sized = c.requires.loaded.sized;
      source = sym (ap (λ (pair : CopyPair). chunk_source k pair (k.to + (r.at - k.from)) r.size s.arena s.gathered.items) c.in-Within.is);
      spent = omega (arith, spent, next, same);
    }

pub returns-in-Value : goal.returns-in-Value
returns-in-Value c = record {
  sound = c.requires.held;
  proceeds =
      (let s = c.args.state.now in
      let r = c.args.reading in
      let size = rw c.in-Value.is at c.requires.loaded.purpose in
      rw c.in-Value.is (read_done s c.requires.held.is_open c.in-Value.hint c.in-Value.width r.at s.gathered.items (omega (arith, c.requires.loaded.within, size))));
  comes = search rules;
  stays = record { opens = λ o. o; log = λ o. refl; snapshot = refl };
  order = search rules;
  ends = tt;
}

pub returns-in-In : goal.returns-in-In
returns-in-In c =
    let s = c.args.state.now in
    let r = c.args.reading in
    let k = c.in-Chunk.copying in
    let n = c.in-Chunk.number in
    let bytes = s.gathered.items in
    let place = k.to + (r.at - k.from) in
    let chunk = (rw c.in-Chunk.is at c.requires.loaded.purpose).0 in
    let what = sym c.in-Chunk.is in
    let saved : c.put.new.self ≡ with_slice s.arena place bytes = c.put.ensures.bytes ∙ ap (with_slice s.arena place) c.deref.ensures.0 in
    turned s c.put.new.self s.gathered _ _ (c.chunk_on.ensures bytes)
    ((λ i. record (in_call s (Copy k) bytes) { arena = saved i })
    ∙ ((λ i. record (in_call s (Copy k) bytes) { arena = chunk_saved k (sym c.in-In.is i) r.at s.arena bytes })
    ∙ (λ i. record (in_call s (call_for (what i) r.at) bytes) { arena = access_saved (what i) r.at s.arena bytes })))
    (read_in_next k n chunk.chunk chunk.is (ap is_in c.in-In.is) ∙ ap read_past what)
    (λ m mem. (
      (λ i. copied_each (kept (record s { arena = saved i }) m) k (drop (add-one n i) (chunks_in k)))
          ∙ (sym (ap (λ (pair : CopyPair). copied_each (target_written (kept s m) pair place bytes) k (drop (suc n) (chunks_in k))) c.in-In.is)
          ∙ ap (λ (p : Purpose). reading_of p r (kept s m) bytes) what),
      ap (λ (p : Purpose). answered p bytes) what,
    ))

pub returns-in-Within : goal.returns-in-Within
returns-in-Within c =
    let s = c.args.state.now in
    let r = c.args.reading in
    let k = c.in-Chunk.copying in
    let n = c.in-Chunk.number in
    let bytes = s.gathered.items in
    let place = k.to + (r.at - k.from) in
    let chunk = (rw c.in-Chunk.is at c.requires.loaded.purpose).0 in
    let shared = (rw c.in-Chunk.is at c.requires.loaded.purpose).1 in
    let what = sym c.in-Chunk.is in
    let start : place ≡ k.to + (chunk.chunk).at = omega (arith, chunk.start_is) in
    turned s s.arena s.gathered _ _ (c.store_chunk.ensures.goes bytes Idle (ap (λ (pair : CopyPair). chunk_source k pair place r.size s.arena bytes) c.in-Within.is))
    ((λ i. record (in_call s (Copy k) bytes) { arena = chunk_saved k (sym c.in-Within.is i) r.at s.arena bytes })
    ∙ (λ i. record (in_call s (call_for (what i) r.at) bytes) { arena = access_saved (what i) r.at s.arena bytes }))
    ((λ i. place_from Idle (record { target = into.Chunk k n; at = start i; size = chunk.size_is i; number = 0 }))
    ∙ (read_within_next k n chunk.chunk chunk.is shared (ap is_in c.in-Within.is) ∙ ap read_past what))
    (λ m mem. (
      (λ i. copied_each (written (kept s m) place bytes) k (drop (add-one n i) (chunks_in k)))
          ∙ (sym (ap (λ (pair : CopyPair). copied_each (target_written (kept s m) pair place bytes) k (drop (suc n) (chunks_in k))) c.in-Within.is)
          ∙ ap (λ (p : Purpose). reading_of p r (kept s m) bytes) what),
      ap (λ (p : Purpose). answered p bytes) what,
    ))
