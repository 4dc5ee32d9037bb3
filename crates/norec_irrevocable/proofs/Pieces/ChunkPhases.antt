-- The chunks of a copy, as an irrevocable transaction takes them.
use Rattle.std.proofs.Common.{◌≡◌, ℕ, suc, ◌+◌, ◌*◌, ◌^◌, ◌<◌, ◌≤◌, nat_lt, true, false, List, [], ◌∷◌, length, drop, take, None, Some, slice_get, refl, sym, ap, ◌∙◌, arith, add-one}
use Rattle.norec_irrevocable.proofs.Common.{AsksFor, Chunk, Copy, CopyPair, Copying, Data, Done, EndIrrevocable, Idle, In, IsHeld, IsServed, IsSoundHeld, Load, MayCopy, Out, Phase, Reading, Within, WritesShared, accepted_sides, arena_within, chunk_from, chunk_part, chunk_read, chunk_reading, chunk_stage, chunk_there, chunk_writing, chunks_in, cond-true, copied_each, copy_steps, count_of, counted, direction_of, held, in_call, is_in, is_out, kept, lt-ltb, none_drop, place_from, placed_before, read_from, read_past, shared_within, some_count_of, some_drop, source_refusal, target_refusal, target_within, word-pieces_of, word_of, words_in, words_in-next}
use Rattle.access_rules.proofs.Ranges.{IsPart}
use Rattle.norec_data.specs.declared.end.CallEnd.TheVariants as ends
use Rattle.norec_irrevocable.{specs.Moves.HeldGoesTo, proofs.Replies.Completions.copy_done, proofs.Pieces.HeldCopies.chunk_in_memory}
use Rattle.itm_types.specs.declared.limits.TheConstants.{MAX_WORDS}
use Rattle.itm_types.specs.declared.step.Step.TheVariants as steps
use Rattle.norec_core.specs.declared.call_parts.Purpose.TheVariants as for

-- ## What comes next

-- no chunk is left
pub copy_over : (d : Data) (k : Copying) (n : ℕ) (bytes : List ℕ) → IsHeld d → IsServed d k → slice_get (chunks_in k) n ≡ None
    → HeldGoesTo (in_call d (Copy k) bytes) (chunk_from k n) (λ m. copied_each (kept d m) k (drop n (chunks_in k))) (λ m. Done) d (EndIrrevocable ends.Done) d
copy_over d k n bytes h ok is =
    let none = none_drop (chunks_in k) n is in
    record {
      sound = h;
      proceeds = copy_done d h.is_open k bytes ok;
      comes = λ m mem. (sym (ap (copied_each (kept d m) k) none), refl);
      stays = record { opens = λ o. o; log = λ o. refl; snapshot = refl };
      order = sym (ap (chunk_stage k k.pair n) none);
      ends = tt;
    }

pub first_piece : (past : Phase) (r : Reading) → r.number < count_of r.at r.size → Load r ≡ read_from past r
first_piece past r l = sym (cond-true (nat_lt r.number (count_of r.at r.size)) (Load r) past (lt-ltb r.number (count_of r.at r.size) l))

in_stage : (k : Copying) (pair : CopyPair) (n : ℕ) (c : Chunk) (cs : List Chunk) → is_out pair ≡ false → chunk_stage k pair n (c ∷ cs) ≡ read_from Idle (chunk_reading k n c)
in_stage k (Out to) n c cs o = absurd (cc)
in_stage k pair n c cs o = refl

out_stage : (k : Copying) (pair : CopyPair) (n : ℕ) (c : Chunk) (cs : List Chunk) → is_out pair ≡ true → chunk_stage k pair n (c ∷ cs) ≡ place_from Idle (chunk_writing k n c)
out_stage k (Out to) n c cs o = refl
out_stage k pair n c cs o = absurd (cc)

pub out_comes_next : (k : Copying) (n : ℕ) (c : Chunk) → slice_get (chunks_in k) n ≡ Some c → is_out k.pair ≡ true → place_from Idle (chunk_writing k n c) ≡ chunk_from k n
out_comes_next k n c is o = sym (ap (chunk_stage k k.pair n) (some_drop (chunks_in k) n c is) ∙ out_stage k k.pair n c (drop (suc n) (chunks_in k)) o)

-- ## A chunk that is loaded

module _ (d : Data) (k : Copying) (n : ℕ) (c : Chunk) (is : slice_get (chunks_in k) n ≡ Some c) (o : is_out k.pair ≡ false) where
  abbrev first : Reading
  first = chunk_reading k n c

  part : IsPart k.size c
  part = chunk_part (direction_of k) k.size n c is

  some_words : 0 < count_of first.at first.size
  some_words = some_count_of first.at first.size part.some

  pub load_comes_next : Load first ≡ chunk_from k n
  load_comes_next =
      first_piece Idle first some_words
      ∙ sym (ap (chunk_stage k k.pair n) (some_drop (chunks_in k) n c is) ∙ in_stage k k.pair n c (drop (suc n) (chunks_in k)) o)

  pub load_sound : IsHeld d → MayCopy d k n → d.gathered.items ≡ [] → IsSoundHeld (counted d) (Load first)
  load_sound h may none = record {
    held = record { bounds = h.bounds; is_open = h.is_open; log = h.log; writes = h.writes; settled = h.settled; free = h.free; tries = h.tries };
    in_phase = record {
      within = chunk_in_memory d k may.served n c is o;
      small = part.small;
      some = some_words;
      purpose = (record { served = may.served; chunk = c; is = is; start_is = refl; size_is = refl }, o);
      sized = ap (length {A = ℕ}) none;
      spent = omega (arith, may.spent);
    };
  }

  pub load_asks : IsHeld d → IsServed d k → d.gathered.items ≡ [] → (bytes : List ℕ) → AsksFor (in_call d (Copy k) bytes) (steps.Load (suc (word_of first))) (held (counted d) (Load first))
  load_asks h ok none bytes =
      let within = chunk_in_memory d k ok n c is o in
      let word = word-pieces_of first.at first.size 0 d.words some_words within in
      record {
        lawful = (omega (arith, word), (h.is_open, λ x y. absurd (cc)));
        unfreed = refl;
        stays = (λ i. record (held (counted d) (Load first)) { gathered = none i });
      }

-- ## A chunk that is stored

pub target_in_memory : (d : Data) (k : Copying) (n : ℕ) (c : Chunk) → IsServed d k → WritesShared k.pair → slice_get (chunks_in k) n ≡ Some c → k.to + c.at + c.size ≤ 8 * d.words
target_in_memory d k n c ok w is = omega (arith, target_within d.words (length d.arena) k w ok, (chunk_part (direction_of k) k.size n c is).within)

-- into the arena
into_arena : (words bytes : ℕ) (pair : CopyPair) (place size : ℕ) → is_in pair ≡ true → target_refusal words bytes pair place size ≡ None → place + size ≤ bytes
into_arena words bytes (In from) place size i ok = arena_within bytes place size ok
into_arena words bytes pair place size i ok = absurd (cc)

pub target_in_arena : (d : Data) (k : Copying) (n : ℕ) (c : Chunk) → IsServed d k → is_in k.pair ≡ true → slice_get (chunks_in k) n ≡ Some c → k.to + c.at + c.size ≤ length d.arena
target_in_arena d k n c ok i is =
    let l = into_arena d.words (length d.arena) k.pair k.to k.size i (accepted_sides d.words (length d.arena) k ok).0 in
    omega (arith, l, (chunk_part (direction_of k) k.size n c is).within)

-- ## Counts

-- one side of a copy is shared memory
size_within : (words bytes : ℕ) (pair : CopyPair) (to from size : ℕ) → target_refusal words bytes pair to size ≡ None → source_refusal words bytes pair from size ≡ None → size ≤ 8 * words
size_within words bytes (In f) to from size target source = (let l = shared_within words from size source in omega (arith, l))
size_within words bytes pair to from size target source = (let l = shared_within words to size target in omega (arith, l))

-- so it has few chunks
pub few_chunks : (d : Data) (k : Copying) (n : ℕ) (c : Chunk) → IsServed d k → d.words ≤ MAX_WORDS → slice_get (chunks_in k) n ≡ Some c → n < 2 ^ 30
few_chunks d k n c ok small is =
    let sides = accepted_sides d.words (length d.arena) k ok in
    let l = size_within d.words (length d.arena) k.pair k.to k.from k.size sides.0 sides.1 in
    let there = (chunk_there (direction_of k) k.size n c is).0 in
    omega (arith, l, there, small)

module _ (k : Copying) (n : ℕ) (c : Chunk) (is : slice_get (chunks_in k) n ≡ Some c) where
  one_more : words_in k.from (take (suc n) (chunks_in k)) ≡ words_in k.from (take (n + 1) (chunks_in k))
  one_more = ap (λ (x : ℕ). words_in k.from (take x (chunks_in k))) (sym (add-one n))

  -- the steps for one chunk more
  pub steps_in : (pair : CopyPair) → is_in pair ≡ true → copy_steps k pair (take n (chunks_in k)) + count_of (k.from + c.at) c.size ≤ copy_steps k pair (take (n + 1) (chunks_in k))
  steps_in (In from) i = (let next = words_in-next k.from (chunks_in k) n c is in omega (arith, next))
  steps_in pair i = absurd (cc)

  pub steps_within : (pair : CopyPair) → is_out pair ≡ false → is_in pair ≡ false → copy_steps k pair (take n (chunks_in k)) + count_of (k.from + c.at) c.size ≤ placed_before k pair n
  steps_within (Within from to) o i = omega (arith, words_in-next k.from (chunks_in k) n c is, one_more)
  steps_within pair o i = absurd (cc)

  pub steps_placed : (pair : CopyPair) → WritesShared pair → placed_before k pair n + 2 * count_of (k.to + c.at) c.size ≤ copy_steps k pair (take (n + 1) (chunks_in k))
  steps_placed (In from) w = absurd w
  steps_placed pair w = omega (arith, words_in-next k.to (chunks_in k) n c is, one_more)

-- ## Past a chunk

in_read : (k : Copying) (pair : CopyPair) (n : ℕ) (c : Chunk) (cs : List Chunk) → is_in pair ≡ true → chunk_read k pair n (c ∷ cs) ≡ chunk_from k (suc n)
in_read k (In from) n c cs i = refl
in_read k pair n c cs i = absurd (cc)

within_read : (k : Copying) (pair : CopyPair) (n : ℕ) (c : Chunk) (cs : List Chunk) → is_out pair ≡ false → is_in pair ≡ false → chunk_read k pair n (c ∷ cs) ≡ place_from Idle (chunk_writing k n c)
within_read k (Within from to) n c cs o i = refl
within_read k pair n c cs o i = absurd (cc)

pub read_in_next : (k : Copying) (n : ℕ) (c : Chunk) → slice_get (chunks_in k) n ≡ Some c → is_in k.pair ≡ true → chunk_from k (n + 1) ≡ read_past (for.Chunk k n)
read_in_next k n c is i = ap (chunk_from k) (add-one n) ∙ sym (ap (chunk_read k k.pair n) (some_drop (chunks_in k) n c is) ∙ in_read k k.pair n c (drop (suc n) (chunks_in k)) i)

pub read_within_next : (k : Copying) (n : ℕ) (c : Chunk) → slice_get (chunks_in k) n ≡ Some c → is_out k.pair ≡ false → is_in k.pair ≡ false → place_from Idle (chunk_writing k n c) ≡ read_past (for.Chunk k n)
read_within_next k n c is o i = sym (ap (chunk_read k k.pair n) (some_drop (chunks_in k) n c is) ∙ within_read k k.pair n c (drop (suc n) (chunks_in k)) o i)
