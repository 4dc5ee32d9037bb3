-- A copy or a fill chunk by chunk comes to what one of the whole range does.
use Rattle.std.proofs.Common.{◌≡◌, ℕ, ◌+◌, ◌*◌, ◌-◌, ◌<◌, ◌≤◌, ◌&&◌, nat_lt, if◌then◌else◌, Bool, true, false, List, [], ◌∷◌, length, replicate, take, None, refl, ap, sym, ◌∙◌, inl, inr, arith}
use Rattle.norec_irrevocable.proofs.Common.{AllByRecursion, Chunk, CopyPair, Copying, Direction, Down, In, IsSafe, Out, State, Up, Within, accepted_sides, arena_within, chunk_count, chunk_of, chunks_before, chunks_in, chunks_moved, chunks_of, chunks_written, copied, copied_each, copy_refusal, direction_of, drop-replicate, filled_each, length-map-range_with_len, length-replicate, ltb-false, ltb-true, shared_within, slice, take-replicate, take_all, with_slice, written_at as written}
use Rattle.itm_types.{specs.declared.copy.SharedSide.SharedSide, specs.Copies.overlap}
use Rattle.word_pieces.{proofs.ChunkBytes.all-moved, proofs.Lists.slice-slice, proofs.Lists.length-slice}
use Rattle.access_rules.proofs.Ranges.{IsPart, parts-chunks_of, written-chunks_of}

-- the same state with this memory and this arena, a shared byte of it being written
abbrev over : State → List ℕ → List ℕ → State
over s m a = record s { memory = m; arena = a; wrote = true }

abbrev of_pair : Bool → CopyPair → ℕ → ℕ → ℕ → Copying
of_pair moves pair to from size = record { moves = moves; pair = pair; to = to; from = from; size = size }

-- ## Chunk after chunk

pub out_each : (s : State) (moves : Bool) (t : SharedSide) (to from size : ℕ) (m a : List ℕ) (cs : List Chunk) → AllByRecursion (IsPart size) cs
    → copied_each (over s m a) (of_pair moves (Out t) to from size) cs ≡ over s (chunks_written m to cs (slice a from size)) a
out_each s moves t to from size m a [] are = refl
out_each s moves t to from size m a (c ∷ cs) are =
    out_each s moves t to from size (with_slice m (to + c.at) (slice a (from + c.at) c.size)) a cs are.1
    ∙ ap (λ bytes. over s (chunks_written (with_slice m (to + c.at) bytes) to cs (slice a from size)) a) (sym (slice-slice a from size c.at c.size are.0.within))

in_each : (s : State) (moves : Bool) (t : SharedSide) (to from size : ℕ) (m a : List ℕ) (cs : List Chunk) → AllByRecursion (IsPart size) cs
    → copied_each (over s m a) (of_pair moves (In t) to from size) cs ≡ over s m (chunks_written a to cs (slice m from size))
in_each s moves t to from size m a [] are = refl
in_each s moves t to from size m a (c ∷ cs) are =
    in_each s moves t to from size m (with_slice a (to + c.at) (slice m (from + c.at) c.size)) cs are.1
    ∙ ap (λ bytes. over s m (chunks_written (with_slice a (to + c.at) bytes) to cs (slice m from size))) (sym (slice-slice m from size c.at c.size are.0.within))

within_each : (s : State) (moves : Bool) (f t : SharedSide) (to from size : ℕ) (m a : List ℕ) (cs : List Chunk)
    → copied_each (over s m a) (of_pair moves (Within f t) to from size) cs ≡ over s (chunks_moved m from to cs) a
within_each s moves f t to from size m a [] = refl
within_each s moves f t to from size m a (c ∷ cs) = within_each s moves f t to from size (with_slice m (to + c.at) (slice m (from + c.at) c.size)) a cs

slice-replicate : (byte size at n : ℕ) → at + n ≤ size → slice (replicate size byte) at n ≡ replicate n byte
slice-replicate byte size at n l = ap (take n) (drop-replicate at size byte) ∙ take-replicate n (size - at) byte (omega arith)

filled_chunks : (s : State) (to byte size : ℕ) (m a : List ℕ) (cs : List Chunk) → AllByRecursion (IsPart size) cs
    → filled_each (over s m a) to byte cs ≡ over s (chunks_written m to cs (replicate size byte)) a
filled_chunks s to byte size m a [] are = refl
filled_chunks s to byte size m a (c ∷ cs) are =
    filled_chunks s to byte size (with_slice m (to + c.at) (replicate c.size byte)) a cs are.1
    ∙ ap (λ bytes. over s (chunks_written (with_slice m (to + c.at) bytes) to cs (replicate size byte)) a) (sym (slice-replicate byte size c.at c.size are.0.within))

-- ## All chunks

all_chunks : (direction : Direction) (size : ℕ) → chunks_of direction size ≡ chunks_before direction size (chunk_count size)
all_chunks direction size = sym (take_all (chunk_count size) (chunks_of direction size) (omega (arith, length-map-range_with_len (chunk_of direction size) 0 (chunk_count size))))

written-all : (direction : Direction) (m value : List ℕ) (place size : ℕ) → length value ≡ size → place + size ≤ length m → chunks_written m place (chunks_of direction size) value ≡ with_slice m place value
written-all direction m value place size e l =
    ap (λ n. chunks_written m place (chunks_of direction n) value) (sym e) ∙ written-chunks_of direction m value place (omega arith)

moved-chunks_of : (direction : Direction) (m : List ℕ) (from to size : ℕ) → IsSafe direction size from to → from + size ≤ length m → to + size ≤ length m
    → chunks_moved m from to (chunks_of direction size) ≡ with_slice m to (slice m from size)
moved-chunks_of direction m from to size safe f t =
    ap (chunks_moved m from to) (all_chunks direction size) ∙ all-moved direction size (chunk_count size) (omega arith) m from to safe f t

by_order : (from to size : ℕ) (o l : Bool) → (l ≡ true → from < to) → (l ≡ false → to ≤ from) → (o ≡ false → from < to → from + size ≤ to)
    → IsSafe (if o && l then Down else Up) size from to
by_order from to size true true below above apart = inl (omega (arith, below refl))
by_order from to size true false below above apart = inl (above refl)
by_order from to size false true below above apart = inr (apart refl (below refl))
by_order from to size false false below above apart = inl (above refl)

apart_above : (from to size : ℕ) (x y : Bool) → (x ≡ false → from + size ≤ to) → (y ≡ false → to + size ≤ from) → x && y ≡ false → from < to → from + size ≤ to
apart_above from to size false y high low e l = high refl
apart_above from to size true false high low e l = absurd (omega (arith, low refl, l))
apart_above from to size true true high low e l = absurd (cc)

-- a copy is taken from the end from which no byte is written before it is read
safe_direction : (moves : Bool) (f t : SharedSide) (to from size : ℕ) → IsSafe (direction_of (of_pair moves (Within f t) to from size)) size from to
safe_direction moves f t to from size =
    by_order from to size (overlap to from size) (nat_lt from to) (ltb-true from to) (ltb-false from to)
    (apart_above from to size (nat_lt to (from + size)) (nat_lt from (to + size)) (ltb-false to (from + size)) (ltb-false from (to + size)))

-- ## The whole

copied_all : (s : State) (moves : Bool) (pair : CopyPair) (to from size : ℕ) (m a : List ℕ) (words : ℕ) → length m ≡ 8 * words → copy_refusal true words (length a) (of_pair moves pair to from size) ≡ None
    → copied_each (over s m a) (of_pair moves pair to from size) (chunks_in (of_pair moves pair to from size)) ≡ copied (over s m a) (of_pair moves pair to from size)
copied_all s moves (Out t) to from size m a words e ok =
    let sides = accepted_sides words (length a) (of_pair moves (Out t) to from size) ok in
    let target = shared_within words to size sides.0 in
    let source = arena_within (length a) from size sides.1 in
    let many : length (slice a from size) ≡ size = length-slice a from size source in
    out_each s moves t to from size m a (chunks_of Up size) (parts-chunks_of Up size)
    ∙ ap (λ x. over s x a) (written-all Up m (slice a from size) to size many (omega arith))
copied_all s moves (In t) to from size m a words e ok =
    let sides = accepted_sides words (length a) (of_pair moves (In t) to from size) ok in
    let target = arena_within (length a) to size sides.0 in
    let source = shared_within words from size sides.1 in
    let many : length (slice m from size) ≡ size = length-slice m from size (omega arith) in
    in_each s moves t to from size m a (chunks_of Up size) (parts-chunks_of Up size)
    ∙ ap (λ x. over s m x) (written-all Up a (slice m from size) to size many (omega arith))
copied_all s moves (Within f t) to from size m a words e ok =
    let k = of_pair moves (Within f t) to from size in
    let sides = accepted_sides words (length a) k ok in
    let target = shared_within words to size sides.0 in
    let source = shared_within words from size sides.1 in
    within_each s moves f t to from size m a (chunks_in k)
    ∙ ap (λ x. over s x a) (moved-chunks_of (direction_of k) m from to size (safe_direction moves f t to from size) (omega arith) (omega arith))

-- a copy that is served, in a transaction that has written or is irrevocable
pub copied_by_chunks : (s : State) (k : Copying) (words : ℕ) → s.wrote ≡ true → length s.memory ≡ 8 * words → copy_refusal true words (length s.arena) k ≡ None
    → copied_each s k (chunks_in k) ≡ copied s k
copied_by_chunks s k words w e ok =
    let is : s ≡ over s s.memory s.arena = (λ i. record s { wrote = w i }) in
    ap (λ (t : State). copied_each t k (chunks_in k)) is
    ∙ (copied_all s k.moves k.pair k.to k.from k.size s.memory s.arena words e ok
    ∙ ap (λ (t : State). copied t k) (sym is))

-- and a fill
pub filled_by_chunks : (s : State) (to byte size : ℕ) → s.wrote ≡ true → to + size ≤ length s.memory → filled_each s to byte (chunks_of Up size) ≡ written s to (replicate size byte)
filled_by_chunks s to byte size w l =
    let is : s ≡ over s s.memory s.arena = (λ i. record s { wrote = w i }) in
    let many : length (replicate size byte) ≡ size = length-replicate size byte in
    ap (λ (t : State). filled_each t to byte (chunks_of Up size)) is
    ∙ (filled_chunks s to byte size s.memory s.arena (chunks_of Up size) (parts-chunks_of Up size)
    ∙ (ap (λ x. over s x s.arena) (written-all Up s.memory (replicate size byte) to size many l)
    ∙ ap (λ (t : State). written t to (replicate size byte)) (sym is)))
