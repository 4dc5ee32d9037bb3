-- Ranges of bytes go into the write set, chunk by chunk.
use Rattle.std.proofs.Common.{◌≡◌, ℕ, zero, suc, ◌+◌, ◌*◌, ◌<◌, ◌≤◌, ◌==◌, ◌||◌, nat_lt, Bool, List, [], ◌∷◌, ◌++◌, length, map, true, false, Option, Some, None, All, slice_get, refl, append-nil, append_assoc, length-append, sym, ap, subst, ◌∙◌, inl, inr, arith}
use Rattle.access_rules.proofs.Common.{AllByRecursion, AllFit, AllWritesWithin, AreBytes, AreBytes-slice, AreRows, Chunk, Direction, Down, IsPiece, Piece, Row, Up, bytes_of, bytes_of-written, cases_Bool, chunk_count, chunk_of, chunks_of, chunks_written, cond_both, has_mask, is_covered, length-bytes_of, length-map-range_with_len, length-overlay, length-slice, lookup, lookup_here, lookup_there, lt-ltb, mask_of, mask_of-some, ne_eqb, overlay, pieces_of, put_all, put_chunks, put_range, range_pieces, range_with_len, reserved, reserved_all, row, slice, take_all, with_slice, words_of-pieces_of}
use Rattle.user_actions.specs.Actions.{Actions}
use Rattle.nest_frames.specs.Nest.{Frame}
use Rattle.norec_core.specs.Stands.{blocks_over, is_some_row, state_over}
use Rattle.std.specs.Int.Bits.{bit_and, and_zero_l}
use Rattle.std.proofs.lemmas.List.Elements.{All-from_recursion, recursion_from_All}
use Rattle.word_pieces.proofs.ChunkBytes.{all-written}
use Rattle.itm_model.specs.Machine.{written}
use Rattle.norec_core.proofs.Engines.Machines.{is_some_row-put_all, or_true}
use Rattle.access_rules.proofs.Writings.{AllFitIn, fit_pieces, overlay-put_all, overlay-reserved_all, some_pieces, AllWritesWithin-put_all, AllWritesWithin-reserved_all, AreRows-put_all, AreRows-reserved_all}

-- ## The chunks of a range

-- some bytes of a range of this size, as many as one access has at most
pub record IsPart (size : ℕ) (c : Chunk) : Type 0 where
  pub some : 0 < c.size
  pub small : c.size ≤ 32
  pub within : c.at + c.size ≤ size

pub chunk_is : (direction : Direction) (size n : ℕ) → n < chunk_count size → IsPart size (chunk_of direction size n)
chunk_is Up size n l = record { some = omega arith; small = omega arith; within = omega arith }
chunk_is Down size n l = record { some = omega arith; small = omega arith; within = omega arith }

parts-from : (direction : Direction) (size start n : ℕ) → start + n ≤ chunk_count size → AllByRecursion (IsPart size) (map (chunk_of direction size) (range_with_len start n))
parts-from direction size start zero l = tt
parts-from direction size start (suc n) l = (chunk_is direction size start (omega arith), parts-from direction size (start + 1) n (omega arith))

pub parts-chunks_of : (direction : Direction) (size : ℕ) → AllByRecursion (IsPart size) (chunks_of direction size)
parts-chunks_of direction size = parts-from direction size 0 (chunk_count size) (omega arith)

-- the chunks write the whole range
pub written-chunks_of : (direction : Direction) (m value : List ℕ) (place : ℕ) → place + length value ≤ length m → chunks_written m place (chunks_of direction (length value)) value ≡ with_slice m place value
written-chunks_of direction m value place l =
    let n = chunk_count (length value) in
    let whole = take_all n (chunks_of direction (length value)) (omega (arith, length-map-range_with_len (chunk_of direction (length value)) 0 n)) in
    ap (λ (cs : List Chunk). chunks_written m place cs value) (sym whole) ∙ all-written direction (length value) n (omega arith) m value place refl l

-- ## Their pieces

both : (P : Piece → Type 0) (ps qs : List Piece) → AllByRecursion P ps → AllByRecursion P qs → AllByRecursion P (ps ++ qs)
both P [] qs h k = k
both P (p ∷ ps) qs h k = (h.0, both P ps qs h.1 k)

pub words-of_chunks : (words place size : ℕ) (cs : List Chunk) → AllByRecursion (IsPart size) cs → place + size ≤ 8 * words → AllByRecursion (λ (p : Piece). p.word < words) (range_pieces place cs)
words-of_chunks words place size [] h l = tt
words-of_chunks words place size (c ∷ cs) h l =
    let within = h.0.within in
    both (λ (p : Piece). p.word < words) (pieces_of (place + c.at) c.size) (range_pieces place cs) (words_of-pieces_of (place + c.at) c.size words (omega arith)) (words-of_chunks words place size cs h.1 l)

-- and its word lies in every memory in which the range lies
pub words-of_range : (words place : ℕ) (direction : Direction) (size : ℕ) → place + size ≤ 8 * words → AllByRecursion (λ (p : Piece). p.word < words) (range_pieces place (chunks_of direction size))
words-of_range words place direction size l = words-of_chunks words place size (chunks_of direction size) (parts-chunks_of direction size) l

-- ## Chunk by chunk

each : (P : Piece → Type 0) (ps qs : List Piece) → AllByRecursion P (ps ++ qs) → AllByRecursion P ps × AllByRecursion P qs
each P [] qs h = (tt, h)
each P (p ∷ ps) qs h = (let rest = each P ps qs h.1 in ((h.0, rest.0), rest.1))

of_chunk : (P : Piece → Type 0) (place : ℕ) (cs : List Chunk) (n : ℕ) (c : Chunk) → slice_get cs n ≡ Some c → AllByRecursion P (range_pieces place cs) → AllByRecursion P (pieces_of (place + c.at) c.size)
of_chunk P place [] n c e h = absurd (cc)
of_chunk P place (x ∷ xs) zero c e h =
    let same : x ≡ c = cc in
    subst (λ (y : Chunk). AllByRecursion P (pieces_of (place + y.at) y.size)) same (each P (pieces_of (place + x.at) x.size) (range_pieces place xs) h).0
of_chunk P place (x ∷ xs) (suc n) c e h = of_chunk P place xs n c e (each P (pieces_of (place + x.at) x.size) (range_pieces place xs) h).1

-- what holds of each piece of the chunks holds of those of one chunk
pub all_of_chunk : (P : Piece → Type 0) (place : ℕ) (cs : List Chunk) (n : ℕ) (c : Chunk) → slice_get cs n ≡ Some c → All P (range_pieces place cs) → All P (pieces_of (place + c.at) c.size)
all_of_chunk P place cs n c e h = All-from_recursion P (pieces_of (place + c.at) c.size) (of_chunk P place cs n c e (recursion_from_All P (range_pieces place cs) h))

-- one chunk more
pub range_pieces_more : (place : ℕ) (cs : List Chunk) (c : Chunk) → range_pieces place (cs ++ c ∷ []) ≡ range_pieces place cs ++ pieces_of (place + c.at) c.size
range_pieces_more place [] c = append-nil (pieces_of (place + c.at) c.size)
range_pieces_more place (x ∷ xs) c =
    let ps = pieces_of (place + x.at) x.size in
    ap (λ (qs : List Piece). ps ++ qs) (range_pieces_more place xs c) ∙ sym (append_assoc ps (range_pieces place xs) (pieces_of (place + c.at) c.size))

pub reserved_all-append : (rows : List Row) (ps qs : List Piece) → reserved_all rows (ps ++ qs) ≡ reserved_all (reserved_all rows ps) qs
reserved_all-append rows [] qs = refl
reserved_all-append rows (p ∷ ps) qs = reserved_all-append (reserved rows p.word) ps qs

pub put_chunks_more : (rows : List Row) (place : ℕ) (cs : List Chunk) (c : Chunk) (bytes : List ℕ)
    → put_chunks rows place (cs ++ c ∷ []) bytes ≡ put_all (put_chunks rows place cs bytes) (pieces_of (place + c.at) c.size) (slice bytes c.at c.size)
put_chunks_more rows place [] c bytes = refl
put_chunks_more rows place (x ∷ xs) c bytes = put_chunks_more (put_all rows (pieces_of (place + x.at) x.size) (slice bytes x.at x.size)) place xs c bytes

-- ## What is put

-- a chunk's bytes fit its words
module _ (words place : ℕ) (bytes : List ℕ) (b : AreBytes bytes) (l : place + length bytes ≤ 8 * words) where
  fit_chunk : (c : Chunk) → IsPart (length bytes) c → AllFitIn words (pieces_of (place + c.at) c.size) (slice bytes c.at c.size)
  fit_chunk c is =
      let within = is.within in
      fit_pieces words (place + c.at) c.size (slice bytes c.at c.size) (omega arith) is.small (AreBytes-slice bytes c.at c.size b)

  pub AreRows-put_chunks : (rows : List Row) (cs : List Chunk) → AreRows rows → AllByRecursion (IsPart (length bytes)) cs → AreRows (put_chunks rows place cs bytes)
  AreRows-put_chunks rows [] are h = are
  AreRows-put_chunks rows (c ∷ cs) are h =
      let ps = pieces_of (place + c.at) c.size in
      let part = slice bytes c.at c.size in
      AreRows-put_chunks (put_all rows ps part) cs (AreRows-put_all words rows ps part are (fit_chunk c h.0)) h.1

  pub AllWritesWithin-put_chunks : (rows : List Row) (cs : List Chunk) → AllWritesWithin words rows → AllByRecursion (IsPart (length bytes)) cs → AllWritesWithin words (put_chunks rows place cs bytes)
  AllWritesWithin-put_chunks rows [] are h = are
  AllWritesWithin-put_chunks rows (c ∷ cs) are h =
      let ps = pieces_of (place + c.at) c.size in
      let part = slice bytes c.at c.size in
      AllWritesWithin-put_chunks (put_all rows ps part) cs (AllWritesWithin-put_all words rows ps part are (fit_chunk c h.0)) h.1

-- the bytes under the rows, with each chunk's
pub bytes_of-put_chunks : (m : List ℕ) (rows : List Row) (place : ℕ) (cs : List Chunk) (bytes : List ℕ) → AllFit m → AreRows rows → AreBytes bytes → place + length bytes ≤ 8 * length m
    → AllByRecursion (IsPart (length bytes)) cs → bytes_of (overlay m (put_chunks rows place cs bytes)) ≡ chunks_written (bytes_of (overlay m rows)) place cs bytes
bytes_of-put_chunks m rows place [] bytes fit are b l h = refl
bytes_of-put_chunks m rows place (c ∷ cs) bytes fit are b l h =
    let ps = pieces_of (place + c.at) c.size in
    let part = slice bytes c.at c.size in
    let few = fit_chunk (length m) place bytes b l c h.0 in
    let within = h.0.within in
    let size : length (overlay m rows) ≡ length m = length-overlay m rows in
    bytes_of-put_chunks m (put_all rows ps part) place cs bytes fit (AreRows-put_all (length m) rows ps part are few) b l h.1
    ∙ ap (λ (x : List ℕ). chunks_written x place cs bytes)
    (ap bytes_of (overlay-put_all m rows ps part fit are few)
    ∙ bytes_of-written (overlay m rows) part (place + c.at) c.size (AreBytes-slice bytes c.at c.size b) (length-slice bytes c.at c.size within) (omega arith))

-- ## A range

-- bytes that are put replace their slice of the memory under the rows
pub bytes_of-put_range : (m : List ℕ) (rows : List Row) (place : ℕ) (direction : Direction) (bytes : List ℕ) → AllFit m → AreRows rows → AreBytes bytes → place + length bytes ≤ 8 * length m
    → bytes_of (overlay m (put_range rows place direction bytes)) ≡ with_slice (bytes_of (overlay m rows)) place bytes
bytes_of-put_range m rows place direction bytes fit are b l =
    let cs = chunks_of direction (length bytes) in
    let ps = range_pieces place cs in
    let size : length (overlay m rows) ≡ length m = length-overlay m rows in
    let len = length-bytes_of (overlay m rows) in
    bytes_of-put_chunks m (reserved_all rows ps) place cs bytes fit (AreRows-reserved_all rows ps are) b l (parts-chunks_of direction (length bytes))
    ∙ (ap (λ (x : List ℕ). chunks_written (bytes_of x) place cs bytes) (overlay-reserved_all m rows ps fit are)
    ∙ written-chunks_of direction (bytes_of (overlay m rows)) bytes place (omega arith))

pub AreRows-put_range : (words : ℕ) (rows : List Row) (place : ℕ) (direction : Direction) (bytes : List ℕ) → AreRows rows → AreBytes bytes → place + length bytes ≤ 8 * words
    → AreRows (put_range rows place direction bytes)
AreRows-put_range words rows place direction bytes are b l =
    let cs = chunks_of direction (length bytes) in
    AreRows-put_chunks words place bytes b l (reserved_all rows (range_pieces place cs)) cs (AreRows-reserved_all rows (range_pieces place cs) are) (parts-chunks_of direction (length bytes))

pub AllWritesWithin-reserved_range : (words : ℕ) (rows : List Row) (place : ℕ) (direction : Direction) (size : ℕ) → AllWritesWithin words rows → place + size ≤ 8 * words
    → AllWritesWithin words (reserved_all rows (range_pieces place (chunks_of direction size)))
AllWritesWithin-reserved_range words rows place direction size are l = AllWritesWithin-reserved_all words rows (range_pieces place (chunks_of direction size)) are (words-of_range words place direction size l)

pub AllWritesWithin-put_range : (words : ℕ) (rows : List Row) (place : ℕ) (direction : Direction) (bytes : List ℕ) → AllWritesWithin words rows → AreBytes bytes → place + length bytes ≤ 8 * words
    → AllWritesWithin words (put_range rows place direction bytes)
AllWritesWithin-put_range words rows place direction bytes are b l =
    let cs = chunks_of direction (length bytes) in
    AllWritesWithin-put_chunks words place bytes b l (reserved_all rows (range_pieces place cs)) cs
    (AllWritesWithin-reserved_range words rows place direction (length bytes) are l) (parts-chunks_of direction (length bytes))

-- ## There is a row

some_reserved : (rows : List Row) (word : ℕ) → is_some_row (reserved rows word) ≡ true
some_reserved [] word = refl
some_reserved (r ∷ rs) word = cond_both (r.word == word) (r ∷ rs) (r ∷ reserved rs word) (λ (x : List Row). is_some_row x ≡ true) (λ e. refl) (λ e. refl)

some_reserved_all : (rows : List Row) (ps : List Piece) → is_some_row rows ≡ true → is_some_row (reserved_all rows ps) ≡ true
some_reserved_all rows [] h = h
some_reserved_all rows (p ∷ ps) h = some_reserved_all (reserved rows p.word) ps (some_reserved rows p.word)

reserved_some : (rows : List Row) (ps : List Piece) → 0 < length ps → is_some_row (reserved_all rows ps) ≡ true
reserved_some rows [] l = absurd (omega arith)
reserved_some rows (p ∷ ps) l = some_reserved_all (reserved rows p.word) ps (some_reserved rows p.word)

some_put_chunks : (rows : List Row) (place : ℕ) (cs : List Chunk) (bytes : List ℕ) → is_some_row rows ≡ true → is_some_row (put_chunks rows place cs bytes) ≡ true
some_put_chunks rows place [] bytes h = h
some_put_chunks rows place (c ∷ cs) bytes h =
    some_put_chunks (put_all rows (pieces_of (place + c.at) c.size) (slice bytes c.at c.size)) place cs bytes
    (is_some_row-put_all rows (pieces_of (place + c.at) c.size) (slice bytes c.at c.size) h)

-- what has bytes has a piece
pub some_range : (place : ℕ) (direction : Direction) (size : ℕ) → 0 < size → 0 < length (range_pieces place (chunks_of direction size))
some_range place direction size l = by_count (chunk_count size) refl
  where
    by_count : (n : ℕ) → n ≡ chunk_count size → 0 < length (range_pieces place (map (chunk_of direction size) (range_with_len 0 n)))
    by_count zero e = absurd (omega arith)
    by_count (suc n) e =
        let c = chunk_of direction size 0 in
        let some = some_pieces (place + c.at) c.size (chunk_is direction size 0 (omega arith)).some in
        let rest = range_pieces place (map (chunk_of direction size) (range_with_len (0 + 1) n)) in
        let len = length-append (pieces_of (place + c.at) c.size) rest in
        omega arith

or_false : (b : Bool) → (b || false) ≡ b
or_false true = refl
or_false false = refl

-- bytes that are put give a row
pub is_some_row-put_range : (rows : List Row) (place : ℕ) (direction : Direction) (bytes : List ℕ)
    → is_some_row (put_range rows place direction bytes) ≡ (is_some_row rows || nat_lt 0 (length bytes))
is_some_row-put_range rows place direction [] = sym (or_false (is_some_row rows))
is_some_row-put_range rows place direction (b ∷ bs) =
    let size = length (b ∷ bs) in
    let cs = chunks_of direction size in
    let ps = range_pieces place cs in
    some_put_chunks (reserved_all rows ps) place cs (b ∷ bs) (reserved_some rows ps (some_range place direction size (omega arith)))
    ∙ sym (ap (λ (x : Bool). is_some_row rows || x) (lt-ltb 0 size (omega arith)) ∙ or_true (is_some_row rows))

-- ## Rows that are reserved

-- a row of empty mask has no byte
no_mask : (mask : ℕ) → 0 < mask → (bit_and 0 mask == mask) ≡ false
no_mask mask l = ne_eqb (bit_and 0 mask) mask (λ e. (let z = and_zero_l mask in omega arith))

has_mask-reserved : (rows : List Row) (v w mask : ℕ) → 0 < mask → has_mask (lookup w (reserved rows v)) mask ≡ has_mask (lookup w rows) mask
has_mask-reserved [] v w mask l =
    cond_both (v == w) (Some (row v 0 0)) None (λ (x : Option Row). has_mask x mask ≡ false) (λ e. no_mask mask l) (λ e. refl)
has_mask-reserved (r ∷ rs) v w mask l =
    cond_both (r.word == v) (r ∷ rs) (r ∷ reserved rs v) (λ (xs : List Row). has_mask (lookup w xs) mask ≡ has_mask (lookup w (r ∷ rs)) mask) (λ e. refl)
    (λ e. elim (cases_Bool (r.word == w)) [
      | inl found ↦ ap (λ (x : Option Row). has_mask x mask) (lookup_here r (reserved rs v) w found ∙ sym (lookup_here r rs w found))
      | inr other ↦ ap (λ (x : Option Row). has_mask x mask) (lookup_there r (reserved rs v) w other)
          ∙ (has_mask-reserved rs v w mask l ∙ sym (ap (λ (x : Option Row). has_mask x mask) (lookup_there r rs w other)))
    ])

-- so they cover no piece
pub is_covered-reserved_all : (rows : List Row) (ps : List Piece) (p : Piece) → IsPiece p → is_covered (reserved_all rows ps) p ≡ is_covered rows p
is_covered-reserved_all rows [] p is = refl
is_covered-reserved_all rows (q ∷ qs) p is =
    is_covered-reserved_all (reserved rows q.word) qs p is ∙ has_mask-reserved rows q.word p.word (mask_of p.first p.count) (mask_of-some p.first p.count is.some)

-- ## The plain machine's state

-- bytes that are put are written
pub written_over : (m : List ℕ) (rows : List Row) (blocks : List Frame) (arena : List ℕ) (actions : Actions) (place : ℕ) (direction : Direction) (bytes : List ℕ) → AllFit m → AreRows rows → AreBytes bytes
    → place + length bytes ≤ 8 * length m → state_over (put_range rows place direction bytes) blocks arena actions m ≡ written (state_over rows blocks arena actions m) place bytes
written_over m rows blocks arena actions place direction bytes fit are b l =
    let memory = bytes_of-put_range m rows place direction bytes fit are b l in
    let wrote = is_some_row-put_range rows place direction bytes in
    λ i. record { memory = memory i; arena = arena; blocks = blocks_over blocks arena m; actions = actions; wrote = wrote i; irrevocable = false }
