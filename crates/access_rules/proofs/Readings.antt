-- The pieces of a read, one by one.
use Rattle.std.proofs.Common.{◌≡◌, ℕ, zero, suc, ◌+◌, ◌/◌, ◌%◌, ◌==◌, ◌<◌, ◌≤◌, true, false, List, [], ◌∷◌, ◌++◌, drop, take, get_or, None, Some, slice_get, slice_index, length, refl, sym, ap, subst, ◌∙◌, add-one, arith}
use Rattle.access_rules.proofs.Common.{AllByRecursion-pieces_of, Chunk, Copying, IsPiece, LogRow, Piece, Row, chunks_in, cond-false, cond-true, cond_both, count_of, drop_all, get_or-map-range_with_len, get_or_from_slice_get, is_had, length-append, length-drop, length-map-range_with_len, length-take-le, part_of, piece_of, pieces_of, source_words, to_le_bytes, w64, words_in}
use Rattle.std.proofs.lemmas.Bool.{eqb-true}
use Rattle.std.proofs.lemmas.List.Elements.{All-from_recursion}
use Rattle.std.proofs.lemmas.Option.{slice_get_read, slice_get_within}
pub use Rattle.std.proofs.lemmas.Option.{slice_get_within as some_count}
use Rattle.norec_core.specs.Phases.{Load, Phase}
use Rattle.norec_core.specs.declared.call_parts.Reading.{Reading}
use Rattle.norec_core.specs.Order.{load_chunks, tries_after, tries_at}
use Rattle.norec_core.specs.Accesses.{part, parts, count, passed_for, total_for}
use Rattle.norec_core.specs.Order.{load_among, chunk_reading}
use Rattle.norec_core.specs.declared.call_parts.Purpose.{Purpose}
use Rattle.norec_core.specs.declared.call_parts.Purpose.TheVariants as for

pub none_drop : {X : Type 0} (xs : List X) (n : ℕ) → slice_get xs n ≡ None → drop n xs ≡ []
none_drop [] zero e = refl
none_drop [] (suc n) e = refl
none_drop (x ∷ xs) zero e = absurd (cc)
none_drop (x ∷ xs) (suc n) e = none_drop xs n e

pub some_drop : {X : Type 0} (xs : List X) (n : ℕ) (x : X) → slice_get xs n ≡ Some x → drop n xs ≡ x ∷ drop (suc n) xs
some_drop [] n x e = absurd (cc)
some_drop (y ∷ xs) zero x e = (let same : y ≡ x = cc in ap (λ z. z ∷ xs) same)
some_drop (y ∷ xs) (suc n) x e = some_drop xs n x e

module _ (writes : List Row) (log : List LogRow) (past : Phase) (r : Reading) where
  -- no piece is left
  pub load_ends : slice_get (parts r) r.number ≡ None → load_among writes log past r (drop r.number (parts r)) ≡ past
  load_ends e = ap (load_among writes log past r) (none_drop (parts r) r.number e)

  module _ (p : Piece) (is : slice_get (parts r) r.number ≡ Some p) where
    -- the piece is loaded
    pub load_here : is_had writes log p ≡ false → load_among writes log past r (drop r.number (parts r)) ≡ Load r
    load_here e =
        let rest = drop (suc r.number) (parts r) in
        ap (load_among writes log past r) (some_drop (parts r) r.number p is)
        ∙ cond-false (is_had writes log p) (load_among writes log past (record r { number = suc r.number }) rest) (Load r) e

    -- it is to be had, and the next one comes
    pub load_next : is_had writes log p ≡ true
        → load_among writes log past r (drop r.number (parts r)) ≡ load_among writes log past (record r { number = r.number + 1 }) (drop (r.number + 1) (parts r))
    load_next e =
        let rest = drop (suc r.number) (parts r) in
        ap (load_among writes log past r) (some_drop (parts r) r.number p is)
        ∙ (cond-true (is_had writes log p) (load_among writes log past (record r { number = suc r.number }) rest) (Load r) e
        ∙ ap (λ (n : ℕ). load_among writes log past (record r { number = n }) (drop n (parts r))) (sym (add-one r.number)))

pub length-pieces_of : (at size : ℕ) → length (pieces_of at size) ≡ count_of at size
length-pieces_of at size = length-map-range_with_len (piece_of at size) (at / 8) (count_of at size)

piece_at : (at size n : ℕ) (d : Piece) → n < count_of at size → get_or (pieces_of at size) n d ≡ piece_of at size (at / 8 + n)
piece_at at size n d l = get_or-map-range_with_len (piece_of at size) (at / 8) (count_of at size) n (at / 8 + n) d l refl

-- a piece that is there is one of as many, and the access's of this number
pub piece_there : (at size n : ℕ) (p : Piece) → slice_get (pieces_of at size) n ≡ Some p → (n < count_of at size) × (p ≡ piece_of at size (at / 8 + n))
piece_there at size n p is =
    let few : n < count_of at size = omega (arith, slice_get_within (pieces_of at size) n p is, length-pieces_of at size) in
    (few, sym (get_or_from_slice_get (pieces_of at size) n p p is) ∙ piece_at at size n p few)

-- one of such a number is there
pub piece_here : (at size n : ℕ) → n < count_of at size → slice_get (pieces_of at size) n ≡ Some (piece_of at size (at / 8 + n))
piece_here at size n l = slice_get_read (pieces_of at size) (count_of at size) n _ (sym (length-pieces_of at size)) l (sym (piece_at at size n _ l))

-- and lies in its word and in the value
pub is_piece : (at size n : ℕ) → size ≤ 32 → n < count_of at size → IsPiece (piece_of at size (at / 8 + n))
is_piece at size n small l =
    let p = piece_of at size (at / 8 + n) in
    subst IsPiece (piece_at at size n p l) (All-from_recursion IsPiece (pieces_of at size) (AllByRecursion-pieces_of at size small) n p (omega (arith, l, length-pieces_of at size)))

module _ (r : Reading) (p : Piece) (is : slice_get (parts r) r.number ≡ Some p) where
  pub some_left : r.number < count r
  some_left = (piece_there r.at r.size r.number p is).0

  pub part_is : p ≡ part r
  part_is = (piece_there r.at r.size r.number p is).1

-- a piece has as many bytes of each word
pub length-part_of : (p : Piece) (word : ℕ) → p.first + p.count ≤ 8 → length (part_of p word) ≡ p.count
length-part_of p word l = length-take-le p.count (drop p.first (to_le_bytes w64 word)) (omega (arith, length-drop p.first (to_le_bytes w64 word), l))

-- where there is no piece, all are behind
pub none_count : {X : Type 0} (xs : List X) (n : ℕ) → slice_get xs n ≡ None → length xs ≤ n
none_count [] n e = omega arith
none_count (x ∷ xs) zero e = absurd (cc)
none_count (x ∷ xs) (suc n) e = (let l = none_count xs n e in omega arith)

pub none_there : (at size n : ℕ) → slice_get (pieces_of at size) n ≡ None → count_of at size ≤ n
none_there at size n e = omega (arith, none_count (pieces_of at size) n e, length-pieces_of at size)

pub none_left : (r : Reading) → slice_get (parts r) r.number ≡ None → count r ≤ r.number
none_left r e = none_there r.at r.size r.number e

-- past the last piece nothing is left
pub no_pieces : (at size n : ℕ) → count_of at size ≤ n → drop n (pieces_of at size) ≡ []
no_pieces at size n l = drop_all n (pieces_of at size) (omega (arith, l, length-pieces_of at size))

-- an access of some bytes has a piece
pub some_count_of : (at size : ℕ) → 0 < size → 0 < count_of at size
some_count_of at size l = cond_both (size == 0) 0 ((at % 8 + size + 7) / 8) (λ (n : ℕ). 0 < n) (λ e. (let z = eqb-true size 0 e in absurd (omega (arith, z, l)))) (λ e. omega (arith, l))

-- what is gathered with a piece is as long as the bytes with it
pub longer : (bytes more before after : List ℕ) (p : Piece) (word : ℕ) → p.first + p.count ≤ 8 → after ≡ before ++ part_of p (slice_index [] p.word) → length bytes ≡ length before → more ≡ bytes ++ part_of p word
    → length more ≡ length after
longer bytes more before after p word l next e gone =
    omega (
      arith,
      e,
      ap (length {A = ℕ}) gone,
      ap (length {A = ℕ}) next,
      length-append bytes (part_of p word),
      length-append before (part_of p (slice_index [] p.word)),
      length-part_of p word l,
      length-part_of p (slice_index [] p.word) l,
    )

-- the words of a chunk are some of its copy's
abbrev pub IsAmong : Purpose → ℕ → Type 0
IsAmong (for.Value hint width) words = Unit {0}
IsAmong (for.Chunk k n) words = words_in k.from (take n (chunks_in k)) + words ≤ source_words k

-- one chunk more has as many words more
words_in-suc : (place : ℕ) (cs : List Chunk) (n : ℕ) (c : Chunk) → slice_get cs n ≡ Some c → words_in place (take (suc n) cs) ≡ words_in place (take n cs) + count_of (place + c.at) c.size
words_in-suc place [] n c is = absurd (cc)
words_in-suc place (x ∷ xs) zero c is = (let same : x ≡ c = cc in omega (arith, ap (λ (y : Chunk). count_of (place + y.at) y.size) same))
words_in-suc place (x ∷ xs) (suc n) c is = omega (arith, words_in-suc place xs n c is)

pub words_in-next : (place : ℕ) (cs : List Chunk) (n : ℕ) (c : Chunk) → slice_get cs n ≡ Some c → words_in place (take (n + 1) cs) ≡ words_in place (take n cs) + count_of (place + c.at) c.size
words_in-next place cs n c is = ap (λ (i : ℕ). words_in place (take i cs)) (add-one n) ∙ words_in-suc place cs n c is

-- those of the first chunks are some of all
pub words_in-take : (place : ℕ) (cs : List Chunk) (n : ℕ) → words_in place (take n cs) ≤ words_in place cs
words_in-take place cs zero = omega arith
words_in-take place [] (suc n) = omega arith
words_in-take place (c ∷ cs) (suc n) = omega (arith, words_in-take place cs n)

pub words_in-at : (place : ℕ) (cs : List Chunk) (n : ℕ) (c : Chunk) → slice_get cs n ≡ Some c → words_in place (take n cs) + count_of (place + c.at) c.size ≤ words_in place cs
words_in-at place cs n c is = omega (arith, words_in-next place cs n c is, words_in-take place cs (n + 1))

-- no round starts as pieces are passed over
abbrev StartsNone : Phase → Type 0
StartsNone x = tries_after x 0 ≡ tries_at x

starts_among : (writes : List Row) (log : List LogRow) (past : Phase) (r : Reading) (ps : List Piece) → StartsNone past → StartsNone (load_among writes log past r ps)
starts_among writes log past r [] e = e
starts_among writes log past r (p ∷ ps) e =
    cond_both (is_had writes log p) (load_among writes log past (record r { number = suc r.number }) ps) (Load r) StartsNone (λ c. starts_among writes log past (record r { number = suc r.number }) ps e) (λ c. refl)

pub starts_chunks : (writes : List Row) (log : List LogRow) (k : Copying) (n : ℕ) (cs : List Chunk) → StartsNone (load_chunks writes log k n cs)
starts_chunks writes log k n [] = refl
starts_chunks writes log k n (c ∷ cs) = starts_among writes log (load_chunks writes log k (suc n) cs) (chunk_reading k n c) (pieces_of (k.from + c.at) c.size) (starts_chunks writes log k (suc n) cs)

-- one piece further on
pub passed_next : (what : Purpose) (n : ℕ) → passed_for what (n + 1) ≡ passed_for what n + 1
passed_next (for.Value hint width) n = refl
passed_next (for.Chunk k at) n = omega arith

pub passed_on : (what : Purpose) (n m : ℕ) → n ≤ m → passed_for what n ≤ passed_for what m
passed_on (for.Value hint width) n m l = l
passed_on (for.Chunk k at) n m l = omega (arith, l)

-- of what the call reads, this piece is still to come
pub total_left : (what : Purpose) (n words : ℕ) → IsAmong what words → n < words → passed_for what n < total_for what words
total_left (for.Value hint width) n words among l = l
total_left (for.Chunk k at) n words among l = omega (arith, among, l)
