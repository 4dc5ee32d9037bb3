-- The chunks of a copy's source, and the bytes that are read of one.
use Rattle.std.proofs.Common.{◌≡◌, ℕ, ◌+◌, ◌*◌, ◌/◌, ◌%◌, ◌==◌, ◌<◌, ◌≤◌, List, [], ◌∷◌, length, replicate, Option, None, Some, slice_get, option_map, refl, sym, ap, subst, ◌∙◌, arith, slice_index}
use Rattle.access_rules.proofs.Common.{AllByRecursion, AllByRecursion-pieces_of, Chunk, Copying, Direction, IsPiece, Piece, bytes_of, chunk_count, chunk_of, chunks_in, chunks_of, cond_both, count_of, direction_of, gathered, gathered-pieces_of, get_or-map-range_with_len, get_or_from_slice_get, length-append, length-bytes_of, length-map-range_with_len, length-replicate, length-slice, part_of, pieces_of, source_words, words_in}
use Rattle.access_rules.proofs.Ranges.{IsPart, chunk_is, parts-chunks_of}
use Rattle.access_rules.proofs.Readings.{none_count, length-part_of}
use Rattle.std.proofs.lemmas.Option.{slice_get_within}
use Rattle.norec_core.{specs.Order.chunk_reading, specs.declared.call_parts.Reading.Reading}

module _ (direction : Direction) (size n : ℕ) where
  pub chunk_there : (c : Chunk) → slice_get (chunks_of direction size) n ≡ Some c → (n < chunk_count size) × (c ≡ chunk_of direction size n)
  chunk_there c is =
      let f : ℕ → Chunk = chunk_of direction size in
      let few = length-map-range_with_len f 0 (chunk_count size) in
      let there = slice_get_within (chunks_of direction size) n c is in
      let within : n < chunk_count size = omega (arith, few, there) in
      (within, sym (get_or_from_slice_get (chunks_of direction size) n c (f 0) is) ∙ get_or-map-range_with_len f 0 (chunk_count size) n _ (f 0) within (omega arith))

  pub no_chunk : slice_get (chunks_of direction size) n ≡ None → chunk_count size ≤ n
  no_chunk is = (let few = length-map-range_with_len (chunk_of direction size) 0 (chunk_count size) in let past = none_count (chunks_of direction size) n is in omega (arith, few, past))

-- a chunk has bytes, lies within its range, and is no wider than an access
pub chunk_part : (direction : Direction) (size n : ℕ) (c : Chunk) → slice_get (chunks_of direction size) n ≡ Some c → IsPart size c
chunk_part direction size n c is = (let there = chunk_there direction size n c is in subst (IsPart size) (sym there.1) (chunk_is direction size n there.0))

pub chunk_within : (direction : Direction) (size n : ℕ) (c : Chunk) → slice_get (chunks_of direction size) n ≡ Some c → (c.at + c.size ≤ size) × (c.size ≤ 32)
chunk_within direction size n c is = (let part = chunk_part direction size n c is in (part.within, part.small))

-- the one that is read next
some_mapped : {X Y : Type 0} (f : X → Y) (o : Option X) (y : Y) → Some y ≡ option_map f o → (x : X) × (o ≡ Some x) × (y ≡ f x)
some_mapped f None y e = absurd (cc)
some_mapped f (Some x) y e = (x, refl, cc)

pub reading_of : (k : Copying) (n : ℕ) (r : Reading) → Some r ≡ option_map (chunk_reading k n) (slice_get (chunks_in k) n) → (c : Chunk) × (slice_get (chunks_in k) n ≡ Some c) × (r ≡ chunk_reading k n c)
reading_of k n r e = some_mapped (chunk_reading k n) (slice_get (chunks_in k) n) r e

none_mapped : {X Y : Type 0} (f : X → Y) (o : Option X) → None ≡ option_map f o → o ≡ None
none_mapped f None e = refl
none_mapped f (Some x) e = absurd (cc)

pub no_reading : (k : Copying) (n : ℕ) → None ≡ option_map (chunk_reading k n) (slice_get (chunks_in k) n) → slice_get (chunks_in k) n ≡ None
no_reading k n e = none_mapped (chunk_reading k n) (slice_get (chunks_in k) n) e

-- ## Bytes

-- of any two memories as many bytes are gathered
length-gathered-same : (m k : List ℕ) (ps : List Piece) → AllByRecursion IsPiece ps → length (gathered m ps) ≡ length (gathered k ps)
length-gathered-same m k [] are = refl
length-gathered-same m k (p ∷ ps) are =
    omega (
      arith,
      length-append (part_of p (slice_index m p.word)) (gathered m ps),
      length-append (part_of p (slice_index k p.word)) (gathered k ps),
      length-part_of p (slice_index m p.word) are.0.in_word,
      length-part_of p (slice_index k p.word) are.0.in_word,
      length-gathered-same m k ps are.1,
    )

-- the bytes of an access are as many as it has
pub length-gathered-all : (m : List ℕ) (at size : ℕ) → size ≤ 32 → length (gathered m (pieces_of at size)) ≡ size
length-gathered-all m at size small =
    let zeros : List ℕ = replicate (at + size) 0 in
    let many : length zeros ≡ at + size = length-replicate (at + size) 0 in
    let bytes = length-bytes_of zeros in
    length-gathered-same m zeros (pieces_of at size) (AllByRecursion-pieces_of at size small)
    ∙ (ap (length {A = ℕ}) (gathered-pieces_of zeros at size (omega (arith, many))) ∙ length-slice (bytes_of zeros) at size (omega (arith, many, bytes)))

-- ## Words

-- an access touches five words at most
pub few_words : (at size : ℕ) → size ≤ 32 → count_of at size ≤ 5
few_words at size most = cond_both (size == 0) 0 ((at % 8 + size + 7) / 8) (λ (n : ℕ). n ≤ 5) (λ e. omega arith) (λ e. omega (arith, most))

words_few : (place size : ℕ) (cs : List Chunk) → AllByRecursion (IsPart size) cs → words_in place cs ≤ 5 * length cs
words_few place size [] are = omega arith
words_few place size (c ∷ cs) are = omega (arith, few_words (place + c.at) c.size are.0.small, words_few place size cs are.1)

-- each chunk of a copy's source touches so many at most
pub source_few : (k : Copying) → source_words k ≤ 5 * length (chunks_in k)
source_few k = words_few k.from k.size (chunks_in k) (parts-chunks_of (direction_of k) k.size)

pub length-chunks_in : (k : Copying) → length (chunks_in k) ≡ chunk_count k.size
length-chunks_in k = length-map-range_with_len (chunk_of (direction_of k) k.size) 0 (chunk_count k.size)
