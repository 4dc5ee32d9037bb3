-- Worked cases of copies and fills, computed: what is refused, and what is written.
use Rattle.std.proofs.Common.{◌≡◌, ℕ, List, [], ◌∷◌, true, false, None, Some, drop, refl}
use Rattle.norec_core.proofs.Common.{Copy, CopyPair, Copying, Core, Done, Fill, In, Out, OutOfArena, OutOfRange, Outside, Overlap, Row, T, W, Within, arena_after, chunks_in, copy_refusal, direction_of, load_chunks, row, source_words, writes_after}
use Rattle.word_pieces.specs.declared.chunk.Direction.TheVariants.{Down, Up}
use Rattle.norec_core.specs.declared.call_parts.Purpose.TheVariants as for
use Rattle.norec_core.proofs.Examples.StepOrder.{inside, all_of, byte_of, logged}
use Rattle.norec_core.specs.Phases.{Load}

-- with `memcpy`, and with `memmove`
abbrev copy : CopyPair → ℕ → ℕ → ℕ → Copying
copy pair to from size = record { moves = false; pair = pair; to = to; from = from; size = size }

abbrev move : ℕ → ℕ → ℕ → Copying
move to from size = record { moves = true; pair = Within T T; to = to; from = from; size = size }

-- ## Refusals, over four words and an arena of three bytes

outside : copy_refusal false 4 3 (copy (Out T) 0 0 1) ≡ Some Outside
outside = refl

-- the destination is tested first
out_of_both : copy_refusal true 4 3 (copy (Out T) 31 2 2) ≡ Some OutOfRange
out_of_both = refl

in_of_both : copy_refusal true 4 3 (copy (In T) 2 31 2) ≡ Some OutOfArena
in_of_both = refl

-- one common byte is refused, but not to a move
one_common_byte : copy_refusal true 4 3 (copy (Within T T) 7 0 8) ≡ Some Overlap
one_common_byte = refl

touching : copy_refusal true 4 3 (copy (Within T T) 8 0 8) ≡ None
touching = refl

moved_by_one : copy_refusal true 4 3 (move 7 0 8) ≡ None
moved_by_one = refl

-- ## The end that is taken first

-- a move to a higher place that overlaps starts at the high end
to_a_higher_place : direction_of (move 7 0 8) ≡ Down
to_a_higher_place = refl

to_a_lower_place : direction_of (move 0 7 8) ≡ Up
to_a_lower_place = refl

to_one_apart : direction_of (move 8 0 8) ≡ Up
to_one_apart = refl

out_of_a_lower_place : direction_of (copy (Out T) 7 0 8) ≡ Up
out_of_a_lower_place = refl

-- 40 bytes from byte 4 on are 32 of five words, and 8 of two
words_of_40 : source_words (copy (In T) 0 4 40) ≡ 7
words_of_40 = refl

-- the word in which two chunks meet is loaded for the first of them
abbrev of_64 : Copying
of_64 = copy (In T) 0 1 64

chunks_that_meet : load_chunks [] (logged 4 9 ∷ []) of_64 1 (drop 1 (chunks_in of_64)) ≡ Load (record { purpose = for.Chunk of_64 1; at = 33; size = 32; number = 1 })
chunks_that_meet = refl

chunk_of_new_words : load_chunks [] (logged 3 9 ∷ []) of_64 1 (drop 1 (chunks_in of_64)) ≡ Load (record { purpose = for.Chunk of_64 1; at = 33; size = 32; number = 0 })
chunk_of_new_words = refl

-- ## What is written

abbrev with_arena : List Row → Core
with_arena writes = record (inside 8 0 [] writes) { arena = 1 ∷ 2 ∷ 3 ∷ [] }

-- of the number the low 8 bits, into each word of the range
fill_of_two_words : writes_after (with_arena []) [] (Fill W 6 0x1ab 4) Done ≡ row 0 0xffff000000000000 0xabab000000000000 ∷ row 1 0xffff 0xabab ∷ []
fill_of_two_words = refl

copy_out : writes_after (with_arena (all_of 1 0 ∷ [])) [] (Copy (copy (Out T) 9 1 2)) Done ≡ all_of 1 0x30200 ∷ []
copy_out = refl

-- the bytes are read as the transaction has them
copy_in : arena_after (with_arena (byte_of 0 0xab ∷ [])) (0x706050403020100 ∷ []) (Copy (copy (In T) 0 1 2)) Done ≡ 0xab ∷ 2 ∷ 3 ∷ []
copy_in = refl

-- all of them as before the call, where the two places overlap too
moved_upwards : writes_after (with_arena []) (0x706050403020100 ∷ 0 ∷ []) (Copy (move 1 0 8)) Done
    ≡ row 0 0xffffffffffffff00 0x605040302010000 ∷ row 1 0xff 7 ∷ []
moved_upwards = refl
