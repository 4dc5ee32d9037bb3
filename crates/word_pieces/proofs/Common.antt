-- The names that more than one proof cites, passed on from one place. Declares nothing.
pub use Rattle.itm_types.specs.Memory.{AllFit, bytes_of}
pub use Rattle.itm_types.specs.Slices.{AreBytes, slice, with_slice}
pub use Rattle.word_pieces.specs.Chunks.{chunk_bytes, chunk_count, chunk_moved, chunk_of, chunks_before, chunks_moved, chunks_of, chunks_written, Fall, Follow, GoesOn, IsSafe, KeepUnread, LeavesUnread, MovePart, MovesRange, ReadPart, ReadsRange, Rise, so_far, TakePart, upwards, WritePart, WritesRange}
pub use Rattle.word_pieces.specs.Masks.{AreWhole, chosen, IsMask, mask_bytes, mask_of, merge, merged_at, whole}
pub use Rattle.word_pieces.specs.Pieces.{count_of, gathered, IsPiece, part_of, piece_of, pieces_of, scattered, written}
pub use Rattle.word_pieces.specs.declared.chunk.Chunk.{Chunk}
pub use Rattle.word_pieces.specs.declared.chunk.Direction.{Direction}
pub use Rattle.word_pieces.specs.declared.chunk.Direction.TheVariants.{Down, Up}
pub use Rattle.word_pieces.specs.declared.piece.Piece.{Piece}
pub use Rattle.std.proofs.Math.Seq.{take-add}
pub use Rattle.std.proofs.lemmas.Bool.{cases_lt, cond-false, eqb-true, ne_eqb}
pub use Rattle.std.proofs.lemmas.List.{append-nil, drop-drop, drop-take, drop_all, drop_at, length-replicate, length-set, length-take-le, reverse-append, take-append-drop, take-take, take_all, take_at}
pub use Rattle.std.proofs.lemmas.List.FromFn.{get_or-map-range_with_len, length-map-range_with_len, map-range_with_len_more, take-map-range_with_len}
pub use Rattle.std.proofs.lemmas.Nat.{and_le_l, and_mask, and_mod, and_shr, le_bytes_8, or_lt, or_mod, or_shr, pow_below}
pub use Rattle.std.proofs.lemmas.Option.{slice_get-get_or, slice_get_past}
pub use Rattle.std.specs.Int.{bit_at, bit_not, from_le_bytes, to_le_bytes, w64}
pub use Rattle.std.specs.Int.Bits.{bit_and, bit_or}
pub use Rattle.std.specs.List.{AllByRecursion, range_with_len}
pub use lib.Bits.{and_zero_r, or_zero_l, or_zero_r}
