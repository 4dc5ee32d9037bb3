-- The names that more than one proof cites, passed on from one place. Declares nothing.
pub use Rattle.itm_types.proofs.Words.{length-bytes_of, slice_get-set_other, slice_get-set_same}
pub use Rattle.itm_types.specs.Memory.{Agrees, AllFit, bytes_of, IsMemory}
pub use Rattle.itm_types.specs.Slices.{AreBytes, slice, with_slice}
pub use Rattle.itm_types.specs.declared.call.Copying.{Copying}
pub use Rattle.itm_types.specs.declared.row.LogRow.{LogRow}
pub use Rattle.norec_core.specs.Copies.{chunks_in, direction_of, source_words, words_in}
pub use Rattle.norec_core.specs.Rows.{AllValuesFit, AllWithin, AllWritesWithin, has_mask, is_covered, is_had, IsLog, put_all, put_chunks, put_range, range_pieces, reserved_all, row_at, write_at}
pub use Rattle.word_pieces.proofs.Covers.{AllByRecursion-pieces_of, bytes_of-written, gathered-pieces_of, words_of-pieces_of}
pub use Rattle.word_pieces.proofs.Lists.{length-slice}
pub use Rattle.word_pieces.proofs.MaskBytes.{mask_of-lt, mask_of-some}
pub use Rattle.word_pieces.proofs.Parts.{AreBytes-slice, AreBytes-with_slice, AreBytes-zeros}
pub use Rattle.word_pieces.specs.Chunks.{chunk_count, chunk_of, chunks_of, chunks_written}
pub use Rattle.word_pieces.specs.Masks.{mask_of, merge, whole}
pub use Rattle.word_pieces.specs.Pieces.{count_of, gathered, IsPiece, part_of, piece_of, pieces_of, scattered, written}
pub use Rattle.word_pieces.specs.declared.chunk.Chunk.{Chunk}
pub use Rattle.word_pieces.specs.declared.chunk.Direction.{Direction}
pub use Rattle.word_pieces.specs.declared.chunk.Direction.TheVariants.{Down, Up}
pub use Rattle.word_pieces.specs.declared.piece.Piece.{Piece}
pub use Rattle.write_set.proofs.Overlays.{AreRows-put, AreRows-reserved, cut-reserved, found_or_none, length-overlay, lookup-reserved, lookup_here, lookup_there, overlay-next, overlay-put, overlay-reserved, reserved_new, reserved_old}
pub use Rattle.write_set.specs.Rows.{AllRowsFit, AreEmpty, AreRows, lookup, overlay, put, reserved, row, row_with}
pub use Rattle.write_set.specs.declared.row.Row.{Row}
pub use Rattle.std.proofs.lemmas.Bool.{cases_Bool, cond-false, cond-true, cond_both, eqb-false, lt-ltb, ne_eqb}
pub use Rattle.std.proofs.lemmas.List.{drop_all, length-append, length-drop, length-replicate, length-set, length-take-le, take_all}
pub use Rattle.std.proofs.lemmas.List.FromFn.{get_or-map-range_with_len, length-map-range_with_len}
pub use Rattle.std.proofs.lemmas.Option.{get_or_from_slice_get}
pub use Rattle.std.specs.Int.{from_le_bytes, to_le_bytes, w64}
pub use Rattle.std.specs.List.{AllByRecursion, range_with_len}
