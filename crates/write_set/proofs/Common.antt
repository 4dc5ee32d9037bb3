-- The names that more than one proof cites, passed on from one place. Declares nothing.
pub use Rattle.indexmap.specs.IndexMap.{set_value_at}
pub use Rattle.itm_types.specs.Memory.{AllFit, bytes_of}
pub use Rattle.word_pieces.specs.Masks.{mask_of, merge, merged_at, whole}
pub use Rattle.write_set.specs.Indexed.{AreHeld, Index, Indexed, place_in, Puts}
pub use Rattle.write_set.specs.Marks.{AreMarks, back_at, IsBy, IsMark, IsReady, KeepsMarks, KeepsOuter, KeepsRoom, mark_of, MayPut, place_of, put_back, renewed_at, reserve, rows_at, unwritten, with_row_of, write, Written}
pub use Rattle.write_set.specs.Rows.{AllRowsFit, AreApart, AreEmpty, AreRows, IsFirst, laid, lookup, overlay, put, replaced, reserved, row, row_at, row_with, set_row, WritesNoMore}
pub use Rattle.write_set.specs.declared.mark.Mark.{Mark}
pub use Rattle.write_set.specs.declared.row.Row.{Row}
pub use Rattle.std.proofs.lemmas.Bool.{cases_Bool, cond-false, cond-true, eq-eqb, eqb-false, eqb-true, ne_eqb}
pub use Rattle.std.proofs.lemmas.List.{drop-append-le, drop_all, get_or-set_other, length-append, length-set, length-take, length_push, set-get_or, set-set, set_comm, take-append-drop, take-append-le, take_more}
pub use Rattle.std.proofs.lemmas.Option.{get_or_from_slice_get, same_Some, slice_get-get_or, slice_get_within}
pub use Rattle.std.proofs.lemmas.Result.{on_ok_weaker}
pub use Rattle.std.specs.Int.Bits.{and_zero_l, bit_and, bit_or, or_zero_l}
unfoldable pub use Rattle.std.specs.List.{IsDistinct}
pub use Rattle.std.specs.Map.{keys_of, values_of}
