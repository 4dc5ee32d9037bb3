-- The names that more than one proof cites, passed on from one place. Declares nothing.
pub use Rattle.itm_types.proofs.LogRows.{single_cut, single_push, value_found, value_stands}
pub use Rattle.itm_types.specs.LogRows.{AreSingle, value_of}
pub use Rattle.itm_types.specs.declared.row.LogRow.{LogRow}
pub use Rattle.value_log.specs.Filled.{Filled, IsFilled}
pub use Rattle.value_log.specs.Index.{AllBelow, AreHeads, AreLinks, FallsTo, HavePlaces, IsIndex, IsLast, IsRight, slot_of}
pub use Rattle.value_log.specs.Log.{Log}
pub use Rattle.std.proofs.lemmas.List.{length-append, length-map, length-set, length-take-le, length_push, take_all, take_more}
pub use Rattle.std.proofs.lemmas.Option.{same_Some, slice_get-get_or, slice_get_within}
