-- The names that more than one proof cites, passed on from one place. Declares nothing.
pub use Rattle.itm_types.specs.declared.call.Props.{Props}
pub use Rattle.nest_frames.specs.Moments.{AreUnder, BeginEmpty, Begins, forgotten, frame_at, frames_from, frames_of, IsSound}
pub use Rattle.nest_frames.specs.Nest.{actions_back, actions_cancelled, actions_closed, arena_back, arena_restored, begun, closed, Frame, is_kept, log_of, logged, made_irrevocable, Nest, reads_of, renewed, rows_of, stays_revocable}
pub use Rattle.nest_frames.specs.declared.moment.Moment.{Moment}
pub use Rattle.undo_log.specs.Rollback.{found, kept_of, Old, put_back, Undo}
pub use Rattle.user_actions.specs.Actions.{ActionList, Actions, as_commit, as_undo, no_actions, registered}
pub use Rattle.write_set.specs.Marks.{AreMarks, IsBy, IsMark, IsNew, KeepsMarks, KeepsOuter, renewed_at, reserve, rows_at, start, unwritten, write, Written}
pub use Rattle.write_set.specs.Rows.{lookup, put, replaced, row}
pub use Rattle.write_set.specs.declared.mark.Place.{Place}
pub use Rattle.write_set.specs.declared.row.Row.{Row}
pub use Rattle.std.proofs.lemmas.Bool.{cases_Bool, false≢true}
pub use Rattle.std.proofs.lemmas.Iterator.{YieldsList-from_slice}
pub use Rattle.std.proofs.lemmas.Iterator.Search.{any_from_yields_List}
pub use Rattle.std.proofs.lemmas.List.{append-nil, drop-append-le, drop_all, get_or-reverse, length-map, length-reverse, length-take, length-take-le, map-append, reverse-append, take-append-drop, take-append-le, take-take, take_all}
pub use Rattle.std.specs.List.{list_any, refill}
pub use Rattle.std.specs.Option.{option_to_list}
