-- The names that more than one proof cites, passed on from one place. Declares nothing.
pub use Rattle.itm_model.specs.Machine.{after, after_unless, back, back_from, closed, effect, entered, handed, irrevocable_from, is_open, keeps_any, keeps_revocable, logged, logged_in, made_irrevocable, opened, or_else, outside, pushed, ranges, refusal, rolled_back, saved_in_arena, source_bytes, source_range, standing, target_range, target_written, undone, undone_from, unless, with_action, written}
pub use Rattle.itm_model.specs.Pieces.{Adds, AreAmong, AreCovered, AreFirst, AreHandedOn, AreLinked, AreNewest, AreOnce, ArePieces, handed_on, IsCovered, IsIndexed, IsPiece, joined, newest_in, piece_of, pieces_in, top_of, with_one_before}
pub use Rattle.itm_model.specs.Runs.{answers, replies, state_after}
pub use Rattle.itm_model.specs.State.{Block, Saved, State}
pub use Rattle.itm_model.specs.Undoable.{before_after, takes_memory, Undoable}
pub use Rattle.itm_model.specs.Undoing.{AreUnder, AreWithin, block_of, blocks_from, blocks_of, bytes_in, IsSound, KeepsOld, kept_of, Logged, put_back, Restores, saved_in, saved_of}
pub use Rattle.itm_model.specs.declared.journal.Mark.{Mark}
pub use Rattle.itm_model.specs.declared.journal.Old.{Old}
pub use Rattle.itm_types.proofs.KeptBytes.{also_kept_more, also_kept_none, length-restored}
pub use Rattle.itm_types.specs.KeptBytes.{also_kept, merged, restored}
pub use Rattle.itm_types.specs.Slices.{slice, with_slice}
pub use Rattle.itm_types.specs.declared.access.ReadHint.TheVariants.{R, RaR}
pub use Rattle.itm_types.specs.declared.access.Width.TheVariants.{U1, U2, U4, U8}
pub use Rattle.itm_types.specs.declared.access.WriteHint.TheVariants.{W}
pub use Rattle.itm_types.specs.declared.call.Action.{Action}
pub use Rattle.itm_types.specs.declared.call.Call.{Call}
pub use Rattle.itm_types.specs.declared.call.Call.TheVariants.{Abort, Begin, Commit, CommitAction, Copy, Fill, InTransaction, Load, Log, LogBytes, Mode, Read, Save, UndoAction, Write}
pub use Rattle.itm_types.specs.declared.call.Props.{Props}
pub use Rattle.itm_types.specs.declared.call.Ran.{Ran}
pub use Rattle.itm_types.specs.declared.call.Refusal.TheVariants.{IsIrrevocable, NoAbort, NoIrrevocable, OutOfArena, OutOfRange, Outside, Overlap, TooDeep}
pub use Rattle.itm_types.specs.declared.call.Reply.TheVariants.{Bytes, Code, Done, Refused}
pub use Rattle.itm_types.specs.declared.copy.CopyPair.{CopyPair}
pub use Rattle.itm_types.specs.declared.copy.CopyPair.TheVariants.{In, Out, Within}
pub use Rattle.user_actions.specs.Actions.{ActionList, Actions, as_commit, as_undo, committed, cut_back, no_actions}
pub use Rattle.std.proofs.Math.Seq.{take-add, take-append_seam}
pub use Rattle.std.proofs.lemmas.Bool.{cases_lt, cond-false, cond-true, eq-eqb, eqb-true, leb-true, lt-ltb, ltb-false, ltb-true, ne_eqb}
pub use Rattle.std.proofs.lemmas.Grind.{common_steps, div_ceil_times, same_number_lists}
pub use Rattle.std.proofs.lemmas.Iterator.{YieldsList-from_slice}
pub use Rattle.std.proofs.lemmas.Iterator.Search.{any_from_yields_List}
pub use Rattle.std.proofs.lemmas.List.{append-nil, drop-append-le, drop_more, get_or-drop, get_or-set_other, get_or-set_same, get_or-take, get_or_default, length-replicate, length-reverse, length-set, length-take-le, reverse-append, take-append-drop, take-append-le, take-take, take_more, take_more_set}
pub use Rattle.std.specs.List.{list_any, swap}
