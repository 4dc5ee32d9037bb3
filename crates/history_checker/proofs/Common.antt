-- The names that more than one proof cites, passed on from one place. Declares nothing.
pub use Rattle.history_checker.specs.Answers.{answer_at, answer_in, answer_of, answer_on, answer_to, call_answer, finding_of, HasReason, is_known, is_reached, IsReason, IsReasonIn, Reaches, spot_answer, state_behind}
pub use Rattle.history_checker.specs.Matches.{same_kind, same_ran, same_reply}
unfoldable pub use Rattle.history_checker.specs.Replays.{fault_in}
pub use Rattle.history_checker.specs.Replays.{again_fault, are_again, at_call, at_head, calls_fault, came_irrevocable, end_fault, ends_by_abort, ends_by_commit, first_of, fits, is_abort_done, is_again, is_cancelled, is_commit_done, is_done, is_due, is_inner_begin, last_is, may_stand}
unfoldable pub use Rattle.history_checker.specs.Tables.{told_on}
pub use Rattle.history_checker.specs.Tables.{AreLinks, AreSlots, AreTold, ended, first_at, is_other, IsRest, IsTold, last_other, nothing_told, told_away, told_fault, told_holding, told_of, unless_fault}
unfoldable pub use Rattle.history_checker.specs.Verdicts.{verdict_of}
pub use Rattle.history_checker.specs.Verdicts.{again_count, at_fault, at_place, bad, committed_fault, ends_free, ends_held, fault_at, final_verdict, first_fault, first_row, head_row, is_away, is_beyond, is_misplaced, is_waiting, line_count, others_fault, position_fault, told_row, verdict_on}
pub use Rattle.history_checker.specs.declared.replays.Told.{Told}
pub use Rattle.history_checker.specs.declared.verdict.Fault.{Fault}
pub use Rattle.history_checker.specs.declared.verdict.Spot.{Spot}
pub use Rattle.history_checker.specs.declared.verdict.Verdict.TheVariants.{Bad, Legal}
pub use Rattle.itm_model.specs.Machine.{after, bytes_reply, is_open, opened, refusal, reply}
pub use Rattle.itm_model.specs.Runs.{Breaks, later, replies_through, state_through}
pub use Rattle.itm_model.specs.State.{State}
pub use Rattle.itm_model.specs.Undoable.{before_after, before_next, before_unless, Undoable}
pub use Rattle.itm_types.specs.declared.access.Width.TheVariants.{U1, U8}
pub use Rattle.itm_types.specs.declared.access.WriteHint.TheVariants.{W}
pub use Rattle.itm_types.specs.declared.call.Call.{Call}
pub use Rattle.itm_types.specs.declared.call.Call.TheVariants.{Abort, Begin, Commit, Load, Mode, Read, UndoAction, Write}
pub use Rattle.itm_types.specs.declared.call.Ran.{Ran}
pub use Rattle.itm_types.specs.declared.call.Refusal.{Refusal}
pub use Rattle.itm_types.specs.declared.call.Refusal.TheVariants.{IsIrrevocable, NoAbort, NoIrrevocable, OutOfArena, OutOfRange, Outside, Overlap, TooDeep}
pub use Rattle.itm_types.specs.declared.call.Reply.{Reply}
pub use Rattle.itm_types.specs.declared.call.Reply.TheVariants.{Bytes, Code, Done, Refused}
pub use Rattle.itm_types.specs.declared.limits.TheConstants.{MAX_ARENA}
pub use Rattle.tx_attempts.specs.Attempts.{alone, ByAbort, ByCommit, ClosedBy, committed_at, is_at, is_committed, memory_after, memory_left}
pub use Rattle.tx_attempts.specs.Counts.{count_at, count_committed, one_where}
pub use Rattle.tx_attempts.specs.Restarts.{again_at, AreAgain, arena_set, AtEach, before, breaks_of, IsAgain, IsInnerBegin}
pub use Rattle.tx_attempts.specs.declared.attempt.Again.{Again}
pub use Rattle.tx_attempts.specs.declared.attempt.Attempt.{Attempt}
pub use Rattle.tx_attempts.specs.declared.attempt.CallRecord.{CallRecord}
pub use Rattle.tx_attempts.specs.declared.attempt.Outcome.{Outcome}
pub use Rattle.tx_attempts.specs.declared.attempt.Outcome.TheVariants.{Cancelled, Committed, Full, ReadOnly, Unfinished}
pub use Rattle.tx_history.specs.Legal.{count_holding, EndsFree, EndsHeld, EndsIn, is_holding, is_unfinished, IsAlone, IsLegal, may_begin, memory_at, ran_alone, state_at}
pub use Rattle.tx_history.specs.Versions.{depth_of}
pub use Rattle.tx_history.specs.declared.history.History.{History}
pub use Rattle.tx_history.specs.declared.history.Version.{Version}
pub use Rattle.tx_history.specs.declared.history.Version.TheVariants.{One, Three, Two}
pub use Rattle.std.proofs.Math.ListN.{set}
pub use Rattle.std.proofs.Math.Seq.{get_or-append_seam, take-append_seam, take-suc}
pub use Rattle.std.proofs.lemmas.Bool.{and_cases, and_from, and_left, and_parts, and_right, cases_Bool, cases_eq, cases_lt, cases_order, cond-false, cond-true, eq-eqb, eqb-false, eqb-true, le-leb, le-ltb, leb-false, leb-true, lt-leb, lt-ltb, ltb-false, ltb-true, ne_eqb, not-false, not-true, not_from_false, not_from_true, or_cases, or_from, or_left, or_parts, or_right}
pub use Rattle.std.proofs.lemmas.Bool.Decides.{Decides-and, Decides-eqb, Decides-or}
pub use Rattle.std.proofs.lemmas.Grind.{common_steps}
pub use Rattle.std.proofs.lemmas.List.{get_or-set_other, get_or-set_same, get_or_append_left, length-set, length-take-le}
pub use Rattle.std.proofs.lemmas.List.Elements.{All-cons, All-get_or, All-head, All-nil, All-tail}
pub use Rattle.std.proofs.lemmas.Option.{get_or_from_slice_get, IfSome_then, slice_get-get_or, slice_get_past, slice_get_read, slice_get_within}
pub use Rattle.std.proofs.lemmas.Slice.Eq.{bytes_eq-Decides, slice_eq-Decides}
pub use Rattle.std.specs.Bool.{Decides}
pub use Rattle.std.specs.Cmp.Lexicographic.{pointwise}
