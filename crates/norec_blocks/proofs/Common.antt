-- The names that more than one proof cites, passed on from one place. Declares nothing.
pub use Rattle.access_rules.proofs.Overlays.{AllWithin-at, AllWritesWithin-at, IsLog-take, stores_part, stores_whole, write_at_of}
pub use Rattle.access_rules.proofs.Readings.{total_left}
pub use Rattle.itm_model.specs.Machine.{after_unless, back as rolled_back_to, effect, entered, or_else, pushed, refusal, reply, reply_unless, unless}
pub use Rattle.itm_types.specs.declared.call.Call.TheVariants.{Begin, Commit, Mode}
pub use Rattle.itm_types.specs.declared.call.Props.{Props}
pub use Rattle.itm_types.specs.declared.call.Refusal.{Refusal}
pub use Rattle.itm_types.specs.declared.call.Reply.TheVariants.{Code, Done, Refused}
pub use Rattle.itm_types.specs.declared.row.LogRow.{LogRow}
pub use Rattle.nest_frames.specs.Nest.{actions_cancelled, actions_closed, begun, closed, Frame, is_kept, made_irrevocable, Nest, reads_of, renewed as blocks_renewed, rows_of, stays_revocable}
pub use Rattle.norec_blocks.specs.OuterBegins.{BeginTurns}
pub use Rattle.norec_core.proofs.Engines.Blocks.{none_inside, one_outermost}
pub use Rattle.norec_core.proofs.Engines.IrrevocableCalls.{begin_enters, begin_served, length-over, mode_enters, mode_refused, or_none, revocable_over}
pub use Rattle.norec_core.proofs.Engines.Machines.{open_is, refuses}
pub use Rattle.norec_core.specs.Accesses.{begin_refusal, count, mode_refusal, passed, total, total_for}
pub use Rattle.norec_core.specs.Aims.{Aim}
pub use Rattle.norec_core.specs.Core.{begins_anew, came, Core, handed, in_transaction, is_inside, is_outermost, is_within, may_go, renewed, rolled_back}
pub use Rattle.norec_core.specs.Endings.{ending_at, going_ending, IsEnding}
pub use Rattle.norec_core.specs.Order.{exchange_stage, going_stage, kept_log, may_restart, row_store, stage_after, stage_at, step_in, store_stage, stored_stage}
pub use Rattle.norec_core.specs.Phases.{BackLoad, Free, Idle, Phase, RoundRow, Store}
pub use Rattle.norec_core.specs.Proceeds.{ConflictsIn, Ends, Enters, GoesBack, IsWithin, most, Replies, WantsClock}
pub use Rattle.norec_core.specs.Rows.{AllWritesWithin, IsLog, row_at, write_at}
pub use Rattle.norec_core.specs.Stands.{stands_for, state_kept, state_over}
pub use Rattle.norec_core.specs.declared.answer.Answer.{Answer}
pub use Rattle.norec_core.specs.declared.answer.Answer.TheVariants.{Conflict, Full, Reply, Restarted}
pub use Rattle.norec_core.specs.declared.call_parts.Opening.{Opening}
pub use Rattle.norec_core.specs.declared.call_parts.Taking.{Taking}
pub use Rattle.norec_data.proofs.EndedTransactions.{core_ended}
pub use Rattle.norec_data.specs.Ends.{answer_of}
pub use Rattle.norec_data.specs.Turns.{counted, IsOn, TurnEndsSo, Turns}
pub use Rattle.norec_data.specs.View.{aim_for, aim_of, call_for, call_of, core, core_held, doing_of, found_at, in_block, phase_of, step_of, waits_of}
pub use Rattle.norec_data.specs.declared.data.Data.{Data}
pub use Rattle.norec_data.specs.declared.end.CallEnd.{CallEnd}
pub use Rattle.norec_data.specs.declared.turn.Turn.TheVariants.{End, EndIrrevocable, Wait}
pub use Rattle.norec_turns.proofs.Cancels.{all_replies, cancelled_replies, cancelled_sound, come, kept_replies, not_both}
pub use Rattle.norec_turns.proofs.EndedTransactions.{ended_undone}
pub use Rattle.norec_turns.proofs.Loads.{aims_later, wants_later}
pub use Rattle.norec_turns.proofs.OpenBegins.{begun_closed, begun_first, begun_renewed, begun_same, begun_within}
pub use Rattle.norec_turns.proofs.ReadingFields.{among}
pub use Rattle.norec_turns.proofs.Refusals.{denied, stands}
pub use Rattle.norec_turns.specs.Between.{between, blocks_with, in_rows, in_stores, InStores, IsSoundTurn, moved, storing}
pub use Rattle.norec_turns.specs.InPhases.{Aims, AreFrames, first_of, FitsPurpose, InRound, IsHolding, IsOpen, IsSound, MayRead, round_of, Wants}
pub use Rattle.norec_turns.specs.Moves.{CallTurns, GoesTo, StepTurns}
pub use Rattle.user_actions.specs.Actions.{Actions, no_actions}
pub use Rattle.word_pieces.specs.Masks.{whole}
pub use Rattle.write_set.specs.Marks.{place_of, unwritten, Written}
pub use Rattle.write_set.specs.Rows.{AreRows, overlay}
pub use Rattle.write_set.specs.declared.row.Row.{Row}
pub use Rattle.std.proofs.Math.Bool.{and-false, and-true}
pub use Rattle.std.proofs.lemmas.Bool.{cases_Bool, cond-false, cond-true, le-leb, le-ltb, leb-true, lt-ltb, ne_eqb}
pub use Rattle.std.proofs.lemmas.List.{take_all, take_more}
pub use Rattle.std.proofs.lemmas.Option.{get_or_from_slice_get, slice_get-get_or}
