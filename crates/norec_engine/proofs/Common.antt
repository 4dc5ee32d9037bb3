-- The names that more than one proof cites, passed on from one place. Declares nothing.
pub use Rattle.access_rules.proofs.Overlays.{agreed, AllWithin-at, AllWritesWithin-at, write_at_of}
pub use Rattle.itm_types.specs.Access.{size_of}
pub use Rattle.itm_types.specs.declared.call.Call.{Call}
pub use Rattle.itm_types.specs.declared.call.Call.TheVariants.{Begin, Commit as CommitCall, Read, Write}
pub use Rattle.itm_types.specs.declared.call.Reply.TheVariants.{Bytes, Code, Done}
pub use Rattle.itm_types.specs.declared.row.LogRow.{LogRow}
pub use Rattle.itm_types.specs.declared.step.Step.TheVariants.{Cas, Load, Store}
pub use Rattle.norec_blocks.proofs.Counts.{counts, fits}
pub use Rattle.norec_blocks.proofs.StoredRows.{after_row, after_taking, asking, asks_next, last_stage, may_first, may_store, part_loaded, part_stage, sound_load, whole_stage}
pub use Rattle.norec_blocks.specs.CommitCalls.{asking_commit}
pub use Rattle.norec_core.proofs.Engines.Blocks.{none_inside}
pub use Rattle.norec_core.specs.Accesses.{access_refusal, count}
pub use Rattle.norec_core.specs.Aims.{Aim}
pub use Rattle.norec_core.specs.Core.{came, Core, in_transaction, may_go}
pub use Rattle.norec_core.specs.Endings.{ending_after, ending_at, EndsSo}
pub use Rattle.norec_core.specs.Moves.{IsCalled, IsResumed, IsStarved}
pub use Rattle.norec_core.specs.Order.{asked, log_after, stage_at, step_in, tries_after, tries_at, value_reading}
pub use Rattle.norec_core.specs.Phases.{Confirm, Idle, Phase, RoundEnd, RoundRow, RoundStart}
pub use Rattle.norec_core.specs.Proceeds.{AreRead, IsSettled, IsWithin, Joins, MayStarve, most, Proceeds, StaysOn}
pub use Rattle.norec_core.specs.Rows.{IsLog, row_at, value_into, write_at}
pub use Rattle.norec_core.specs.declared.answer.Answer.TheVariants.{Committed, Reply}
pub use Rattle.norec_core.specs.declared.answer.Next.{Next}
pub use Rattle.norec_core.specs.declared.answer.Next.TheVariants.{Answer as Answers, Step as Asks}
pub use Rattle.norec_core.specs.declared.call_parts.Taking.{Taking}
pub use Rattle.norec_core.specs.declared.call_parts.Taking.TheVariants.{Commit}
pub use Rattle.norec_data.specs.Bounds.{IsHeld, IsOutside, IsOver}
pub use Rattle.norec_data.specs.Ends.{answer_of, told}
pub use Rattle.norec_data.specs.Turns.{Asked, core_after, counted, data_after, IsOn, next_of, pending_after, phase_after, Stays, TurnEndsSo}
pub use Rattle.norec_data.specs.View.{aim_of, call_for, core, core_held, doing_held, held, holds_of, in_block, phase_of, placed_for, rows_before, step_of, waits_of}
pub use Rattle.norec_data.specs.declared.data.Data.{Data}
pub use Rattle.norec_data.specs.declared.end.CallEnd.{CallEnd}
pub use Rattle.norec_data.specs.declared.end.CallEnd.TheVariants.{Entered, EnteredAgain, ReadOnly, Word}
pub use Rattle.norec_data.specs.declared.pending.Pending.{Pending}
pub use Rattle.norec_data.specs.declared.turn.Turn.{Turn}
pub use Rattle.norec_data.specs.declared.turn.Turn.TheVariants.{End, EndIrrevocable, Wait}
pub use Rattle.norec_engine.specs.BlockSteps.{AsksForClock, begins_outer, exchanging, IsBegun, IsWhole, merging, next_step, part_store, StoresRows, storing, WaitsForClock, WritesBack}
pub use Rattle.norec_engine.specs.Modes.{CallStarvesIn, CallTurnsIn, engine_after, engine_in, IsSoundIn, IsSoundWith, IsTaken, mode_after, StepTurnsIn}
pub use Rattle.norec_irrevocable.specs.Outcomes.{held_after, IsSoundAfter}
pub use Rattle.norec_irrevocable.specs.Phases.{before_loads, before_places, copy_steps, IsSoundHeld, LoadsFor, placed_before, PlacesFor}
pub use Rattle.norec_turns.proofs.EndedTransactions.{after_left, is_free, none_written, open_in, told_left, undone_of_left}
pub use Rattle.norec_turns.specs.Between.{IsSoundTurn, IsWord}
pub use Rattle.norec_turns.specs.InPhases.{InPhase, IsSound}
pub use Rattle.norec_turns.specs.Moves.{CallTurns, StepGoesTo, StepTurns}
pub use Rattle.write_set.specs.Rows.{lookup}
pub use Rattle.write_set.specs.declared.row.Row.{Row}
pub use Rattle.std.proofs.lemmas.Result.{err_from_is_err_and}
