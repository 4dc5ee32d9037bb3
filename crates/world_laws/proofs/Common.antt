-- The names that more than one proof cites, passed on from one place. Declares nothing.
pub use Rattle.itm_model.specs.Machine.{back_from, closed, closed_in, closed_irrevocable, copied, effect, entered, handed, irrevocable_from, keeps_any, keeps_innermost, logged_in, made_irrevocable, or_else, pushed, rolled_back, source_bytes, target_written, undone_from, unless, with_action, with_undo, written}
pub use Rattle.itm_model.specs.Runs.{answers_through, gets_through, state_after, state_through, unbroken}
pub use Rattle.itm_model.specs.State.{Saved}
pub use Rattle.itm_types.specs.Calls.{is_abort}
pub use Rattle.itm_types.specs.declared.call.Call.TheVariants.{Abort, Copy, Fill, Log, LogBytes, Mode, UndoAction}
pub use Rattle.itm_types.specs.declared.call.Reply.{Reply}
pub use Rattle.itm_types.specs.declared.copy.CopyPair.{CopyPair}
pub use Rattle.itm_types.specs.declared.copy.CopyPair.TheVariants.{In}
pub use Rattle.norec_core.specs.Core.{in_transaction, irrevocable_room, may_go}
pub use Rattle.norec_core.specs.declared.answer.Next.TheVariants.{Step as Asks}
pub use Rattle.tx_attempts.proofs.AloneCalls.{asked, begins_alone, breaks_after, gets_none}
pub use Rattle.tx_attempts.specs.Attempts.{alone, alone_whole, calls_of, of_thread, replies_of}
pub use Rattle.tx_attempts.specs.Counts.{count_committed, one_where}
pub use Rattle.tx_attempts.specs.Opacity.{answers_on, ran_of}
pub use Rattle.tx_attempts.specs.Restarts.{again_at, arena_set, breaks_in, breaks_of}
pub use Rattle.tx_attempts.specs.declared.attempt.Again.{Again}
pub use Rattle.tx_attempts.specs.declared.attempt.Attempt.{Attempt}
pub use Rattle.tx_attempts.specs.declared.attempt.Outcome.TheVariants.{Committed, Full, Unfinished}
pub use Rattle.tx_history.specs.Legal.{count_holding, EndsFree, EndsHeld, is_holding, is_unfinished, IsLegal, memory_at}
pub use Rattle.tx_history.specs.Versions.{depth_of}
pub use Rattle.tx_history.specs.declared.history.Version.{Version}
pub use Rattle.tx_runs.proofs.RunLists.{run_still, there_is, try_begun}
pub use Rattle.tx_runs.specs.Tallies.{came, Tally, within}
pub use Rattle.tx_runs.specs.declared.ending.End.{End}
pub use Rattle.tx_runs.specs.declared.ending.End.TheVariants.{Finished, GaveUp, NoMemory}
pub use Rattle.tx_runs.specs.Currents.{Current, Outside, Within}
pub use Rattle.world_laws.specs.Alike.{AreAlike}
pub use Rattle.world_laws.specs.SameWorlds.{SameWorld, ShowSame}
pub use Rattle.world_laws.specs.ShownAlone.{DoneBy, ShowsAlone}
pub use Rattle.world_laws.specs.Sole.{AreSole, EndsWith, IsFirstTry, IsIdle, IsKeptOut, IsOnWay, IsSole, StandsSole}
pub use Rattle.world_laws.specs.Solo.{aborts, before_taking, begun_then, block_then, ended_as, entry_of, left_open, limited_then, one_if, passed, player_after, Progress, row_of, Solo, solo, solo_within, stopped, with_all, with_first, within_limit, without_room}
pub use Rattle.world_laws.specs.Starved.{FedLeaveNoneOpen, IsFed, LeavesNoneOpen}
pub use Rattle.world_laws.specs.Told.{told_of}
pub use Rattle.world_rules.proofs.Common.{active_of, Acts, after, after_try, after_unless, answered_all, Answers, answers, answers_within, AreOfActors, AreOpaque, AreTied, Begin, begin_code, begin_of, begin_within, Beginning, begins, begins_again, begins_at, Between, between, Block, both_ways, bytes_at, bytes_of, Call, CallRecord, cases_Bool, Cells, cells_after, ClosedBy, Commit, CommitsInOrder, committed_at, cond-false, cond-true, Continues, Core, counted, current_of, ending_at, ending_of, EndsAs, EndsAt, event_result, false_from_ne_true, first_engine, follows, found, Goes, GoesOnAfter, HasStarted, is_at, is_committed, is_done, is_open, is_ready, is_waiting, IsAlone, IsBetween, IsEvent, IsOpaque, IsRunOf, Leads, Limits, memory_left, Next, none-some, Obeys, observed, open_in, opened, option_and_then, Outcome, outrun, outside, over, pair_of, pending_of, player_then, Prior, prior_of, Props, Records, Refusal, refusal, reply, Rows, Rules, run_after, runs, same_Some, SameOpening, shut_out, slice_get-set_same, slice_get_within, Stage, stage_of, stand_of, State, state_then, Step, Taken, Takes, takes_clock, tally_of, Tells, told, took_in, Tries, TriesAgain, turn, turned_away, waiting_step, waits_at, words_of, World, Write}
pub use Rattle.world_rules.proofs.Events.WorldEvents.{leads_on, waits_not_ended}
pub use Rattle.world_rules.proofs.Events.Worlds.{odd_or_even, set_place, waiting_going, waits_there}
pub use Rattle.world_rules.proofs.Tries.Stages.{row_is_of, row_open, row_shut, row_unfinished}
pub use Rattle.world_rules.specs.Actor.{Actor}
pub use Rattle.world_rules.specs.Headline.{first_of}
pub use Rattle.world_rules.specs.LocalWork.{ActsOn, Calls, calls, Finishes, finishes, starves, TakesIn, Works}
pub use Rattle.world_rules.specs.Records.{status_after}
pub use Rattle.world_rules.specs.Rows.{AreEnded, AreFrom}
pub use Rattle.world_rules.specs.Stages.{moved_to, opens, with_open}
pub use Rattle.world_rules.specs.Starts.{IsNew}
pub use Rattle.world_rules.specs.Tries.{EndsIt, GoesBack}
pub use Rattle.world_rules.specs.World.{attempts_of, is_event, memory_of}
pub use Rattle.world_rules.specs.WorldEvents.{is_starved}
pub use Rattle.world_rules.specs.declared.actor.Status.{Status}
pub use Rattle.world_rules.specs.declared.actor.Status.TheVariants.{Ended, Ready, Waits}
pub use Rattle.world_rules.specs.declared.fault.WorldFault.{WorldFault}
pub use Rattle.std.proofs.lemmas.Bool.{and_from, and_left, and_right, cases_lt, lt-leb, or_from, or_left, or_parts}
pub use Rattle.std.proofs.lemmas.List.{append-nil, length-replicate, map-append, take-append-drop}
pub use Rattle.std.proofs.lemmas.List.Elements.{All-append, All-cons, All-head, All-nil, All-tail}
pub use Rattle.std.specs.Option.{option_map}
