-- The names that more than one answer cites, passed on from one place. Declares nothing.
pub use Rattle.norec_engine.specs.NextSteps.{ComesInto, next_in}
pub use Rattle.norec_world.specs.Views.{world_of}
pub use Rattle.event_rules.proofs.Commits.ActorLimits.{limits_as, limits_stay}
pub use Rattle.event_rules.proofs.Commits.CommitCounts.{commits_first, counted_after}
pub use Rattle.event_rules.proofs.Common.{Actor, after_undoing, AllFit, Answer, Answers, append-nil, AreActors, AreOfActors, AreOpaque, AreOpen, AreTied, Asks, AsksOf, Attempt, Begin, Begins, begun, begun_in, bytes_of, Call, Cells, cells_after, CommitsInOrder, Core, count_in, Current, ending_in, ends_in, event_result, first_engine, first_of, Goes, HasStepped, HasWorked, in_transaction, irrevocable_room, is_begin, is_ready, is_waiting, IsActing, IsAnswered, IsAsked, IsBetween, IsDue, IsFirst, IsSettled, IsSettledBy, IsTied, KeepsOthers, MAX_ACTORS, MayRunOn, Next, NoMemory, observed, open_in, opening, Outcome, Outside, over_as, PlayerRun, prior_of, Ran, Records, reserved, RunsFrom, same_Some, slice_get_within, slice_index_or, Stage, stage_of, Stand, stand_of, Starves, status_after, StatusIs, Step, Taken, tally_of, told, waiting_step, waits_at, whole, with_room, Within, words_of, words_of-bytes_of, World}
pub use Rattle.world_rules.specs.World.{counted}
pub use Rattle.std.specs.Option.{option_and_then}
pub use Rattle.itm_types.specs.Memory.{AreWords}
pub use Rattle.std.specs.Int.{from_le_bytes, to_le_bytes, w64}
pub use Rattle.world_rules.proofs.Common.{HasStarted, Leads, passes_of, SameOpening, Takes, took_in}
pub use Rattle.world_rules.specs.ActionRoom.{IsRefused}
pub use Rattle.world_rules.specs.Sound.{IsUnasked, WritesDown}
pub use Rattle.itm_types.proofs.WordLists.{length-words_from}
pub use Rattle.tx_runs.proofs.OpenRooms.{on_err}
pub use Rattle.world_rules.specs.Rows.{rows_in}
pub use Rattle.event_rules.proofs.Engines.Intakes.{due, now}
pub use Rattle.event_rules.proofs.Engines.PlayerLaws.{settles}
pub use Rattle.event_rules.proofs.Engines.SoundSteps.{answer_falls, call_taken, calling, IsStepping, mid_step, rests, same, step_acts, step_clocks, step_lasts, step_taken, stepping, takes_in}
pub use Rattle.event_rules.proofs.Engines.TiedEngines.{idle_still, opening_settled, tied_undone}
pub use Rattle.event_rules.proofs.Events.EventWorlds.{goes_after, less_after, opaque_as, tells_after, tied_as, told_after, world_after}
pub use Rattle.event_rules.proofs.Events.SoundOthers.{actors_joined, joined_place, told_others, told_sound}
pub use Rattle.event_rules.proofs.Events.WorkChains.{call_worked, finish_worked, starve_worked, work_more, work_none}
pub use Rattle.world_rules.proofs.Events.WorldEvents.{call_falls, call_left_at, counted_one, counts_both, ended_there, events_both, goes_no_more, goes_nowhere, leaves_on, LeavesLessSoFar, LeavesNoMore, led_on, mapped_none, mapped_some, no_more_first, no_more_on, not_there, noted, noted_all, noted_counts, opening_both, opening_same, over_less, run_falls, run_left_at, takes_both, takes_one, told_event, waits_still, whole_at}
pub use Rattle.world_rules.proofs.Events.Worlds.{going_in, next_cell, next_here, read_there, some_waiting, waits_there}
pub use Rattle.event_rules.proofs.Rooms.LaterActions.{given_up_free, given_up_later, given_up_most}
pub use Rattle.event_rules.proofs.Rooms.RecordedRoom.{back_within, may_take, recorded_acting}
pub use Rattle.event_rules.proofs.Runs.Calls.{step_runs, still_at}
pub use Rattle.event_rules.proofs.Runs.Others.{fresh_runs, laid_first, other_runs, world_opaque, world_tied}
pub use Rattle.event_rules.proofs.Tries.Dates.{dated_first}
pub use Rattle.event_rules.proofs.Tries.ReadPositions.{still_reads}
pub use Rattle.world_rules.proofs.Tries.Stages.{moved_begun, others_place, others_same, others_stopped, others_taken, others_twice, room_less}
pub use Rattle.event_rules.proofs.Tries.ThreadAttempts.{are_open, opens_none}
pub use Rattle.world_rules.proofs.Tries.ToldTries.{told_here}
pub use Rattle.event_rules.proofs.Tries.TryCalls.{step_tries, step_unfinished}
pub use Rattle.event_rules.proofs.Tries.TryChains.{fed_joined, starts_between}
pub use Rattle.world_rules.specs.declared.actor.Status.TheVariants.{Ended, Ready, Waits}
pub use Rattle.world_rules.specs.declared.actor.Status.{Status}
pub use Rattle.world_rules.specs.declared.fault.WorldFault.{WorldFault}
pub use Rattle.world_rules.specs.declared.passes.Passes.{Passes}
