-- The names that more than one proof cites, passed on from one place. Declares nothing.
pub use Rattle.call_rules.specs.Standing.{Standing, start_of}
pub use Rattle.itm_types.specs.Calls.{abort_of, is_begin, is_commit}
pub use Rattle.itm_types.specs.declared.call.Call.{Call}
pub use Rattle.itm_types.specs.declared.call.Call.TheVariants.{Begin, Mode}
pub use Rattle.itm_types.specs.declared.call.Reply.{Reply as Replied}
pub use Rattle.itm_types.specs.declared.call.Reply.TheVariants.{Code, Done}
pub use Rattle.norec_core.proofs.Replies.ReplyCases.{reply_cases, Ways}
pub use Rattle.norec_core.specs.Core.{Core, in_transaction, irrevocable_room, is_inside, is_within, rolled_back}
pub use Rattle.script_asm.specs.Groups.{innermost, innermost_line, outer, second_part, stands_never, within_never}
pub use Rattle.script_asm.specs.declared.groups.Beginning.{Beginning}
pub use Rattle.script_asm.specs.declared.groups.Group.{Group}
unfoldable pub use Rattle.script_program.specs.Listing.{codes_of}
pub use Rattle.script_program.specs.Listing.{Listing, Part, Shared, threads_of}
pub use Rattle.script_program.specs.declared.instruction.Instruction.{Instruction}
pub use Rattle.script_vm.proofs.NestedThreads.{answered_deepest, at_block_deepest, back_nested, ended_shut, IsNested, left, opening_nested, plays, restarted_deepest, some_left}
pub use Rattle.script_vm.specs.Nesting.{block, group, Leads, Level, Nests}
pub use Rattle.script_vm.specs.Rooms.{carried_room}
pub use Rattle.script_vm.specs.ThreadLaws.{thread_laws}
pub use Rattle.script_vm.specs.Threads.{answered, at_block, depth_of, next_call, opening, restarted, Thread, thread_rules}
pub use Rattle.shared_words.specs.InGlobal.{Words}
pub use Rattle.tx_attempts.specs.Kept.{Kept, reserved}
pub use Rattle.tx_attempts.specs.declared.attempt.Attempt.{Attempt}
pub use Rattle.tx_player.specs.Depth.{depth_after, depth_by}
pub use Rattle.tx_player.specs.Replies.{MayReply}
pub use Rattle.tx_runs.proofs.RunLists.{there_is}
pub use Rattle.tx_runs.specs.Nesting.{IsDeep, IsNested as Nested}
pub use Rattle.tx_runs.specs.Tallies.{begins, begins_again, begun, entered, gone_back, outside, replied, sent_back, Stage, stage_at, Stand, stand_of, Taken, Tally, took_in, tried, went_on, with_call, within}
pub use Rattle.tx_runs.specs.declared.ending.End.TheVariants.{Finished, GaveUp, NoMemory}
pub use Rattle.tx_runs.specs.declared.savepoint.Savepoint.{Savepoint}
pub use Rattle.worker_rules.proofs.Laws.Answers.{both}
pub use Rattle.worker_rules.specs.Accounts.{Account, account_after, first_account}
pub use Rattle.worker_rules.specs.Calls.{asked, HasMade, StopsAt}
pub use Rattle.worker_rules.specs.Gates.{call_number, Gating}
pub use Rattle.worker_rules.specs.Works.{course_of, is_held, IsRow, Parts}
pub use Rattle.world_rules.proofs.Common.{slice_get_within}
pub use Rattle.std.proofs.lemmas.Bool.{cases_Bool, cond-false, cond-true, false_from_ne_true, ltb-false, ltb-true, or_parts, or_right}
pub use Rattle.std.proofs.lemmas.Option.{get_or_from_slice_get}
pub use Rattle.std.specs.List.{flat_map, list_all, repeat}
