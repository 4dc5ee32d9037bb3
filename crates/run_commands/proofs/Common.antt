-- The names that more than one proof cites, passed on from one place. Declares nothing.
pub use Rattle.arrayvec.specs.ArrayVec.{array_vec_len, ArrayVec}
unfoldable pub use Rattle.hex.specs.Hex.{encode_with}
pub use Rattle.hex.specs.Hex.{IsBytes}
pub use Rattle.history_reader.proofs.Canon.LegalTexts.{legal_text}
pub use Rattle.itm_types.specs.declared.limits.TheConstants.{MAX_ACTORS, MAX_ARENA, MAX_RETRIES}
pub use Rattle.norec_world.specs.Listed.{left_of}
pub use Rattle.report_rules.specs.Limits.{IsLimitedListing}
pub use Rattle.report_rules.specs.Versions.{version_of}
unfoldable pub use Rattle.run_commands.specs.Endings.{ending_line, thread_line}
pub use Rattle.run_commands.specs.Endings.{ending_lines, fell_short}
pub use Rattle.run_commands.specs.Items.{ItemBegins, ItemLeads, ItemsBegin, ItemsLead}
unfoldable pub use Rattle.run_commands.specs.Pages.{page, solo_of}
pub use Rattle.run_commands.specs.Pages.{first_thread, IsOf, IsWorldOf, roomless}
pub use Rattle.run_commands.specs.Plays.{AddsEnded, Fails, Front, HasWhole, IsCutOff, Performs, SendsEnded}
pub use Rattle.run_commands.specs.Scheduled.{Begins, each_out, endings_of, Leaves, players_of, schedule_of, setup_of}
pub use Rattle.script_laws.proofs.AssembledCode.{assembled_nests}
pub use Rattle.script_laws.specs.Assembled.{HasNestedCode}
unfoldable pub use Rattle.script_program.specs.Listing.{bytes_of, codes_of}
pub use Rattle.script_program.specs.Listing.{Listing, opening_of, thread_of, threads_of}
pub use Rattle.script_program.specs.declared.instruction.Instruction.{Instruction}
pub use Rattle.script_program.specs.declared.schedule.Item.{Item}
pub use Rattle.script_program.specs.declared.schedule.Item.TheVariants.{Out, Take}
pub use Rattle.script_vm.specs.Threads.{depth_of, opening, Thread, thread_rules}
pub use Rattle.text_commands.proofs.WorkedScripts.{beyond, counter, counter_code, empty_block, laid_in, listing, lost_update, one_commit}
pub use Rattle.text_commands.proofs.WrittenTexts.{flushed}
pub use Rattle.text_commands.specs.Answers.{Outputs}
pub use Rattle.text_commands.specs.declared.failure.Failure.TheVariants.{Writing}
pub use Rattle.tx_attempts.specs.declared.attempt.Attempt.{Attempt}
pub use Rattle.tx_history.proofs.Streams.{adds_as, adds_attempt, adds_failed, adds_nothing, adds_then, cut_through, put_through}
pub use Rattle.tx_history.proofs.TextPieces.{cut_short, put_as}
pub use Rattle.tx_history.proofs.WorkedLines.{line}
pub use Rattle.tx_history.specs.Bounds.{AreLimited, AttemptFits, HistoryFits, IsMemorySize, IsWord}
unfoldable pub use Rattle.tx_history.specs.Histories.{arena_line, attempt_lines, body_text, call_line, first_lines, head_line, history_text, last_line, props_end, reply_text, try_text}
pub use Rattle.tx_history.specs.Spelling.{IsCut, Puts, Writes}
unfoldable pub use Rattle.tx_history.specs.Streams.{Adds}
pub use Rattle.tx_history.specs.Streams.{fault_of, lines_so_far, Sends, StreamState, stream_state}
pub use Rattle.tx_history.specs.declared.history.History.{History}
pub use Rattle.tx_history.specs.declared.history.Version.{Version}
pub use Rattle.tx_history.specs.declared.page.Page.{Page}
pub use Rattle.tx_player.specs.Rules.{Rules}
pub use Rattle.tx_runs.specs.declared.ending.End.{End}
pub use Rattle.tx_runs.specs.declared.ending.End.TheVariants.{Finished, GaveUp, NoMemory}
pub use Rattle.world_laws.proofs.Solos.Schedules.{led_alone, takes_led}
pub use Rattle.world_laws.specs.Solo.{one_if, Solo, solo, without_room}
pub use Rattle.world_laws.specs.Told.{told_of}
pub use Rattle.world_rules.proofs.Events.EndedAttempts.{ended_within, event_grown, Grown}
pub use Rattle.world_rules.proofs.Events.WorldEvents.{goes_no_more, LeavesNoMore, no_more_first, no_more_on, opening_both, opening_same, run_falls, run_left_at, takes_both, told_event, whole_at}
pub use Rattle.world_rules.proofs.Events.Worlds.{odd_or_even}
pub use Rattle.world_rules.specs.Commits.{CommitsInOrder}
pub use Rattle.world_rules.specs.Headline.{AreOpaque}
pub use Rattle.world_rules.specs.Tied.{AreTied}
pub use Rattle.world_rules.specs.World.{attempts_of, ending_at, event_result, IsSetUp, memory_of, observed, SameOpening, waits_at, World}
pub use Rattle.world_rules.specs.WorldEvents.{Goes, Leads, Takes}
pub use Rattle.world_rules.specs.declared.fault.WorldFault.{WorldFault}
pub use Rattle.std.proofs.KnownBytes.{Appends-kept, Appends-nil, Appends-trans}
pub use Rattle.std.proofs.lemmas.Fmt.{decimal_digit}
pub use Rattle.std.proofs.lemmas.Grind.{common_steps, flat_map-append}
pub use Rattle.std.proofs.lemmas.List.{drop_more, length-drop, length-map, length-take, length_push, replicate-append-replicate, take-append-drop, take_more}
pub use Rattle.std.proofs.lemmas.List.Elements.{All-append, All-from_recursion, All-map, All-more, All-nil}
pub use Rattle.std.proofs.lemmas.List.FromFn.{get_or-range_with_len, length-range_with_len, map-range_with_len_more}
pub use Rattle.std.proofs.lemmas.Result.{err_from_is_err_and}
pub use Rattle.std.specs.Io.KnownBytes.{Appends, Keeps}
pub use Rattle.std.specs.List.{All, AllByRecursion, list_any, range_with_len}
pub use Rattle.std.specs.Result.{result_err}
pub use Rattle.std.specs.declared.io.Error.{Error}
