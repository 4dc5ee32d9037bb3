-- The names that more than one proof cites, passed on from one place. Declares nothing.
pub use Rattle.call_rules.specs.Standing.{Standing}
pub use Rattle.itm_types.specs.Memory.{bytes_of}
pub use Rattle.itm_types.specs.declared.call.Call.{Call}
pub use Rattle.itm_types.specs.declared.limits.TheConstants.{MAX_ACTORS, MAX_ARENA, MAX_RETRIES, USUAL_DEPTH}
pub use Rattle.norec_core.specs.declared.answer.Answer.TheVariants.{Busy, Committed, Conflict, Full, Reply, Restarted}
pub use Rattle.report_rules.specs.Courses.{EndsBy, first_of, IsCourse, IsOver, IsOverWithin}
pub use Rattle.report_rules.specs.Fresh.{code_of, IsFresh, MayBegin}
pub use Rattle.report_rules.specs.Joins.{attempts_in, Did, ends_in, Gathers, Joins}
pub use Rattle.report_rules.specs.Limits.{IsLimitedListing}
pub use Rattle.report_rules.specs.Numbers.{Numbered}
pub use Rattle.report_rules.specs.Reports.{by_number, commits_of, Ran}
pub use Rattle.report_rules.specs.Rows.{EndsWhere, HasJoined, HeldAmong, IsLast, LiesIn, MadeCalls, WasRun}
pub use Rattle.report_rules.specs.Versions.{is_early, version_of}
pub use Rattle.report_rules.specs.declared.done.Done.{Done}
pub use Rattle.report_rules.specs.declared.report.Report.{Report}
pub use Rattle.run_rules.proofs.ClockCalls.{both_true}
unfoldable pub use Rattle.script_program.specs.Listing.{codes_of}
pub use Rattle.script_program.specs.Listing.{Listing, opening_of, threads_of}
pub use Rattle.script_program.specs.declared.instruction.Instruction.{Instruction}
pub use Rattle.script_vm.specs.Threads.{call_at, next_call, opening, Thread, thread_rules}
pub use Rattle.shared_words.specs.Commits.{after, StartsWith}
pub use Rattle.shared_words.specs.InGlobal.{Words}
pub use Rattle.shared_words.specs.Passes.{commits_known, Owns, view_of}
pub use Rattle.shared_words.specs.Steps.{Joined}
pub use Rattle.shared_words.specs.Views.{times}
pub use Rattle.shared_words.specs.declared.view.View.{View}
pub use Rattle.tx_attempts.proofs.LaterClocks.{outrun_both, outrun_later, outrun_none}
pub use Rattle.tx_attempts.specs.Attempts.{alone, committed_at, is_at, is_committed, memory_after, memory_left, of_thread}
pub use Rattle.tx_attempts.specs.Counts.{count_at, count_committed, one_where}
pub use Rattle.tx_attempts.specs.Opacity.{after_try, Beginning, Between, IsRunOf, IsTryAt}
pub use Rattle.tx_attempts.specs.Outrun.{AreDisturbed, AreOutrun}
pub use Rattle.tx_attempts.specs.declared.attempt.Attempt.{Attempt}
pub use Rattle.tx_attempts.specs.declared.attempt.Outcome.TheVariants.{ReadOnly, Unfinished}
pub use Rattle.tx_history.proofs.Runs.AloneRuns.{IsPlaced, of_run}
pub use Rattle.tx_history.specs.Bounds.{AreLimited, HasArenaWidth, IsArenaWidth, IsLimited, IsMemorySize}
pub use Rattle.tx_history.specs.Depths.{depth_from}
pub use Rattle.tx_history.specs.Legal.{count_holding, is_holding, is_unfinished, IsAlone, IsLegal, memory_at}
pub use Rattle.tx_history.specs.Versions.{depth_of, MayRestart, thread_limit}
pub use Rattle.tx_history.specs.declared.history.Version.{Version}
pub use Rattle.tx_history.specs.declared.history.Version.TheVariants.{One, Three, Two}
pub use Rattle.tx_player.specs.Rules.{Rules}
pub use Rattle.tx_runs.proofs.RunLists.{of_thread_more, run_still, there_is}
pub use Rattle.tx_runs.specs.Restarts.{RestartAtMost}
pub use Rattle.tx_runs.specs.Runs.{begins_at}
pub use Rattle.tx_runs.specs.declared.ending.End.{End}
pub use Rattle.tx_runs.specs.declared.ending.End.TheVariants.{Finished, GaveUp, NoMemory}
pub use Rattle.worker_rules.specs.Accounts.{Account, first_account}
pub use Rattle.worker_rules.specs.Gates.{all_let, call_number, Gating}
pub use Rattle.worker_rules.specs.Positions.{AreFew, AreLeft, AreOwn, AreSince, bytes_at, positions}
pub use Rattle.worker_rules.specs.Worked.{Worked}
pub use Rattle.worker_rules.specs.Works.{AreHeld, course_of, EndsAs, is_held, IsFinished, view_left, Works}
pub use Rattle.std.proofs.lemmas.Bool.{cases_Bool, cases_lt, lt-leb, ne_eqb}
pub use Rattle.std.proofs.lemmas.List.Elements.{All-append, All-cons, All-head, All-nil, All-tail}
