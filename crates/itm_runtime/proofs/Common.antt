-- The names that more than one proof cites, passed on from one place. Declares nothing.
pub use Rattle.call_rules.proofs.Calls.Restarts.{cancel_whole, commit_whole}
pub use Rattle.call_rules.proofs.Calls.Results.{answered, at_once, due, left_standing}
pub use Rattle.call_rules.proofs.Calls.Underway.{goes_on, step_done, step_seen, underway}
pub use Rattle.call_rules.proofs.Steps.DrivenCalls.{due_on, leads_further}
pub use Rattle.call_rules.proofs.Steps.FurtherSteps.{fewer_left, found_finishes, found_further, found_in, in_call, one_further, one_step, waits_for}
pub use Rattle.call_rules.proofs.Steps.KnownSteps.{finds_first, last_finishes, leads_last, leads_then, then_finds, then_finishes}
pub use Rattle.call_rules.proofs.Steps.StepChains.{at_step, cell_within, fits_of, goes, got_there, lawful_of, smaller, starts, waits_of}
pub use Rattle.call_rules.proofs.Steps.WordReads.{clock_next, may_look, word_first}
pub use Rattle.call_rules.specs.CallResults.{IsAnswered, IsThreadStarved, Returns, Tells}
pub use Rattle.call_rules.specs.Drives.{Finishes, LeadsOn, StepsOn}
pub use Rattle.call_rules.specs.InCall.{InCall, IsDue, left}
pub use Rattle.call_rules.specs.Served.{came_over, Served, Start}
pub use Rattle.call_rules.specs.Standing.{Standing, start_of}
pub use Rattle.call_rules.specs.Underway.{Finds}
pub use Rattle.itm_model.specs.Machine.{bytes_reply, or_else, ranges, refusal, reply_unless, standing, unless}
pub use Rattle.itm_runtime.specs.Stops.{answer_to_read, answer_to_write, done_or, GoesOn, HasNumber, number}
pub use Rattle.itm_types.specs.declared.access.ReadHint.TheVariants.{R}
pub use Rattle.itm_types.specs.declared.access.Width.TheVariants.{U8}
pub use Rattle.itm_types.specs.declared.access.WriteHint.TheVariants.{W}
pub use Rattle.itm_types.specs.declared.call.Call.{Call}
pub use Rattle.itm_types.specs.declared.call.Call.TheVariants.{Begin, Commit, Read, Write}
pub use Rattle.itm_types.specs.declared.call.Refusal.{Refusal}
pub use Rattle.itm_types.specs.declared.call.Refusal.TheVariants.{OutOfRange}
pub use Rattle.itm_types.specs.declared.call.Reply.{Reply as Replied}
pub use Rattle.itm_types.specs.declared.call.Reply.TheVariants.{Bytes, Code, Done, Refused}
pub use Rattle.itm_types.specs.declared.datum.Datum.{Datum}
pub use Rattle.itm_types.specs.declared.step.Step.{Step}
pub use Rattle.itm_types.specs.declared.step.Step.TheVariants.{Cas, Load, Store}
pub use Rattle.norec_core.specs.Core.{Core}
pub use Rattle.norec_core.specs.declared.answer.Answer.{Answer}
pub use Rattle.norec_core.specs.declared.answer.Answer.TheVariants.{Busy, Committed, Conflict, Full, Reply, Restarted}
pub use Rattle.norec_core.specs.declared.answer.Next.{Next}
pub use Rattle.norec_core.specs.declared.answer.Next.TheVariants.{Answer as Answers, Step as Asks}
pub use Rattle.norec_engine.specs.BlockSteps.{exchanging, IsWhole, merging, next_step, part_store, StoresRows, storing, WritesBack}
pub use Rattle.norec_engine.specs.NextSteps.{next_in}
pub use Rattle.shared_words.specs.Passes.{cells_of, Owns, view_of}
pub use Rattle.shared_words.specs.declared.view.View.{View}
