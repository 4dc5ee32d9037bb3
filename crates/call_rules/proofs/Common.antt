-- The names that more than one proof cites, passed on from one place. Declares nothing.
pub use Rattle.call_rules.specs.Drives.{Drives, Finishes, HasStepped, IsDriven, LeadsOn, StepsOn}
pub use Rattle.call_rules.specs.InCall.{Grew, HeldOn, InCall, IsDone, IsDue, IsOpening, IsShut, left, Loads, pending}
pub use Rattle.call_rules.specs.Served.{came_over, Closes, Commits, Conflicts, GoesBegin, Grows, IsBusy, IsFull, IsPatient, IsRead, IsUndone, left_over, Meets, memory_in, mine_after, mine_if, Restarts, Served, Start, Tells, Went}
pub use Rattle.call_rules.specs.Ties.{Follows, IsFresh, IsHolding, IsTied, memory_of, Reads, Stands}
pub use Rattle.call_rules.specs.Underway.{Finds, IsUnderway}
pub use Rattle.itm_model.specs.Machine.{after as after_call, back, reply, undone}
pub use Rattle.itm_model.specs.State.{State}
pub use Rattle.itm_types.specs.Memory.{Agrees, bytes_of, IsMemory}
pub use Rattle.itm_types.specs.declared.call.Call.{Call}
pub use Rattle.itm_types.specs.declared.call.Call.TheVariants.{Abort, Begin, Commit, CommitAction, Mode}
pub use Rattle.itm_types.specs.declared.call.Reply.{Reply}
pub use Rattle.itm_types.specs.declared.row.LogRow.{LogRow}
pub use Rattle.itm_types.specs.declared.step.Step.{Step}
pub use Rattle.itm_types.specs.declared.step.Step.TheVariants.{Cas, Load, Store}
pub use Rattle.nest_frames.specs.Nest.{Frame, reads_of, renewed, stays_revocable}
pub use Rattle.norec_core.proofs.Engines.HeldStores.{got_handed, got_now, got_or, IsLoaded, none_got, shut_revocable}
pub use Rattle.norec_core.proofs.Engines.KeptFields.{came_restarted, handed_is, IsHanded, keeps_asked, keeps_self, keeps_twice, most_same}
pub use Rattle.norec_core.proofs.Logs.{agrees_less, agrees_more, log_longer, snapshot_late, snapshot_same, still_logged}
pub use Rattle.norec_core.proofs.Replies.AnsweredEngines.{IsRest, rests, told_plainly}
pub use Rattle.norec_core.specs.Core.{came, Core, handed_to, in_transaction, irrevocable_room, is_inside, is_outermost, is_within, may_go, rolled_back, word_loaded}
pub use Rattle.norec_core.specs.Effects.{recoded, room_left}
pub use Rattle.norec_core.specs.Endings.{aimed_ending, ending_after, ending_from, EndsSo, IsEnding}
pub use Rattle.norec_core.specs.Held.{answers, ComesHeld, ComesTo, IsFound, leaves, memory_after, StepsHeld}
pub use Rattle.norec_core.specs.Keeps.{Keeps}
pub use Rattle.norec_core.specs.Moves.{IsCalled, IsResumed}
pub use Rattle.norec_core.specs.Order.{again_stage, asked, asked_from, begin_stage, commit_stage, copying_stage, fill_from, going_stage, place_from, placed_in, read_stage, row_stage, stage_after, stage_at, stage_from, tries_after, tries_at, try_stage, value_reading, value_writing}
pub use Rattle.norec_core.specs.Phases.{Confirm, Exchange, Free, Idle, Phase, RoundBack, RoundEnd, RoundRow, RoundStart, Take}
pub use Rattle.norec_core.specs.Proceeds.{AreRead, AsksFor, backed, ConflictsIn, Differs, Ends, Enters, Fits, FitsStep, GoesBack, GoesOver, Got, IsAtOnce, IsBegin, IsLawful, IsSettled, IsWithin, Joins, most, Proceeds, Replies, RepliesHeld, Settles, StaysOn, TakesFor, WantsClock}
pub use Rattle.norec_core.specs.Restarts.{begun_again, IsRestart}
pub use Rattle.norec_core.specs.Stands.{stands_for, state_in, state_over}
pub use Rattle.norec_core.specs.declared.answer.Answer.{Answer}
pub use Rattle.norec_core.specs.declared.answer.Answer.TheVariants.{Busy, Committed, Conflict, Full, Restarted}
pub use Rattle.norec_core.specs.declared.answer.Next.{Next}
pub use Rattle.norec_core.specs.declared.answer.Next.TheVariants.{Answer as Answers, Step as Asks}
pub use Rattle.shared_words.proofs.ListPlaces.{starts_le, starts_self, starts_trans}
pub use Rattle.shared_words.proofs.StoredWords.{after_fits, after_snoc, commits_take, length_after, length_stored, memory_stays, stored_fits, stored_snoc}
pub use Rattle.shared_words.specs.Commits.{after, memory_at, Stand, StartsWith, stored}
pub use Rattle.shared_words.specs.Passes.{cells_of, IsOver, Owns, view_of}
pub use Rattle.shared_words.specs.Steps.{cell_of, Lawful, Loaded, Sees, StepTells, WasFound}
pub use Rattle.shared_words.specs.Views.{freed, held_words, looked, noted, read, took, wrote}
pub use Rattle.shared_words.specs.declared.pass.Pass.{Pass}
pub use Rattle.shared_words.specs.declared.view.View.{View}
pub use Rattle.shared_words.specs.declared.words.Words.{Words}
pub use Rattle.std.proofs.lemmas.Bool.{cases_Bool, false_from_ne_true, ltb-false}
pub use Rattle.std.proofs.lemmas.List.{same_from_push, take-append-le, take_all, take_at}
pub use mathlib.Core.Logic.{dite}
pub use native.Mathlib.Decide.{ℕ_discrete}
