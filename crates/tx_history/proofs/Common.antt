-- The names that more than one proof cites, passed on from one place. Declares nothing.
unfoldable pub use Rattle.hex.specs.Hex.{encode_with}
pub use Rattle.hex.specs.Hex.{encode_lower, lower_digits}
pub use Rattle.itm_model.proofs.KeptEffects.{after_kept, either_kept, entered_kept, IsKept}
pub use Rattle.itm_model.specs.Machine.{after, back, back_from, closed, closed_in, closed_irrevocable, entered, handed, is_open, logged_in, made_irrevocable, opened, or_else, outside, pushed, refusal, reply, rolled_back, undone, undone_from, unless, written}
pub use Rattle.itm_model.specs.Runs.{Breaks, gets_through, later, replies_through, state_through, turn}
pub use Rattle.itm_model.specs.State.{Block, Saved, State}
pub use Rattle.itm_types.specs.KeptBytes.{also_kept, nothing}
pub use Rattle.itm_types.specs.declared.access.WriteHint.TheVariants.{W, WaR}
pub use Rattle.itm_types.specs.declared.call.Call.{Call}
pub use Rattle.itm_types.specs.declared.call.Call.TheVariants.{Begin, Copy, Fill, Load, Read}
pub use Rattle.itm_types.specs.declared.call.Props.{Props}
pub use Rattle.itm_types.specs.declared.call.Refusal.TheVariants.{NoIrrevocable, Outside, Overlap}
pub use Rattle.itm_types.specs.declared.call.Reply.{Reply}
pub use Rattle.itm_types.specs.declared.limits.Depth.{Depth}
pub use Rattle.tx_attempts.specs.Attempts.{alone, calls_of, committed_at, memory_after, memory_left, pair_of}
pub use Rattle.tx_attempts.specs.Opacity.{after_try, begin_code, begin_of, begin_within, Beginning, Between, EndsAs, follows, IsOpaque, IsRunOf, IsTryAt, ran_of}
pub use Rattle.tx_attempts.specs.Restarts.{again_at, AreAgain, arena_set, breaks_of}
pub use Rattle.tx_attempts.specs.declared.attempt.Again.{Again}
pub use Rattle.tx_attempts.specs.declared.attempt.Attempt.{Attempt}
pub use Rattle.tx_attempts.specs.declared.attempt.CallRecord.{CallRecord}
pub use Rattle.tx_attempts.specs.declared.attempt.Outcome.{Outcome}
pub use Rattle.tx_attempts.specs.declared.attempt.Outcome.TheVariants.{Cancelled, Committed, Conflict, Full, NoMemory, ReadOnly, Unfinished}
pub use Rattle.tx_history.specs.Bounds.{AgainFits, AttemptFits, CallFits, EntryFits, HasArenaWidth, PieceFits, RanFits}
unfoldable pub use Rattle.tx_history.specs.Histories.{again_lines, arena_line, attempt_lines, body_text, call_line, commit_action_text, copy_text, fill_text, first_lines, head_line, history_text, last_line, props_end, ran_line, reply_text, restart_line, try_text, undo_action_text, undone_line}
pub use Rattle.tx_history.specs.Histories.{call_lines, version_lines}
pub use Rattle.tx_history.specs.Legal.{EndsIn, IsAlone, may_begin, memory_at, ran_alone}
pub use Rattle.tx_history.specs.Pages.{Carries, Grows, IsSent, Sheet, Spells}
pub use Rattle.tx_history.specs.Spelling.{IsCut, Puts, spelled}
unfoldable pub use Rattle.tx_history.specs.Streams.{Adds}
pub use Rattle.tx_history.specs.Streams.{Leaves, Sends, StreamState, stream_state}
pub use Rattle.tx_history.specs.Versions.{depth_of, MayRestart, MayTell, memory_limit, thread_limit}
pub use Rattle.tx_history.specs.declared.history.History.{History}
pub use Rattle.tx_history.specs.declared.history.Version.TheVariants.{One, Three, Two}
pub use Rattle.tx_history.specs.declared.page.Page.{Page}
pub use Rattle.tx_history.specs.declared.pieces.Piece.TheVariants.{Number}
pub use Rattle.tx_player.specs.Rules.{Rules}
pub use Rattle.std.proofs.KnownBytes.{Appends-kept, Appends-nil, Appends-trans, Keeps-refl, Keeps-trans}
pub use Rattle.std.proofs.Math.Seq.{take-append-add}
pub use Rattle.std.proofs.lemmas.Fmt.{decimal_digit, decimal_step}
pub use Rattle.std.proofs.lemmas.Grind.{common_steps}
pub use Rattle.std.proofs.lemmas.List.{drop-take, drop_all, flat_map_more, length-append, length-set, take-append-drop, take-append-le, take-take, take_all, take_more}
pub use Rattle.std.proofs.lemmas.List.Elements.{All-append, All-cons, All-more, All-nil}
pub use Rattle.std.specs.Io.KnownBytes.{Appends, Keeps}
pub use Rattle.std.specs.List.{flat_map}
pub use Rattle.std.specs.Option.{option_map}
pub use Rattle.std.specs.Prelude.{codes}
pub use Rattle.std.specs.Result.{result_err}
pub use Rattle.std.specs.declared.io.Error.{Error}
