-- The names that more than one proof cites, passed on from one place. Declares nothing.
pub use Rattle.itm_model.specs.Machine.{after, after_unless, answer, back_from, bytes_reply, closed_actions, closed_in, closed_irrevocable, effect, is_clear, is_open, made_irrevocable, opened, or_else, outside, pushed, refusal, reply, reply_unless, rolled_back, source_bytes, source_range, standing, target_range, target_written, undone, undone_from, unless, with_action}
pub use Rattle.itm_model.specs.Runs.{Breaks, gets_through, later, replies_through, state_after, turn, unbroken}
pub use Rattle.itm_model.specs.State.{Block, Saved, State}
pub use Rattle.itm_types.specs.declared.call.Call.{Call}
pub use Rattle.itm_types.specs.declared.call.Call.TheVariants.{Abort, Begin, Commit, Copy, Load, Log, Mode, Read, Save, UndoAction}
pub use Rattle.itm_types.specs.declared.call.Props.{Props}
pub use Rattle.itm_types.specs.declared.call.Ran.{Ran}
pub use Rattle.itm_types.specs.declared.call.Refusal.{Refusal}
pub use Rattle.itm_types.specs.declared.call.Reply.{Reply}
pub use Rattle.tx_attempts.specs.Alone.{IsAlone, player_then, state_then}
pub use Rattle.tx_attempts.specs.Attempts.{alone, calls_of, pair_of, replies_of}
pub use Rattle.tx_attempts.specs.Opacity.{after_try, begin_of, begin_within, Beginning, Between, EndsAs, IsOpaque, IsRunOf, IsTryAt, ran_of, stays_outside}
pub use Rattle.tx_attempts.specs.Outrun.{AreDisturbed, AreOutrun, IsDisturbed}
pub use Rattle.tx_attempts.specs.Restarts.{again_at, AreAgain, arena_set, AtEach, before, breaks_in, breaks_of, count_undone, IsAgain, IsInnerBegin, open_in, run_on, with_again}
pub use Rattle.tx_attempts.specs.declared.attempt.Again.{Again}
pub use Rattle.tx_attempts.specs.declared.attempt.Attempt.{Attempt}
pub use Rattle.tx_attempts.specs.declared.attempt.CallRecord.{CallRecord}
pub use Rattle.tx_attempts.specs.declared.attempt.Outcome.TheVariants.{Conflict, ReadOnly}
pub use Rattle.tx_player.specs.Rules.{Obeys, Rules}
pub use Rattle.std.proofs.lemmas.Bool.{cases_Bool, cond-false, eq-eqb, le-ltb, lt-ltb, ltb-false, ltb-true, ne_eqb}
pub use Rattle.std.proofs.lemmas.List.{take-append-drop, take-append-le, take_more}
pub use Rattle.std.proofs.lemmas.List.Elements.{All-append, All-cons, All-nil, All-push}
