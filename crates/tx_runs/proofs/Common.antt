-- The names that more than one proof cites, passed on from one place. Declares nothing.
pub use Rattle.itm_types.specs.declared.call.Call.{Call}
pub use Rattle.itm_types.specs.declared.call.Call.TheVariants.{Begin}
pub use Rattle.itm_types.specs.declared.call.Props.{Props}
pub use Rattle.itm_types.specs.declared.call.Reply.{Reply as Replied}
pub use Rattle.itm_types.specs.declared.call.Reply.TheVariants.{Code, Done}
pub use Rattle.tx_attempts.specs.Opacity.{after_try, begin_of, begin_within, Beginning, Between, IsOpaque, IsRunOf, IsTryAt, stays_outside}
pub use Rattle.tx_attempts.specs.Restarts.{open_after, open_by, ran_on}
pub use Rattle.tx_attempts.specs.declared.attempt.Attempt.{Attempt}
pub use Rattle.tx_player.specs.Rules.{Obeys, Rules}
pub use Rattle.tx_runs.specs.OpenAttempts.{LacksPlaces, Open, open_of, promised, Rooms}
pub use Rattle.tx_runs.specs.PlayerRuns.{HaveJoined, MayGoBack, stage_of, tally_of}
pub use Rattle.tx_runs.specs.Runs.{begins_at, IsBefore, LeadsTo, run_after}
pub use Rattle.tx_runs.specs.Savepoints.{cut_back, savepoints_after}
pub use Rattle.tx_runs.specs.Tallies.{begins, begins_again, closed, ending_as, entered, gone_back, outside, over_as, replied, sent_back, Stage, stage_at, stage_with, Stand, Taken, Tally, took_in, went_on, with_call, within}
pub use Rattle.tx_runs.specs.Currents.{Current, Outside, Within}
pub use Rattle.std.proofs.lemmas.Bool.{cases_Bool, cond-true}
