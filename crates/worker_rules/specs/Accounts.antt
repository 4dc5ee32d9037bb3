-- How far a player has come on its thread.
use Rattle.std.specs.Prelude.{ℕ, Bool, false, List, [], ◌++◌}
use Rattle.tx_attempts.specs.declared.attempt.Attempt.{Attempt}
use Rattle.tx_attempts.specs.declared.attempt.Outcome.TheVariants.{Unfinished}
use Rattle.tx_runs.specs.PlayerRuns.{stage_of}
use Rattle.tx_runs.specs.Tallies.{Stage, outside, Stand, Taken, Tally, over_as}
use Rattle.worker_rules.specs.Worker.{Worker}

-- its tally, and its attempts that are over, in order
pub record Account (P : Type 0) : Type 0 where
  pub player : P
  pub nth : ℕ
  pub again : Bool
  pub stage : Stage
  pub ended : List Attempt

module _ {P : Type 0} where
  abbrev pub tally_in : Account P → Tally P
  tally_in a = record { player = a.player; nth = a.nth; again = a.again; stage = a.stage }

  -- before its first call
  abbrev pub first_account : P → Account P
  first_account player = record { player = player; nth = 1; again = false; stage = outside; ended = [] }

  abbrev pub account_of : Worker P → Account P
  account_of w = record { player = w.run.player; nth = w.run.nth; again = w.run.again; stage = stage_of w.run.current; ended = w.ended.items }

  -- what an answer makes of it
  abbrev pub account_after : Account P → Taken P → Account P
  account_after a x = record { player = x.tally.player; nth = x.tally.nth; again = x.tally.again; stage = x.tally.stage; ended = a.ended ++ x.over }

  -- all its attempts, where its thread stops: one that is open is told as it stands
  abbrev pub told : Account P → Stand → List Attempt
  told a s = a.ended ++ over_as Unfinished s a.stage
