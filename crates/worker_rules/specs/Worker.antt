-- What a worker is to contracts.
use Rattle.std.specs.Prelude.{ℕ, Vec}
use Rattle.std.specs.declared.alloc.Global.{Global}
use Rattle.call_rules.specs.Standing.{Standing}
use Rattle.tx_attempts.specs.declared.attempt.Attempt.{Attempt}
use Rattle.tx_runs.specs.declared.player_run.PlayerRun.{PlayerRun}

-- a player with its thread, the attempts that have ended, and how many calls it has made
pub record Worker (P : Type 0) : Type 0 where
  pub run : PlayerRun P
  pub thread : Standing
  pub ended : Vec Attempt Global
  pub calls : ℕ
