-- What an actor's step, and its local work, leave: all of it at once. No contract above cites it.
use Rattle.std.specs.Prelude.{◌≡◌, true, false, None, Some}
use Rattle.itm_types.specs.declared.step.Step.{Step}
use Rattle.norec_core.specs.Core.{in_transaction}
use Rattle.tx_runs.specs.declared.ending.End.TheVariants.{Finished}
use Rattle.world_rules.specs.Actor.{Actor}
use Rattle.world_rules.specs.Cells.{Cells, cells_after}
use Rattle.world_rules.specs.ClockHolder.{ClocksOn}
use Rattle.world_rules.specs.LocalWork.{TakesIn, Works}
use Rattle.world_rules.specs.Stages.{KeepsOthers}
use Rattle.world_rules.specs.Rows.{Rows}
use Rattle.world_rules.specs.Runs.{StillRuns}
use Rattle.world_rules.specs.Sound.{Falls, GoesOn, IsNoMore, IsSound}
use Rattle.world_rules.specs.Status.{ending_of, is_ready, is_waiting, waiting_step}
use Rattle.world_rules.specs.Tries.{Continues, Extends, Tries, prior_of}
use Rattle.tx_player.specs.Rules.{Rules}
use Rattle.tx_runs.specs.Ranks.{restarts_left}

module _ {P : Type 0} (rules : Rules P) where
  -- the operation that it waited for was done, and its engine took in what was found
  pub record HasStepped (cells : Cells) (r : Rows) (a : Actor P) (cells' : Cells) (r' : Rows) (a' : Actor P) : Type 0 where
    pub sound : IsSound rules cells' r' a'
    pub cells_are : (step : Step) → waiting_step a.status ≡ Some step → cells' ≡ cells_after cells step
    pub takes : TakesIn rules cells r a r' a'
    pub tries : Tries (Continues cells.clock) cells.clock (prior_of r a) cells'.clock r' a'
    pub runs : StillRuns rules cells r a cells' r' a'
    pub others : KeepsOthers a r a' r'
    pub clocks : ClocksOn cells a.engine cells' a'.engine
    pub unfinished : ending_of a'.status ≡ Some Finished → ⊥
    pub goes_on : is_waiting a'.status ≡ true → GoesOn rules a a'
    pub falls : is_ready a'.status ≡ true → Falls rules (in_transaction a.engine) (in_transaction a'.engine) (restarts_left a.engine) (restarts_left a'.engine) a a'

  -- it made calls of its player, as many as it could or some of them
  pub record HasWorked (cells : Cells) (r : Rows) (a : Actor P) (r' : Rows) (a' : Actor P) : Type 0 where
    pub sound : IsSound rules cells r' a'
    pub works : Works rules cells.clock r a r' a'
    pub tries : is_ready a.status ≡ true → Tries Extends cells.clock (prior_of r a) cells.clock r' a'
    pub runs : StillRuns rules cells r a cells r' a'
    pub others : KeepsOthers a r a' r'
    pub holds : a'.engine.holds ≡ a.engine.holds
    pub clock : a'.engine.clock ≡ a.engine.clock
    pub limit : (a'.engine.max_commits ≡ a.engine.max_commits) × (a'.engine.patience ≡ a.engine.patience) × (a'.engine.depth ≡ a.engine.depth) × (a'.engine.restarts ≡ a.engine.restarts)
    pub snapshot : a'.engine.snapshot ≡ a.engine.snapshot
    pub retries : a'.run.retries ≡ a.run.retries
    pub finishes : is_ready a.status ≡ true → ending_of a'.status ≡ Some Finished → rules.next_call a'.run.player ≡ None
    pub still : is_ready a.status ≡ false → (a' ≡ a) × (r' ≡ r)
    pub less : ending_of a'.status ≡ None → IsNoMore rules a a'
