-- One event of an actor: its step, with the local work that follows it.
use Rattle.std.specs.Prelude.{◌≡◌, None, Some}
use Rattle.tx_runs.specs.declared.ending.End.TheVariants.{Finished}
use Rattle.world_rules.specs.Actor.{Actor}
use Rattle.world_rules.specs.Cells.{Cells}
use Rattle.world_rules.specs.Rows.{Rows}
use Rattle.world_rules.specs.Status.{ending_of}
use Rattle.world_rules.specs.Stages.{KeepsOthers}
use Rattle.world_rules.specs.ClockHolder.{ClocksOn}
use Rattle.world_rules.specs.Tries.{Continues, Tries, prior_of}
use Rattle.world_rules.specs.LocalWork.{TakesIn, Works}
use Rattle.tx_player.specs.Rules.{Rules}

module _ {P : Type 0} (rules : Rules P) where
  pub record IsEvent (cells : Cells) (r : Rows) (a : Actor P) (cells' : Cells) (r' : Rows) (a' : Actor P) : Type 0 where
    pub rows : Rows
    pub stepped : Actor P
    pub takes : TakesIn rules cells r a rows stepped  -- its step is done, and the value goes to its engine
    pub works : Works rules cells'.clock rows stepped r' a'  -- and then it does its local work
    pub tries : Tries (Continues cells.clock) cells.clock (prior_of r a) cells'.clock r' a'  -- what becomes of its try: a block of it may have gone back as its step was done, and then it went on
    pub finishes : ending_of a'.status ≡ Some Finished → rules.next_call a'.run.player ≡ None  -- it finishes only where its player has no more calls
    pub others : KeepsOthers a r a' r'  -- the others' attempts stay
    pub clocks : ClocksOn cells a.engine cells' a'.engine
    pub retries : a'.run.retries ≡ a.run.retries
