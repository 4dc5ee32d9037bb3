-- What is true of the fields in every phase, and between the calls of an irrevocable transaction.
use Rattle.std.specs.Prelude.{◌≡◌, ℕ, ◌/◌, ◌%◌, ◌<◌, ◌≤◌, true, false, List, [], length}
use Rattle.itm_types.specs.declared.limits.TheConstants.{MAX_COMMITS, MAX_PATIENCE, MAX_WORDS}
use Rattle.write_set.specs.Marks.{unwritten}
use Rattle.norec_data.specs.declared.data.Data.{Data}
use Rattle.norec_data.specs.declared.limits.EngineLimits.{EngineLimits}
use Rattle.norec_data.specs.View.{in_block}

-- in every phase
pub record IsBounded (words : ℕ) (limits : EngineLimits) (restarted snapshot size depth : ℕ) (arena : List ℕ) : Type 0 where
  pub patient : (0 < limits.patience) × (limits.patience ≤ MAX_PATIENCE)
  pub commits : limits.max_commits ≤ MAX_COMMITS
  pub few : restarted ≤ limits.restarts
  pub small : words ≤ MAX_WORDS
  pub sized : size ≡ length arena
  pub deep : 0 < depth
  pub even : snapshot % 2 ≡ 0

-- no transaction is open
pub record IsOutside (d : Data) : Type 0 where
  pub is_open : in_block d ≡ false
  pub log : d.log.rows ≡ []
  pub writes : d.frames.writes ≡ unwritten
  pub commits : d.frames.actions.commits ≡ []
  pub undos : d.frames.actions.undos ≡ []
  pub tries : d.tries ≤ d.limits.patience

-- and the last one is over
pub record IsOver (d : Data) : Type 0 where
  pub bounds : IsBounded d.words d.limits d.restarted d.snapshot d.frames.size d.frames.depth d.arena
  pub reached : d.snapshot ≤ d.clock
  pub outside : IsOutside d

-- between two calls of an irrevocable transaction: nothing is left to write or to validate
pub record IsHeld (d : Data) : Type 0 where
  pub bounds : IsBounded d.words d.limits d.restarted d.snapshot d.frames.size d.frames.depth d.arena
  pub is_open : in_block d ≡ true
  pub log : d.log.rows ≡ []
  pub writes : d.frames.writes.rows ≡ []
  pub settled : d.clock ≡ d.snapshot
  pub free : d.snapshot / 2 < d.limits.max_commits
  pub tries : d.tries ≤ d.limits.patience
