-- How much a player has left to do.
use Rattle.std.specs.Prelude.{ℕ, ◌+◌, ◌-◌, ◌*◌, ◌<◌, ◌≤◌, Bool, if◌then◌else◌}
use Rattle.norec_core.specs.Core.{Core, in_transaction}
use Rattle.tx_player.specs.Rules.{Rules}
use Rattle.tx_runs.specs.Nesting.{whole}

-- how often inner blocks may still go back to their begins: in the transaction that is open, or else in the next one
abbrev pub restarts_left : Core → ℕ
restarts_left e = if in_transaction e then e.restarts - e.restarted else e.restarts

module _ {P : Type 0} (rules : Rules P) (retries restarts : ℕ) where
  -- Falls with each answer, where k bounds the calls left: `nth` is the try of its block that is under way or comes next, and inner blocks may go back so often in it. A try less counts for more than all restarts of one, and a restart for more than all calls.
  abbrev pub rank : ℕ → Bool → ℕ → ℕ → P → ℕ
  rank k is_open nth left p = ((whole rules is_open p * (retries + 1) + (retries + 1 - nth)) * (restarts + 1) + left) * (k + 1) + rules.calls_left p

  -- less is left to do
  pub record Falls (was now : Bool) (nth nth' left left' : ℕ) (p q : P) : Type 0 where
    pub whole_falls : whole rules now q ≤ whole rules was p
    pub rank_falls : (k : ℕ) → whole rules was p ≤ k → rank k now nth' left' q < rank k was nth left p
