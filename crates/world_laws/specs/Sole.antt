-- The attempts of an actor that has its world to itself, between two events. No contract above cites it.
use Rattle.std.specs.Prelude.{◌≡◌, ◌⊎◌, ℕ, ◌+◌, ◌≤◌, ◌/◌, true, false, List, [], ◌∷◌, ◌++◌, Option, None, Some}
use Rattle.norec_core.specs.Core.{Core}
use Rattle.tx_attempts.specs.declared.attempt.Attempt.{Attempt}
use Rattle.tx_attempts.specs.declared.attempt.Outcome.{Outcome}
use Rattle.tx_attempts.specs.declared.attempt.Outcome.TheVariants as outcomes
use Rattle.tx_runs.specs.declared.ending.End.{End}
use Rattle.tx_runs.specs.declared.ending.End.TheVariants.{Finished, GaveUp, NoMemory}
use Rattle.world_rules.specs.Actor.{Actor}
use Rattle.tx_attempts.specs.Attempts.{is_committed, of_thread}
use Rattle.world_rules.specs.Headline.{bytes_at}
use Rattle.tx_attempts.specs.Opacity.{Beginning, Between}
use Rattle.tx_runs.specs.Runs.{begins_at, run_after}
use Rattle.world_rules.specs.Rows.{Rows}
use Rattle.world_rules.specs.Stages.{active_of, pending_of}
use Rattle.world_laws.specs.Solo.{one_if}
use Rattle.world_rules.specs.Status.{ending_of}
use Rattle.tx_runs.specs.Outcomes.{is_done}
use Rattle.world_rules.specs.Tries.{current_of}
use Rattle.tx_player.specs.Rules.{Rules}

-- the first try of its block, begun when so many had committed; no inner block of it ran again
pub record IsFirstTry (n : ℕ) (a : Attempt) : Type 0 where
  pub thread : a.thread ≡ 0
  pub nth : a.nth ≡ 1
  pub began : a.began ≡ n
  pub unbroken : a.restarts ≡ []

-- from so many commits to so many: each is such a try, reads where all before it had ended, and its block has ended: it committed, or was cancelled; no place is promised in it any more
abbrev pub AreSole : ℕ → List Attempt → ℕ → Type 0
AreSole n [] last = n ≡ last
AreSole n (a ∷ rest) last = IsFirstTry n a × (a.at ≡ n) × (is_done a.outcome ≡ true) × (a.calls.room ≡ 0) × AreSole (n + one_if (is_committed a.outcome)) rest last

-- after these attempts one ended so, without its commit
pub record EndsWith (past : List Attempt) (n : ℕ) (outcome : Outcome) (r : Rows) : Type 0 where
  pub row : Attempt
  pub ended : r.ended ≡ past ++ row ∷ []
  pub first : IsFirstTry n row
  pub outcome_is : row.outcome ≡ outcome
  pub spent : row.calls.room ≡ 0

-- no step is waited for, and an irrevocable transaction alone holds the clock
abbrev pub IsIdle : Core → Type 0
IsIdle e = (e.waits ≡ None) × (e.holds ≡ e.irrevocable)

module _ {P : Type 0} (rules : Rules P) (max_commits deepest : ℕ) (base : List ℕ) (first : Between P) where
  -- after these attempts it goes on, at the first try of its block
  pub record IsOnWay (past : List Attempt) (n : ℕ) (r : Rows) (a : Actor P) : Type 0 where
    pub ended : r.ended ≡ past
    pub nth : a.run.nth ≡ 1
    pub current : (row : Attempt) → current_of (active_of a) (pending_of a) ≡ Some row → IsFirstTry n row

  -- after these attempts the next block goes irrevocable, and has not begun
  pub record IsKeptOut (past : List Attempt) (r : Rows) (a : Actor P) : Type 0 where
    pub ended : r.ended ≡ past
    pub before : Between P
    pub led : run_after rules deepest (bytes_at deepest base r.ended) (Some first) (of_thread a.run.thread r.ended) ≡ Some before
    pub start : Beginning P
    pub begins : begins_at rules deepest before ≡ Some start
    pub goes : start.props.goes_irrevocable ≡ true

  -- by how it ended, if it has
  abbrev pub StandsSole : Option End → List Attempt → ℕ → Rows → Actor P → Type 0
  StandsSole None past n r a = IsOnWay past n r a
  StandsSole (Some Finished) past n r a = IsOnWay past n r a × (rules.next_call a.run.player ≡ None) × IsIdle a.engine
  StandsSole (Some GaveUp) past n r a = (active_of a ≡ None) × (max_commits ≤ n) × (IsKeptOut past r a ⊎ EndsWith past n outcomes.Full r)
  StandsSole (Some NoMemory) past n r a = ((active_of a ≡ None) × ((r.ended ≡ past) ⊎ EndsWith past n outcomes.NoMemory r)) ⊎ ((a.engine.irrevocable ≡ true) × IsOnWay past n r a)

  pub record IsSole (clock : ℕ) (r : Rows) (a : Actor P) : Type 0 where
    pub past : List Attempt
    pub commit : AreSole 0 past (clock / 2)
    pub stands : StandsSole (ending_of a.status) past (clock / 2) r a
    pub seen : a.engine.holds ≡ false → a.engine.clock ≡ clock
