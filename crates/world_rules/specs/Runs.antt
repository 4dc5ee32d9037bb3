-- The run of an actor's player, as far as it has come.
use Rattle.std.specs.Prelude.{◌≡◌, ℕ, ◌<◌, ◌≤◌, ◌/◌, true, false, List, [], Some}
use Rattle.norec_core.specs.Core.{Core, in_transaction, may_go}
use Rattle.tx_attempts.specs.declared.attempt.Attempt.{Attempt}
use Rattle.tx_runs.specs.declared.ending.End.TheVariants.{GaveUp, NoMemory}
use Rattle.world_rules.specs.Actor.{Actor}
use Rattle.tx_attempts.specs.Attempts.{of_thread}
use Rattle.tx_attempts.specs.Opacity.{Between, IsRunOf}
use Rattle.tx_runs.specs.OpenTries.{IsOpenTry}
use Rattle.tx_runs.specs.PlayerRuns.{stage_of}
use Rattle.tx_runs.specs.Runs.{IsBefore, begins_at, run_after}
use Rattle.tx_runs.specs.Tallies.{within}
use Rattle.tx_runs.specs.declared.savepoint.Savepoint.{Savepoint}
use Rattle.world_rules.specs.Cells.{Cells}
use Rattle.world_rules.specs.Records.{ReadsAt}
use Rattle.world_rules.specs.Rows.{Rows}
use Rattle.world_rules.specs.Stages.{active_of, pending_of}
use Rattle.world_rules.specs.Status.{ending_of}
use Rattle.world_rules.specs.Headline.{bytes_at}
use Rattle.world_rules.specs.Memories.{words_at}
use Rattle.world_rules.specs.LogAgreement.{Sees, AreLaid}
use Rattle.world_rules.specs.HeldAttempts.{IsHeld}
use Rattle.world_rules.specs.PlayerRooms.{ComesTo, EndsWithin, TellsRoom}
use Rattle.tx_player.specs.Rules.{Rules}

module _ {P : Type 0} (rules : Rules P) where
  -- the open attempt: the engine's, in which no begin of an outermost block is in progress; the words of its position are these
  pub record IsInTry (deepest : ℕ) (position : List ℕ) (b : Between P) (row : Attempt) (points : List Savepoint) (p : P) (e : Core) : Type 0 where
    pub open_try : IsOpenTry rules deepest position b row points p e
    pub anew : e.again ≡ false

  -- before the next one, with so many commits done; perhaps its begin was called
  pub record IsBeforeTry (deepest n : ℕ) (b : Between P) (a : Actor P) : Type 0 where
    pub before : IsBefore rules deepest b a.run.player a.engine.arena a.run.again a.run.nth
    pub pending : (row : Attempt) → pending_of a ≡ Some row
        → (row.began ≤ n) × (row.arena ≡ a.engine.arena) × (row.calls.list ≡ []) × (row.ran ≡ [])
        × (may_go [] row.props ≡ true → begins_at rules deepest b ≡ Some (record { player = a.run.player; arena = a.engine.arena; props = row.props })) × (a.engine.again ≡ b.again)
        × (row.restarts ≡ [])

  -- the actor's attempts are its player's run from here, over the memories of so many commits, and each saw what its player gets alone
  pub record IsRun (first : Between P) (deepest : ℕ) (base : List ℕ) (n : ℕ) (r : Rows) (a : Actor P) : Type 0 where
    pub run : IsRunOf rules deepest n (bytes_at deepest base r.ended) (Some first) (of_thread a.run.thread r.ended)
    pub inside : in_transaction a.engine ≡ true → (b : Between P) × (row : Attempt) × (run_after rules deepest (bytes_at deepest base r.ended) (Some first) (of_thread a.run.thread r.ended) ≡ Some b)
        × (points : List Savepoint) × (stage_of a.run.current ≡ within row points) × IsInTry deepest (words_at deepest base r.ended n) b row points a.run.player a.engine × (a.run.again ≡ true) × (row.nth ≡ a.run.nth)
    pub between : in_transaction a.engine ≡ false → (ending_of a.status ≡ Some GaveUp → ⊥) → (ending_of a.status ≡ Some NoMemory → ⊥)
        → (b : Between P) × (run_after rules deepest (bytes_at deepest base r.ended) (Some first) (of_thread a.run.thread r.ended) ≡ Some b) × IsBeforeTry deepest n b a

  -- the player has come from here; and if it tells its room truly, its irrevocable attempt has the room for all its calls that are still to come, and wants no memory
  pub record IsFed (p : P) (a : Actor P) : Type 0 where
    pub moves : ℕ
    pub comes : ComesTo rules moves p a.run.player
    pub blocks : (d : ℕ) → 1 < d → d ≤ rules.depth a.run.player → (n : ℕ) × ComesTo rules n p (rules.at_block a.run.player d)  -- also where it goes back to, as just after the begin of an inner block
    pub within : a.engine.irrevocable ≡ true → (row : Attempt) → active_of a ≡ Some row → EndsWithin rules row.calls.room a.run.player
    pub fed : ending_of a.status ≡ Some NoMemory → a.engine.irrevocable ≡ false

  pub record RunsFrom (first : Between P) (deepest : ℕ) (base : List ℕ) (cells : Cells) (r : Rows) (a : Actor P) : Type 0 where
    pub depth : a.engine.depth ≡ deepest
    pub runs : IsRun first deepest base (cells.clock / 2) r a
    pub sees : Sees (words_at deepest base r.ended) cells a.engine
    pub held : a.engine.irrevocable ≡ true → (row : Attempt) → active_of a ≡ Some row → IsHeld deepest (bytes_at deepest base r.ended (cells.clock / 2)) cells.words row a.engine
    pub starved : ending_of a.status ≡ Some NoMemory → a.engine.irrevocable ≡ false → in_transaction a.engine ≡ false
    pub reads : ReadsAt a
    pub fed : TellsRoom rules first.player → IsFed first.player a

  -- where the words were those of the commits, and the actor's attempts its player's run, they still are
  abbrev pub StillRuns : Cells → Rows → Actor P → Cells → Rows → Actor P → Type 0
  StillRuns cells r a cells' r' a' = (first : Between P) (deepest : ℕ) (base : List ℕ) → AreLaid deepest base cells r → RunsFrom first deepest base cells r a → AreLaid deepest base cells' r' × RunsFrom first deepest base cells' r' a'
