-- The headline, of what a world shows its user: each attempt saw what its player gets alone on the bytes that some first commits left, and the bytes are those that all commits left. No word of engines, steps or schedules.
use Rattle.std.specs.Prelude.{◌≡◌, ℕ, ◌<◌, ◌/◌, ◌%◌, List, [], ◌∷◌, false, length, nat_lt, replicate, Some, slice_get}
use Rattle.itm_types.specs.declared.limits.Limits.{Limits}
use Rattle.tx_attempts.specs.declared.attempt.Attempt.{Attempt}
use Rattle.tx_attempts.specs.Attempts.{memory_after, of_thread}
use Rattle.tx_attempts.specs.Counts.{one_where, count_at, count_committed}
use Rattle.tx_player.specs.Rules.{Rules}
use Rattle.world_rules.specs.Dates.{AreDated}
use Rattle.tx_attempts.specs.Opacity.{Between, IsRunOf}
use Rattle.tx_attempts.specs.Outrun.{AreOutrun}
use Rattle.tx_runs.specs.Restarts.{RestartAtMost}

-- the bytes that the first commits left, each run alone on those that the one before it left, where `deepest` blocks may be open at once
abbrev pub bytes_at : ℕ → List ℕ → List Attempt → ℕ → List ℕ
bytes_at deepest base attempts k = memory_after deepest base attempts k

-- a player before its first try, with an arena of so many bytes
abbrev pub first_of : {P : Type 0} → P → ℕ → Between P
first_of player arena = record { player = player; arena = replicate arena 0; again = false; tries = 0 }

-- each is of one of so many actors
abbrev pub AreOfActors : ℕ → List Attempt → Type 0
AreOfActors actors [] = Unit {0}
AreOfActors actors (a ∷ rest) = (a.thread < actors) × AreOfActors actors rest

-- as many committed as half the clock says, each position below that once
pub record AreCounted (clock : ℕ) (attempts : List Attempt) : Type 0 where
  pub all : count_committed attempts ≡ clock / 2
  pub each : (position : ℕ) → count_at position attempts ≡ one_where (nat_lt position (clock / 2))

-- what is seen of a world from outside
pub record Observed (P : Type 0) : Type 0 where
  pub players : List P  -- as they were handed in
  pub base : List ℕ  -- the memory as it was handed in
  pub arena : ℕ  -- the bytes of each player's arena
  pub limits : Limits  -- of each player's transactions
  pub attempts : List Attempt  -- those that have ended, in the order in which they did, and then the open ones, by actor
  pub clock : ℕ
  pub bytes : List ℕ  -- the memory

module _ {P : Type 0} (rules : Rules P) where
  pub record AreOpaque (o : Observed P) : Type 0 where
    -- each player's attempts are its run, in order, and each of them is opaque
    pub runs : (place : ℕ) (p : P) → slice_get o.players place ≡ Some p
        → IsRunOf rules o.limits.depth (o.clock / 2) (bytes_at o.limits.depth o.base o.attempts) (Some (first_of p o.arena)) (of_thread place o.attempts)
    pub threads : AreOfActors (length o.players) o.attempts  -- there are no others
    pub counted : AreCounted o.clock o.attempts  -- the clock counts the commits
    pub outrun : AreOutrun o.clock o.attempts  -- it has moved on from where each conflict had read
    pub dated : AreDated o.limits.retries [] o.attempts  -- the attempts tell which try each is, and when it began
    pub few : RestartAtMost o.limits.restarts o.attempts  -- no attempt tells of more blocks that ran again than may
    pub size : length o.bytes ≡ length o.base
    pub free : o.clock % 2 ≡ 0 → o.bytes ≡ bytes_at o.limits.depth o.base o.attempts (o.clock / 2)  -- the bytes are those that all commits left, but while one of them is stored
