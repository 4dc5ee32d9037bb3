-- What a player that runs alone has done at some moment: its first blocks, and perhaps some calls of the next one. This is opacity where each attempt reads what all before it left.
use Rattle.std.specs.Prelude.{◌≡◌, ◌⊎◌, ℕ, ◌/◌, ◌%◌, ◌==◌, false, List, [], ◌∷◌, ◌++◌, map, Some}
use Rattle.itm_types.specs.Memory.{bytes_of}
use Rattle.itm_model.specs.Machine.{opened}
use Rattle.itm_model.specs.Runs.{unbroken}
use Rattle.tx_attempts.specs.declared.attempt.Attempt.{Attempt}
use Rattle.tx_attempts.specs.Kept.{Kept}
use Rattle.tx_attempts.specs.declared.attempt.Outcome.{Outcome}
use Rattle.tx_attempts.specs.declared.attempt.Outcome.TheVariants as outcomes
use Rattle.tx_runs.specs.declared.ending.End.{End}
use Rattle.tx_runs.specs.declared.ending.End.TheVariants.{Finished, GaveUp, NoMemory}
use Rattle.world_rules.specs.Headline.{bytes_at}
use Rattle.tx_attempts.specs.Opacity.{Beginning, begin_code, begin_of}
use Rattle.tx_attempts.specs.Alone.{IsAlone}
use Rattle.world_laws.specs.Solo.{Progress, row_of, with_all, without_room, solo, solo_within}
use Rattle.world_rules.specs.Cells.{Cells}
use Rattle.tx_player.specs.Rules.{Rules}

module _ {P : Type 0} (rules : Rules P) (deepest max_commits thread : ℕ) where
  -- the next block has begun: its row has these calls, which the player makes alone on the memory of its blocks before
  pub record IsBegun (b : Progress P) (past : List Attempt) (outcome : Outcome) (rows : List Attempt) : Type 0 where
    pub start : Beginning P
    pub calls : Kept
    pub rows_are : rows ≡ past ++ row_of deepest thread b start calls outcome ∷ []
    pub begins : begin_of rules deepest b.player b.arena ≡ Some start
    pub alone : IsAlone rules deepest unbroken (rules.answered start.player (begin_code false)) (opened b.memory start.arena start.props) calls.list
    pub spent : (outcome ≡ outcomes.Unfinished → ⊥) → calls.room ≡ 0  -- room for more is promised only while it has not ended

  -- the rows are those of its first blocks, which left this memory after so many commits, and of a block that ends so without its commit
  pub record IsSoFar (p0 : P) (base arena : List ℕ) (commits : ℕ) (memory : List ℕ) (outcome : Outcome) (rows : List Attempt) : Type 0 where
    pub before : Progress P  -- the player after its first blocks
    pub past : List Attempt
    pub whole : solo rules deepest max_commits thread p0 base arena ≡ with_all past (solo_within rules deepest max_commits thread (rules.calls_left before.player) before)
    pub commits_are : commits ≡ before.commits
    pub memory_is : memory ≡ before.memory
    pub left : memory ≡ bytes_at deepest base rows commits  -- what the commits of these rows left
    pub rows_are : (rows ≡ past) ⊎ IsBegun before past outcome rows

  -- all that it does, but the room that is left in its last attempt, if that has not ended: the clock is odd where its last transaction is irrevocable and has not ended
  abbrev pub IsAll : P → List ℕ → List ℕ → Cells → List Attempt → End → Type 0
  IsAll p0 base arena cells rows ending = solo rules deepest max_commits thread p0 base arena ≡ record { attempts = map without_room rows; memory = bytes_of cells.words; commits = cells.clock / 2; held = cells.clock % 2 == 1; ending = ending }

  -- memory was refused: to an irrevocable transaction, which is left unfinished, or elsewhere
  abbrev pub HasStarved : P → List ℕ → List ℕ → Cells → List Attempt → Type 0
  HasStarved p0 base arena cells rows =
      ((cells.clock % 2 ≡ 0) × IsSoFar p0 base arena (cells.clock / 2) (bytes_of cells.words) outcomes.NoMemory rows)
      ⊎ ((cells.clock % 2 ≡ 1) × ((memory : List ℕ) × IsSoFar p0 base arena (cells.clock / 2) memory outcomes.Unfinished rows))

  -- It has ended: all that it does is done, or, where memory was refused, a beginning of that.
  abbrev pub HasEnded : P → List ℕ → List ℕ → Cells → List Attempt → End → Type 0
  HasEnded p0 base arena cells rows Finished = IsAll p0 base arena cells rows Finished
  HasEnded p0 base arena cells rows GaveUp = IsAll p0 base arena cells rows GaveUp
  HasEnded p0 base arena cells rows NoMemory = HasStarved p0 base arena cells rows
