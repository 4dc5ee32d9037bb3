-- What a thread of a program did, by its code, its attempts and the bytes that the commits left.
use Rattle.std.specs.Prelude.{◌≡◌, ◌⊎◌, ℕ, ◌+◌, false, List, [], ◌∷◌, ◌++◌, replicate, None, Some}
use Rattle.script_program.specs.declared.instruction.Instruction.{Instruction}
use Rattle.script_program.specs.Listing.{Listing}
use Rattle.script_vm.specs.Threads.{Thread, opening, thread_rules}
use Rattle.tx_attempts.specs.declared.attempt.Attempt.{Attempt}
use Rattle.tx_attempts.specs.declared.attempt.Outcome.TheVariants.{Unfinished}
use Rattle.tx_attempts.specs.Alone.{player_then}
use Rattle.tx_attempts.specs.Opacity.{Beginning, Between, IsRunOf, begin_code}
use Rattle.tx_runs.specs.declared.ending.End.{End}
use Rattle.tx_runs.specs.declared.ending.End.TheVariants.{Finished, GaveUp, NoMemory}
use Rattle.tx_runs.specs.Restarts.{RestartAtMost}
use Rattle.tx_runs.specs.Runs.{begins_at, run_after}
use Rattle.worker_rules.specs.Positions.{AreOwn, AreSince}

-- a thread of the program, with this code, before its first try, with an arena of zeros
abbrev pub first_of : Listing → List Instruction → Between Thread
first_of p code = record { player = opening p.limits.depth code; arena = replicate p.arena 0; again = false; tries = 0 }

-- where `deepest` blocks may be open at once, and `memory` gives the bytes after so many first commits
module _ (deepest : ℕ) (memory : ℕ → List ℕ) (first : Between Thread) where
  -- the run is over, and its player comes to no further block
  pub record IsOver (attempts : List Attempt) : Type 0 where
    pub between : Between Thread
    pub now_is : run_after thread_rules deepest memory (Some first) attempts ≡ Some between
    pub none : begins_at thread_rules deepest between ≡ None

  -- or its player has no call left in the last attempt, whose block has not ended
  pub record IsOverWithin (attempts : List Attempt) : Type 0 where
    pub before : List Attempt
    pub last : Attempt
    pub attempts_are : attempts ≡ before ++ last ∷ []
    pub unfinished : last.outcome ≡ Unfinished
    pub between : Between Thread
    pub now_is : run_after thread_rules deepest memory (Some first) before ≡ Some between
    pub start : Beginning Thread
    pub begins : begins_at thread_rules deepest between ≡ Some start
    pub none : thread_rules.next_call (player_then thread_rules.answered (thread_rules.answered start.player (begin_code between.again)) last.calls.list) ≡ None

  -- a thread that finished had no more calls. At which call one gave up, no attempt tells: see `Rows`
  abbrev pub EndsBy : End → List Attempt → Type 0
  EndsBy Finished attempts = IsOver attempts ⊎ IsOverWithin attempts
  EndsBy GaveUp attempts = Unit {0}
  EndsBy NoMemory attempts = Unit {0}

-- the attempts of a thread of this program, with this number and code, where there were n commits
pub record IsCourse (p : Listing) (n : ℕ) (memory : ℕ → List ℕ) (number : ℕ) (code : List Instruction) (end : End) (attempts : List Attempt) : Type 0 where
  pub run : IsRunOf thread_rules p.limits.depth n memory (Some (first_of p code)) attempts  -- its code's run, in order, each of them opaque
  pub since : AreSince 0 attempts  -- each began with the commits that the one before it told of
  pub own : AreOwn number (p.limits.retries + 1) attempts  -- none is of another thread, or of more tries than there may be
  pub few : RestartAtMost p.limits.restarts attempts  -- none tells of more inner blocks that ran again
  pub ends : EndsBy p.limits.depth memory (first_of p code) end attempts
