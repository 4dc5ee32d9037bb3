-- What the checker keeps of the attempts: where each position and each snapshot is found, and what a replay told.
use Rattle.std.specs.Prelude.{◌≡◌, ◌⊎◌, ℕ, suc, ◌+◌, ◌<◌, ◌≤◌, Bool, true, false, not, ◌&&◌, ◌||◌, ◌==◌, if◌then◌else◌, List, [], ◌∷◌, length, take, Option, None, Some}
use Rattle.std.proofs.Common.{get_or}
use Rattle.itm_model.specs.State.{State}
use Rattle.itm_model.specs.Machine.{undone}
use Rattle.itm_model.specs.Undoable.{Undoable}
use Rattle.tx_attempts.specs.declared.attempt.Attempt.{Attempt}
use Rattle.tx_attempts.specs.declared.attempt.Outcome.{Outcome}
use Rattle.tx_attempts.specs.declared.attempt.Outcome.TheVariants.{Committed, ReadOnly, Cancelled, Conflict, Full, NoMemory, Unfinished}
use Rattle.tx_attempts.specs.Attempts.{alone, is_at, is_committed}
use Rattle.tx_attempts.specs.Counts.{one_where}
use Rattle.tx_history.specs.declared.history.History.{History}
use Rattle.tx_history.specs.Legal.{is_unfinished, memory_at}
use Rattle.tx_history.specs.Versions.{depth_of}
use Rattle.history_checker.specs.declared.verdict.Fault.{Fault}
use Rattle.history_checker.specs.declared.verdict.Spot.{Spot}
use Rattle.history_checker.specs.declared.replays.Told.{Told}
use Rattle.history_checker.specs.Replays.{first_of, fault_in}
use Rattle.history_checker.specs.Verdicts.{at_place}

-- ## Places

-- the first one committed at this position, counted from a number on
abbrev pub first_at : ℕ → List Attempt → ℕ → Option ℕ
first_at i [] position = None
first_at i (a ∷ rest) position = if is_at position a then Some i else first_at (suc i) rest position

-- for each position below n where its attempt is among so many first ones
pub record AreSlots (n : ℕ) (attempts : List Attempt) (slots : List (Option ℕ)) : Type 0 where
  pub size : length slots ≡ n
  pub each : (k : ℕ) → k < n → get_or slots k None ≡ first_at 0 attempts k

-- it is not committed, and saw so many commits
abbrev pub is_other : ℕ → Attempt → Bool
is_other position a = not (is_committed a.outcome) && (a.at == position)

-- the last of those that are not committed and saw so many commits
abbrev pub last_other : ℕ → List Attempt → ℕ → Option ℕ
last_other i [] position = None
last_other i (a ∷ rest) position = first_of (last_other (suc i) rest position) (if is_other position a then Some i else None)

-- for each number of commits up to n the last one of c attempts that saw so many, and for each of these the one before it that saw as many
pub record AreLinks (n : ℕ) (attempts : List Attempt) (c : ℕ) (newest older : List (Option ℕ)) : Type 0 where
  pub size : length newest ≡ suc n
  pub as_many : length older ≡ c
  pub last : (k : ℕ) → k ≤ n → get_or newest k None ≡ last_other 0 (take c attempts) k
  pub before : (j : ℕ) (d : Attempt) → j < c → is_committed (get_or attempts j d).outcome ≡ false → get_or older j None ≡ last_other 0 (take j attempts) (get_or attempts j d).at

-- ## Replays

-- the state once what was given up is rolled back
abbrev pub ended : Outcome → State → State
ended Committed s = s
ended ReadOnly s = s
ended Cancelled s = s
ended Conflict s = undone s
ended Full s = undone s
ended NoMemory s = undone s
ended Unfinished s = s

-- with a fault nothing is told of the mode
abbrev pub unless_fault : Option Fault → Bool → Bool
unless_fault None holds = holds
unless_fault (Some fault) holds = false

-- what a replay on this memory tells
unfoldable pub told_on : ℕ → List ℕ → Attempt → Told
told_on deepest memory a = record {
  fault = fault_in deepest memory a;
  holds = unless_fault (fault_in deepest memory a) (is_unfinished a.outcome && (alone deepest memory a).irrevocable);
}

abbrev pub nothing_told : Told
nothing_told = record { fault = None; holds = false }

-- of committed ones nothing is told
abbrev pub told_of : History → Attempt → Told
told_of h a = if is_committed a.outcome then nothing_told else told_on (depth_of h.version) (memory_at h a.at) a

-- it needs no replay, or saw fewer commits, or as many and stands behind a place
abbrev pub IsTold : ℕ → ℕ → ℕ → Attempt → Type 0
IsTold k c j a = (is_committed a.outcome ≡ true) ⊎ ((a.at < k) ⊎ ((a.at ≡ k) × (c ≤ j)))

-- each attempt of which that holds is told
pub record AreTold (h : History) (k c : ℕ) (told : List Told) : Type 0 where
  pub size : length told ≡ length h.attempts
  pub each : (j : ℕ) (d : Attempt) → j < length h.attempts → IsTold k c j (get_or h.attempts j d) → get_or told j nothing_told ≡ told_of h (get_or h.attempts j d)

-- the machine's memory and its copy are both what so many first commits leave, and it takes as many open blocks as the history
pub record IsRest (h : History) (k : ℕ) (machine : Undoable) (copy : List ℕ) : Type 0 where
  pub memory : machine.state.memory ≡ memory_at h k
  pub base : copy ≡ memory_at h k
  pub depth : machine.deepest ≡ depth_of h.version

-- the first fault that is told, counted from a number on
abbrev pub told_fault : ℕ → List Told → Option Spot
told_fault i [] = None
told_fault i (t ∷ rest) = first_of (at_place i t.fault) (told_fault (suc i) rest)

-- how many hold the clock
abbrev pub told_holding : List Told → ℕ
told_holding [] = 0
told_holding (t ∷ rest) = one_where t.holds + told_holding rest

-- one that holds it stands elsewhere than at the last position
abbrev pub told_away : ℕ → List Attempt → List Told → Bool
told_away n [] told = false
told_away n (a ∷ rest) [] = false
told_away n (a ∷ rest) (t ∷ told) = (t.holds && not (a.at == n)) || told_away n rest told
