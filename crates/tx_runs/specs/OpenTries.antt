-- The open attempt of an engine: its calls are those of its player alone, over every memory that it may have read, and so they were as each of its open blocks began.
use Rattle.std.specs.Prelude.{◌≡◌, ℕ, suc, ◌+◌, ◌/◌, ◌<◌, ◌≤◌, Bool, true, false, List, [], ◌∷◌, ◌++◌, length, map, take}
use Rattle.itm_types.specs.declared.row.LogRow.{LogRow}
use Rattle.itm_types.specs.declared.call.Call.TheVariants.{Begin}
use Rattle.itm_types.specs.declared.call.Reply.TheVariants.{Code}
use Rattle.itm_types.specs.Memory.{bytes_of, IsMemory, Agrees}
use Rattle.write_set.specs.Rows.{overlay}
use Rattle.nest_frames.specs.Nest.{Frame}
use Rattle.itm_model.specs.State.{State}
use Rattle.itm_model.specs.Machine.{opened}
use Rattle.norec_core.specs.Core.{Core}
use Rattle.norec_core.specs.Stands.{blocks_over, is_some_row, stands_for}
use Rattle.tx_attempts.specs.declared.attempt.Attempt.{Attempt}
use Rattle.tx_attempts.specs.declared.attempt.CallRecord.{CallRecord}
use Rattle.tx_attempts.specs.Alone.{state_then, IsAlone}
use Rattle.tx_attempts.specs.Opacity.{Between, begin_code}
use Rattle.tx_attempts.specs.Restarts.{AreAgain, AtEach, before as earlier, breaks_in, breaks_of, count_undone}
use Rattle.tx_runs.specs.declared.savepoint.Savepoint.{Savepoint}
use Rattle.tx_runs.specs.OpenBegins.{IsAt}
use Rattle.tx_runs.specs.Runs.{IsOfBlock}
use Rattle.tx_runs.specs.Savepoints.{AreSavepoints, due_at}
use Rattle.tx_player.specs.Rules.{Rules}

-- the memory that an attempt reads may be this one: one that agrees with its log, or, of an irrevocable attempt, that of its position
abbrev pub ReadsFrom : Bool → List ℕ → List LogRow → List ℕ → Type 0
ReadsFrom false position log m = Agrees m log
ReadsFrom true position log m = m ≡ position

-- The plain state as this block began, which is what it goes back to, but for the arena, which is as it is now. So many actions had come to run by then.
abbrev pub state_under : Core → Frame → List Frame → ℕ → List ℕ → State
state_under e b outer due m = record {
  memory = bytes_of (overlay m b.rows);
  arena = e.arena;
  blocks = blocks_over outer e.arena m;
  actions = record { commits = take b.commits e.actions.commits; undos = take b.undos e.actions.undos; ran = take due e.actions.ran };
  wrote = is_some_row b.rows;
  irrevocable = false;
}

-- how many calls and told actions there are, and how many actions are registered
pub record Bounds : Type 0 where
  pub calls : ℕ
  pub told : ℕ
  pub commits : ℕ
  pub undos : ℕ

-- at the begin of a block
abbrev pub bounds_of : Frame → Savepoint → Bounds
bounds_of b s = record { calls = s.kept; told = s.ran; commits = b.commits; undos = b.undos }

-- now
abbrev pub bounds_now : Attempt → Core → Bounds
bounds_now row e = record { calls = suc (length row.calls.list); told = length row.ran; commits = length e.actions.commits; undos = length e.actions.undos }

-- the block began after fewer calls, and with no more actions told or registered
pub record IsWithin (most : Bounds) (b : Frame) (s : Savepoint) : Type 0 where
  pub calls : s.kept < most.calls
  pub told : s.ran ≤ most.told
  pub commits : b.commits ≤ most.commits
  pub undos : b.undos ≤ most.undos

module _ (deepest : ℕ) where
  -- where the attempt's first calls lead over these words, as it was for the engine, or as it is told
  abbrev pub whole_then : Attempt → List ℕ → List CallRecord → State
  whole_then row m calls = state_then deepest (breaks_in row.restarts) (opened (bytes_of m) row.arena row.props) calls

  abbrev pub told_then : Attempt → List ℕ → List CallRecord → State
  told_then row m calls = state_then deepest (breaks_of row.restarts) (opened (bytes_of m) row.arena row.props) calls

  -- after these calls the transaction may be tried again
  abbrev pub StaysRevocable : Attempt → List ℕ → List CallRecord → Type 0
  StaysRevocable row m calls = (told_then row m calls).irrevocable ≡ false

module _ {P : Type 0} (rules : Rules P) (deepest : ℕ) where
  -- the first calls are those of the player after the begin alone
  abbrev pub AreAlone : P → Attempt → List ℕ → List CallRecord → Type 0
  AreAlone by row m calls = IsAlone rules deepest (breaks_in row.restarts) by (opened (bytes_of m) row.arena row.props) calls

  -- an open inner block began at this call of the attempt; over every memory that agrees with the log as it was then, the calls before it led to what the block goes back to, and with it they are the player's alone
  pub record HasBegun (by : P) (row : Attempt) (e : Core) (b : Frame) (outer : List Frame) (s : Savepoint) : Type 0 where
    pub before : List CallRecord
    pub room : ℕ
    pub rest : List CallRecord
    pub calls : row.calls.list ≡ before ++ record { call = Begin b.props room; reply = Code 5 } ∷ rest
    pub kept : s.kept ≡ suc (length before)
    pub few : s.ran ≤ length row.ran
    pub stays : b.props.goes_irrevocable ≡ false
    pub sized : (m : List ℕ) → IsMemory e.words m → Agrees m (take b.reads e.log) → length (whole_then deepest row m before).arena ≡ length row.arena
    pub under : (m : List ℕ) → IsMemory e.words m → Agrees m (take b.reads e.log) → state_under e b outer (due_at s row.restarts) m ≡ record (whole_then deepest row m before) { arena = e.arena }
    pub told : (m : List ℕ) → IsMemory e.words m → Agrees m (take b.reads e.log) → take s.ran row.ran ≡ (told_then deepest row m before).actions.ran
    pub alone : (m : List ℕ) → IsMemory e.words m → Agrees m (take b.reads e.log) → AreAlone by row m (before ++ record { call = Begin b.props room; reply = Code 5 } ∷ [])
    pub revocable : (m : List ℕ) → IsMemory e.words m → Agrees m (take b.reads e.log) → AtEach (StaysRevocable deepest row m) before (earlier s.kept row.restarts)

  -- each inner block did, the innermost first, within these bounds; the outermost one began with the attempt
  abbrev pub HaveBegun : P → Attempt → Core → Bounds → List Frame → List Savepoint → Type 0
  HaveBegun by row e most [] points = points ≡ []
  HaveBegun by row e most (b ∷ []) points = points ≡ []
  HaveBegun by row e most (b ∷ p ∷ outer) [] = ⊥
  HaveBegun by row e most (b ∷ p ∷ outer) (s ∷ points) = HasBegun by row e b (p ∷ outer) s × IsWithin most b s × HaveBegun by row e (bounds_of b s) (p ∷ outer) points

  -- the player after the attempt's begin
  abbrev pub entered_by : {b : Between P} {row : Attempt} {p : P} → IsOfBlock rules deepest b row p → P
  entered_by {b = b} t = rules.answered t.start.player (begin_code b.again)

  -- the engine's open attempt, with these inner blocks; the words of its position are these
  pub record IsOpenTry (position : List ℕ) (b : Between P) (row : Attempt) (points : List Savepoint) (p : P) (e : Core) : Type 0 where
    pub of_block : IsOfBlock rules deepest b row p
    pub at : IsAt rules (entered_by of_block) row.calls.list p (map (λ (s : Savepoint). s.kept) points)
    pub began : row.began + length row.restarts ≤ e.snapshot / 2  -- later by a commit or more for each block that ran again
    pub sized : e.irrevocable ≡ false → length e.arena ≡ length row.arena
    pub alone : (m : List ℕ) → IsMemory e.words m → ReadsFrom e.irrevocable position e.log m → AreAlone (entered_by of_block) row m row.calls.list
    pub ran : (m : List ℕ) → IsMemory e.words m → ReadsFrom e.irrevocable position e.log m → row.ran ≡ (told_then deepest row m row.calls.list).actions.ran
    pub stands : e.irrevocable ≡ false → (m : List ℕ) → IsMemory e.words m → Agrees m e.log → stands_for e m ≡ whole_then deepest row m row.calls.list
    pub came : (m : List ℕ) → IsMemory e.words m → ReadsFrom e.irrevocable position e.log m → e.actions.ran ≡ (whole_then deepest row m row.calls.list).actions.ran  -- also in what was taken out
    pub due : length e.actions.ran ≡ length row.ran + count_undone row.restarts  -- all that came to run is told
    pub stand : AreAgain (length row.arena) 0 row.calls.list row.restarts
    pub revocable : (m : List ℕ) → IsMemory e.words m → ReadsFrom e.irrevocable position e.log m → AtEach (StaysRevocable deepest row m) row.calls.list row.restarts
    pub few : length row.restarts ≤ e.restarted
    pub points_are : AreSavepoints points row.calls.list
    pub blocks : e.irrevocable ≡ false → HaveBegun (entered_by of_block) row e (bounds_now row e) e.blocks points
