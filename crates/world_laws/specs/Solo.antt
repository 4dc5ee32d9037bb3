-- A player with no other beside it: block after block, each on the bytes that those before left. Of a world with one player the headline implies it; it is stated by itself since it computes the whole, from the first begin to the end.
use Rattle.std.specs.Prelude.{ℕ, zero, suc, ◌+◌, ◌&&◌, Bool, true, false, nat_le, if◌then◌else◌, List, [], ◌∷◌, ◌++◌, map, option_map, Option, None, Some}
use Rattle.itm_types.specs.declared.call.Call.{Call}
use Rattle.itm_types.specs.Calls.{is_abort}
use Rattle.itm_types.specs.declared.call.Reply.{Reply}
use Rattle.itm_model.specs.State.{State}
use Rattle.itm_model.specs.Machine.{after, opened, is_open}
use Rattle.itm_model.specs.Runs.{answers, state_after}
use Rattle.tx_attempts.specs.Kept.{Kept, spent}
use Rattle.tx_attempts.specs.declared.attempt.CallRecord.{CallRecord}
use Rattle.tx_attempts.specs.declared.attempt.Attempt.{Attempt}
use Rattle.tx_attempts.specs.declared.attempt.Outcome.{Outcome}
use Rattle.tx_attempts.specs.declared.attempt.Outcome.TheVariants.{Committed, ReadOnly, Cancelled, Full, Unfinished}
use Rattle.tx_runs.specs.declared.ending.End.{End}
use Rattle.tx_runs.specs.declared.ending.End.TheVariants.{Finished, GaveUp}
use Rattle.tx_attempts.specs.Opacity.{Beginning, answered_all, begin_code, begin_of, ran_of, takes_clock}
use Rattle.tx_player.specs.Rules.{Rules}

-- a player between two blocks
pub record Progress (P : Type 0) : Type 0 where
  pub player : P
  pub arena : List ℕ
  pub memory : List ℕ
  pub commits : ℕ  -- writers that have committed

-- what a player has done when it has ended
pub record Solo : Type 0 where
  pub attempts : List Attempt
  pub memory : List ℕ
  pub commits : ℕ
  pub held : Bool  -- its last transaction is irrevocable and has not ended
  pub ending : End

-- a call with its reply, as attempts list them
abbrev pub entry_of : Call × Reply → CallRecord
entry_of c = record { call = c.0; reply = c.1 }

-- the attempt with no place promised for more calls
abbrev pub without_room : Attempt → Attempt
without_room a = record a { calls = spent a.calls }

-- one attempt, and then the rest
abbrev pub with_first : Attempt → Solo → Solo
with_first a s = record s { attempts = a ∷ s.attempts }

-- these attempts, and then the rest
abbrev pub with_all : List Attempt → Solo → Solo
with_all past s = record s { attempts = past ++ s.attempts }

-- the row of the block that begins so, with these calls
abbrev pub row_of : {P : Type 0} → ℕ → ℕ → Progress P → Beginning P → Kept → Outcome → Attempt
row_of deepest thread b start calls outcome = record {
  thread = thread;
  nth = 1;
  began = b.commits;
  at = b.commits;
  props = start.props;
  arena = start.arena;
  calls = calls;
  restarts = [];
  ran = ran_of outcome (state_after deepest (opened b.memory start.arena start.props) (map (λ (e : CallRecord). e.call) calls.list));
  outcome = outcome;
}

-- of these calls with their replies, from this state on, those before the first one that takes the clock, if one does
abbrev pub before_taking : ℕ → State → List (Call × Reply) → Option (List (Call × Reply))
before_taking deepest s [] = None
before_taking deepest s (c ∷ rest) = (let t = after deepest s c.0 in if takes_clock t then Some [] else option_map (λ before. c ∷ before) (before_taking deepest t rest))

abbrev pub one_if : Bool → ℕ
one_if true = 1
one_if false = 0

-- the last of these calls is an abort
abbrev pub aborts : List (Call × Reply) → Bool
aborts [] = false
aborts (c ∷ []) = is_abort c.0
aborts (c ∷ d ∷ rest) = aborts (d ∷ rest)

-- it was cancelled, or committed, and then wrote or only read
abbrev pub ended_as : Bool → Bool → Outcome
ended_as true wrote = Cancelled
ended_as false true = Committed
ended_as false false = ReadOnly

module _ {P : Type 0} (rules : Rules P) (deepest max_commits thread : ℕ) where
  -- the row of the block, with these calls, and no room for more
  abbrev pub the_attempt : Progress P → Beginning P → List (Call × Reply) → Outcome → Attempt
  the_attempt b start pairs outcome = row_of deepest thread b start (record { list = map entry_of pairs; room = 0 }) outcome

  -- the player after these replies
  abbrev pub player_after : P → List (Call × Reply) → P
  player_after p pairs = answered_all rules.answered p (map (λ c. c.1) pairs)

  -- after the block
  abbrev pub passed : Progress P → P → List (Call × Reply) → State → Progress P
  passed b p pairs s = record { player = player_after p pairs; arena = s.arena; memory = s.memory; commits = b.commits + one_if s.wrote }

  -- the player goes no further
  abbrev pub stopped : Progress P → End → Solo
  stopped b ending = record { attempts = []; memory = b.memory; commits = b.commits; held = false; ending = ending }

  -- and leaves a block open, in this state: what an irrevocable transaction has written is there
  abbrev pub left_open : Progress P → State → Solo
  left_open b s = record { attempts = []; memory = if s.irrevocable then s.memory else b.memory; commits = b.commits; held = s.irrevocable; ending = Finished }

  -- one block: its player after the begin is p, its calls with their replies are these, and s is the state after them
  abbrev pub block_then : (Progress P → Solo) → Progress P → Beginning P → P → List (Call × Reply) → State → Solo
  block_then rest b start p pairs s =
      if is_open s then with_first (the_attempt b start pairs Unfinished) (left_open b s)
      else with_first (the_attempt b start pairs (ended_as (aborts pairs) s.wrote)) (rest (passed b p pairs s))

  -- where as many have committed as may, it ends before the first call that takes the clock
  abbrev pub limited_then : (Progress P → Solo) → Progress P → Beginning P → P → List (Call × Reply) → State → Option (List (Call × Reply)) → Solo
  limited_then rest b start p pairs s None = block_then rest b start p pairs s
  limited_then rest b start p pairs s (Some before) = with_first (the_attempt b start before Full) (stopped b GaveUp)

  abbrev pub within_limit : (Progress P → Solo) → Progress P → Beginning P → P → List (Call × Reply) → Solo
  within_limit rest b start p pairs =
      let s = opened b.memory start.arena start.props in
      limited_then rest b start p pairs (state_after deepest s (map (λ c. c.0) pairs)) (if nat_le max_commits b.commits then before_taking deepest s pairs else None)

  -- the block that begins here, and then the rest: one that goes irrevocable begins only where one more may commit
  abbrev pub begun_then : (Progress P → Solo) → Progress P → Option (Beginning P) → Solo
  begun_then rest b None = stopped b Finished
  begun_then rest b (Some start) =
      if start.props.goes_irrevocable && nat_le max_commits b.commits then stopped b GaveUp
      else (let p = rules.answered start.player (begin_code false) in within_limit rest b start p (answers rules.next_call rules.answered rules.calls_left deepest p b.memory start.arena start.props))

  -- the player's blocks, at most so many
  abbrev pub solo_within : ℕ → Progress P → Solo
  solo_within zero b = stopped b Finished
  solo_within (suc n) b = begun_then (solo_within n) b (begin_of rules deepest b.player b.arena)

  -- all that the player does alone on these bytes
  abbrev pub solo : P → List ℕ → List ℕ → Solo
  solo p memory arena = solo_within (rules.calls_left p) (record { player = p; arena = arena; memory = memory; commits = 0 })
