-- What a thread's whole run leaves.
use Rattle.std.specs.Prelude.{◌≡◌, ◌⊎◌, ℕ, ◌+◌, ◌≤◌, ◌++◌, ◌∷◌, [], Bool, true, false, List, None, Some, Result, Ok, Err, length}
use Rattle.shared_words.specs.declared.pass.Pass.{Pass}
use Rattle.shared_words.specs.declared.view.View.{View}
use Rattle.shared_words.specs.InGlobal.{Words}
use Rattle.shared_words.specs.Passes.{Owns, commits_known, view_of}
use Rattle.call_rules.specs.Standing.{Standing}
use Rattle.call_rules.specs.Ties.{Stands}
use Rattle.tx_attempts.specs.declared.attempt.Attempt.{Attempt}
use Rattle.tx_attempts.specs.declared.attempt.Outcome.TheVariants.{Unfinished}
use Rattle.tx_attempts.specs.Alone.{player_then}
use Rattle.tx_attempts.specs.Attempts.{alone}
use Rattle.tx_attempts.specs.Opacity.{Beginning, Between, begin_code}
use Rattle.tx_runs.specs.declared.ending.End.{End}
use Rattle.tx_runs.specs.declared.ending.End.TheVariants.{Finished, GaveUp, NoMemory}
use Rattle.tx_runs.specs.Runs.{begins_at}
use Rattle.tx_player.specs.Rules.{Rules}
use Rattle.worker_rules.specs.Worked.{Worked}
use Rattle.tx_runs.specs.Tallies.{stand_of}
use Rattle.worker_rules.specs.Accounts.{Account, first_account, told}
use Rattle.worker_rules.specs.Calls.{AllBegun, HasMade, IsBegunIn, StopsAt}
use Rattle.worker_rules.specs.Gates.{Gating, call_number}
use Rattle.worker_rules.specs.Positions.{AreFew, bytes_at, positions}
use Rattle.worker_rules.specs.Progress.{Course, HasRun, now_at}

-- the view at the end
abbrev pub view_left : Result Pass Standing → View
view_left (Ok pass) = view_of pass
view_left (Err thread) = view_of thread.pass

-- the words own the pass that comes back. It does not hold the clock, but for a thread whose transaction stays irrevocable
abbrev pub IsBack : Words → Result Pass Standing → Type 0
IsBack words (Ok pass) = Owns words pass × ((view_of pass).holds ≡ false)
IsBack words (Err thread) = Owns words thread.pass × (thread.engine.irrevocable ≡ true) × Stands (view_of thread.pass) thread.engine

-- what comes of a thread that is no longer wanted: its pass, which does not hold the clock, or the thread itself where its transaction stays irrevocable
abbrev pub Parts : Standing → Result Pass Standing → Type 0
Parts thread (Ok pass) = (pass ≡ thread.pass) × ((view_of pass).holds ≡ false)
Parts thread (Err left) = (left ≡ thread) × (thread.engine.irrevocable ≡ true)

abbrev pub is_held : Result Pass Standing → Bool
is_held (Ok pass) = false
is_held (Err thread) = true

-- an attempt that did not end is irrevocable, by its calls alone, just where this says so
abbrev pub AreHeld : ℕ → View → Bool → List Attempt → Type 0
AreHeld deepest v held [] = Unit {0}
AreHeld deepest v held (a ∷ rest) = (a.outcome ≡ Unfinished → (alone deepest (bytes_at v a.at) a).irrevocable ≡ held) × AreHeld deepest v held rest

-- the last attempt has not ended
abbrev pub EndsOpen : List Attempt → Type 0
EndsOpen attempts = (before : List Attempt) × (last : Attempt) × (attempts ≡ before ++ last ∷ []) × (last.outcome ≡ Unfinished)

-- a player with its thread, as it begins
abbrev pub course_of : {P : Type 0} → Standing → P → ℕ → ℕ → Course P
course_of start player number retries = record {
  view = view_of start.pass;
  number = number;
  retries = retries;
  restarts = start.engine.restarts;
  depth = start.engine.depth;
  known = commits_known (view_of start.pass);
  first = record { player = player; arena = start.engine.arena; again = false; tries = 0 };
}

module _ {P : Type 0} (rules : Rules P) where
  -- the run is over, and its player comes to no further block
  pub record IsOver (c : Course P) (v : View) (attempts : List Attempt) : Type 0 where
    pub between : Between P
    pub now_is : now_at rules c v attempts ≡ Some between
    pub none : begins_at rules c.depth between ≡ None

  -- or its player has no call left in the last attempt, whose block has not ended
  pub record IsOverWithin (c : Course P) (v : View) (attempts : List Attempt) : Type 0 where
    pub before : List Attempt
    pub last : Attempt
    pub attempts_are : attempts ≡ before ++ last ∷ []
    pub unfinished : last.outcome ≡ Unfinished
    pub between : Between P
    pub now_is : now_at rules c v before ≡ Some between
    pub start : Beginning P
    pub begins : begins_at rules c.depth between ≡ Some start
    pub none : rules.next_call (player_then rules.answered (rules.answered start.player (begin_code between.again)) last.calls.list) ≡ None

  -- it finished where its player had no more calls; it gave up where the gate may have been shut to its next call, as many commits as may be were done, or it had looked at the clock as often as there are tries
  abbrev pub EndsAs : Course P → ℕ → Bool → End → View → List Attempt → Type 0
  EndsAs c max_commits shuts Finished v attempts = IsOver c v attempts ⊎ IsOverWithin c v attempts
  EndsAs c max_commits shuts GaveUp v attempts = (shuts ≡ true) ⊎ (max_commits ≤ length v.seen) ⊎ (c.view.looks + (c.retries + 1) ≤ v.looks)
  EndsAs c max_commits shuts NoMemory v attempts = Unit {0}

  -- what a run of this course left
  pub record IsFinished (words : Words) (c : Course P) (max_commits : ℕ) (shuts : Bool) (w : Worked) : Type 0 where
    pub back : IsBack words w.pass
    pub runs : HasRun rules c (view_left w.pass) w.attempts  -- its attempts are the player's run, each opaque over the commits that were seen
    pub mine : (view_left w.pass).mine ≡ c.view.mine ++ positions w.attempts  -- just those that committed hold positions
    pub few : AreFew max_commits w.attempts  -- none commits beyond the limit
    pub held : AreHeld c.depth (view_left w.pass) (is_held w.pass) w.attempts
    pub kept : is_held w.pass ≡ true → EndsOpen w.attempts  -- a thread that stays irrevocable tells the attempt that holds the clock
    pub ends : EndsAs c max_commits shuts w.end (view_left w.pass) w.attempts

  -- the run as a row of calls, each with what came of it, and how it ended
  pub record IsRow (words : Words) (start : Standing) (player : P) (number retries : ℕ) (gate : Gating) (w : Worked) : Type 0 where
    pub calls : ℕ
    pub account : Account P
    pub standing : Standing
    pub made : HasMade words rules number retries gate calls (first_account player) start account standing
    pub left : Account P
    pub thread : Standing
    pub stops : StopsAt words rules number retries gate (call_number calls) w.end account standing left thread
    pub attempts : w.attempts ≡ told left (stand_of thread.engine)  -- just these attempts are told
    pub begun : AllBegun (IsBegunIn words rules number retries gate calls (first_account player) start account standing made) w.attempts  -- this follows: each began with just the commits that its thread knew of as its begin was called
    pub pass : Parts thread w.pass

  -- a player's run on a thread
  pub record Works (words : Words) (start : Standing) (player : P) (number retries : ℕ) (gate : Gating) (w : Worked) : Type 0 where
    pub number_is : w.thread ≡ number
    pub row : IsRow words start player number retries gate w
    pub finished : IsFinished words (course_of start player number retries) start.engine.max_commits (gate.shuts number (call_number row.calls)) w  -- this follows from it
