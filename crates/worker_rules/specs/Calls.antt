-- A player's run on a thread as a row of calls, each with its answer and with what the answer made of the run.
use Rattle.std.specs.Prelude.{◌≡◌, ◌⊎◌, ℕ, zero, suc, Bool, true, false, List, [], ◌∷◌, ◌++◌, Option, None, Some, unwrap_or}
use Rattle.itm_types.specs.Calls.{is_begin}
use Rattle.itm_types.specs.declared.call.Call.{Call}
use Rattle.itm_types.specs.declared.call.Call.TheVariants.{Begin}
use Rattle.norec_core.specs.declared.answer.Answer.{Answer}
use Rattle.norec_core.specs.Core.{irrevocable_room}
use Rattle.norec_core.specs.Undoing.{after_undoing}
use Rattle.shared_words.specs.InGlobal.{Words}
use Rattle.shared_words.specs.Passes.{commits_known, view_of}
use Rattle.call_rules.specs.CallResults.{IsAnswered}
use Rattle.call_rules.specs.Standing.{Standing, start_of}
use Rattle.tx_attempts.specs.declared.attempt.Attempt.{Attempt}
use Rattle.tx_attempts.specs.declared.attempt.Outcome.TheVariants as outcomes
use Rattle.tx_player.specs.Rules.{Rules}
use Rattle.tx_runs.specs.declared.ending.End.{End}
use Rattle.tx_runs.specs.declared.ending.End.TheVariants.{Finished, GaveUp, NoMemory}
use Rattle.tx_runs.specs.declared.savepoint.Savepoint.{Savepoint}
use Rattle.tx_runs.specs.Tallies.{outside, within, Tally, begins_again, begun, came, over_as, took_in, stand_of}
use Rattle.worker_rules.specs.Accounts.{Account, account_after, tally_in}
use Rattle.worker_rules.specs.Gates.{Gating, IsLet, call_number}

-- an attempt as its begin was called
abbrev pub as_begun : Attempt → Attempt
as_begun x = begun x.thread x.nth x.began x.props x.arena 0

-- P holds of each attempt as its begin was called
abbrev pub AllBegun : (Attempt → Type 0) → List Attempt → Type 0
AllBegun P [] = Unit {0}
AllBegun P (x ∷ rest) = P (as_begun x) × AllBegun P rest

module _ {P : Type 0} (rules : Rules P) where
  -- memory was refused to the player's next call, which begins a block where none is open. What was open is given up, unless it is irrevocable
  pub record IsStarved (a : Account P) (s : Standing) (a' : Account P) (s' : Standing) : Type 0 where
    pub call : Call
    pub asks : rules.next_call a.player ≡ Some call
    pub begins : a.stage ≡ outside → is_begin call ≡ true
    pub used : s.engine.irrevocable ≡ true → (row : Attempt) (points : List Savepoint) → a.stage ≡ within row points → row.calls.room ≡ 0  -- an irrevocable attempt has used up the room that it asked for
    pub pass : s'.pass ≡ s.pass
    pub engine : s'.engine ≡ after_undoing s.engine
    pub held : s.engine.irrevocable ≡ true → a' ≡ a
    pub over : s.engine.irrevocable ≡ false → a' ≡ record a { stage = outside; ended = a.ended ++ over_as outcomes.NoMemory (stand_of s'.engine) a.stage }

  -- the gate is shut to the player's next call, which an irrevocable transaction makes without asking
  pub record IsShut (shuts : Bool) (a : Account P) (s : Standing) (a' : Account P) (s' : Standing) : Type 0 where
    pub call : Call
    pub asks : rules.next_call a.player ≡ Some call
    pub may : shuts ≡ true
    pub free : s.engine.irrevocable ≡ false
    pub account : a' ≡ a
    pub thread : s' ≡ s

  -- the player's next call began the attempt: no block was open, and it begins with just as many commits as the thread's pass knew of, in this try of its block and with the thread's arena
  pub record IsBegunBy (number : ℕ) (a : Account P) (s : Standing) (x : Attempt) : Type 0 where
    pub stage : a.stage ≡ outside
    pub room : ℕ
    pub asks : rules.next_call a.player ≡ Some (Begin x.props room)
    pub is : x ≡ begun number a.nth (commits_known (view_of s.pass)) x.props s.engine.arena 0

module _ {P : Type 0} (words : Words) (rules : Rules P) (number retries : ℕ) where
  -- the tally as its call comes to this thread: an attempt begins with the commits that its pass knows of
  abbrev pub asked : Standing → Account P → Call → Tally P
  asked s a call = came number (commits_known (view_of s.pass)) s.engine.arena (unwrap_or (irrevocable_room s.engine call) 0) (tally_in a) call

  -- the player's next call was made on the thread, and this came of its answer: the run goes on, or is over
  pub record IsMade (a : Account P) (s : Standing) (end : Option End) (a' : Account P) (s' : Standing) : Type 0 where
    pub call : Call
    pub asks : rules.next_call a.player ≡ Some call
    pub answer : Answer
    pub answered : IsAnswered words (start_of s call (begins_again a.stage a.again call)) answer s'.pass s'.engine
    pub account : a' ≡ account_after a (took_in rules retries (asked s a call) call answer (stand_of s'.engine))
    pub end_is : (took_in rules retries (asked s a call) call answer (stand_of s'.engine)).end ≡ end

  -- so many calls were made, each let through by the gate, and none of which ended the run
  abbrev pub HasMade : Gating → ℕ → Account P → Standing → Account P → Standing → Type 0
  HasMade gate zero a s a' s' = (a' ≡ a) × (s' ≡ s)
  HasMade gate (suc n) a s a' s' = (last : Account P) × (then : Standing) × HasMade gate n a s last then × IsMade last then None a' s' × IsLet gate number (call_number n) then

  -- one of these calls began the attempt
  abbrev pub IsBegunIn : (gate : Gating) (n : ℕ) (a : Account P) (s : Standing) (a' : Account P) (s' : Standing) → HasMade gate n a s a' s' → Attempt → Type 0
  IsBegunIn gate zero a s a' s' made x = ⊥
  IsBegunIn gate (suc n) a s a' s' made x = IsBegunBy rules number made.0 made.1 x ⊎ IsBegunIn gate n a s made.0 made.1 made.2 x

  -- how the run ends where the player stands like this: it has no more calls; the gate is shut; an answer ends it; memory was refused
  abbrev pub StopsAs : Bool → End → Account P → Standing → Account P → Standing → Type 0
  StopsAs shuts Finished a s a' s' = (rules.next_call a.player ≡ None) × (a' ≡ a) × (s' ≡ s)
  StopsAs shuts GaveUp a s a' s' = IsShut rules shuts a s a' s' ⊎ IsMade a s (Some GaveUp) a' s'
  StopsAs shuts NoMemory a s a' s' = IsStarved rules a s a' s'

  -- the same at the call with this number: the gate shuts to it, or it was let through
  abbrev pub StopsAt : Gating → ℕ → End → Account P → Standing → Account P → Standing → Type 0
  StopsAt gate call Finished a s a' s' = (rules.next_call a.player ≡ None) × (a' ≡ a) × (s' ≡ s)
  StopsAt gate call GaveUp a s a' s' = IsShut rules (gate.shuts number call) a s a' s' ⊎ (IsMade a s (Some GaveUp) a' s' × IsLet gate number call s)
  StopsAt gate call NoMemory a s a' s' = IsStarved rules a s a' s' × IsLet gate number call s
