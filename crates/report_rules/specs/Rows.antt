-- What a thread of a program did, call by call.
use Rattle.std.specs.Prelude.{◌≡◌, ◌⊎◌, ℕ, ◌<◌, ◌≤◌, ◌++◌, true, List, None, Some}
use Rattle.norec_core.specs.declared.answer.Answer.{Answer}
use Rattle.norec_core.specs.declared.answer.Answer.TheVariants.{Busy, Committed, Conflict, Full, Reply, Restarted}
use Rattle.shared_words.specs.declared.view.View.{View}
use Rattle.shared_words.specs.InGlobal.{Words}
use Rattle.shared_words.specs.Commits.{StartsWith}
use Rattle.script_program.specs.Listing.{Listing}
use Rattle.script_vm.specs.Threads.{Thread, thread_rules}
use Rattle.call_rules.specs.Standing.{Standing}
use Rattle.tx_attempts.specs.declared.attempt.Attempt.{Attempt}
use Rattle.tx_runs.specs.declared.ending.End.{End}
use Rattle.tx_runs.specs.declared.ending.End.TheVariants.{Finished, GaveUp, NoMemory}
use Rattle.worker_rules.specs.Worked.{Worked}
use Rattle.worker_rules.specs.Gates.{Gating, call_number}
use Rattle.worker_rules.specs.Accounts.{Account}
use Rattle.worker_rules.specs.Calls.{IsMade, IsShut}
use Rattle.worker_rules.specs.Works.{IsRow, is_held, view_left}
use Rattle.report_rules.specs.Fresh.{MayBegin}

-- after this answer to a call in the try `nth` of its block there is no further one: no commit more may be, or a conflict was found or the clock was held, and no try is left
abbrev pub IsLast : ℕ → ℕ → Answer → Type 0
IsLast retries nth (Reply reply) = ⊥
IsLast retries nth (Committed at wrote) = ⊥
IsLast retries nth (Conflict clock word) = retries < nth
IsLast retries nth (Restarted clock word) = ⊥
IsLast retries nth (Busy clock) = retries < nth
IsLast retries nth (Full at) = Unit {0}

-- it finished where its player had no more calls; it gave up where the gate was shut to its next call, or at the answer to its last call, after which there is no further try
abbrev pub EndsWhere : Words → ℕ → ℕ → Gating → ℕ → End → Account Thread → Standing → Account Thread → Standing → Type 0
EndsWhere words number retries gate call Finished a s a' s' = (thread_rules.next_call a.player ≡ None)
EndsWhere words number retries gate call GaveUp a s a' s' = IsShut thread_rules (gate.shuts number call) a s a' s' ⊎ ((last : IsMade words thread_rules number retries a s (Some GaveUp) a' s') × IsLast retries a.nth last.answer)
EndsWhere words number retries gate call NoMemory a s a' s' = Unit {0}

abbrev pub LiesIn : {A : Type 0} → List A → List A → Type 0
LiesIn {A} xs ys = (before after : List A) × (xs ≡ before ++ (ys ++ after))

-- the view v knows what u did: u saw a beginning of its commits, and no later clock; the words that u loaded and the positions of its own commits lie among those of v
pub record HasJoined (v u : View) : Type 0 where
  pub base : v.base ≡ u.base
  pub begins : StartsWith v.seen u.seen
  pub high : u.high ≤ v.high
  pub met : LiesIn v.met u.met
  pub mine : LiesIn v.mine u.mine

-- the thread of the program with this number made its calls, on a fresh thread over these words with the program's own limits, and this came of it
pub record MadeCalls (words : Words) (p : Listing) (base : List ℕ) (gate : Gating) (number : ℕ) (worked : Worked) : Type 0 where
  pub start : Standing
  pub player : Thread
  pub begins : MayBegin words p base number start player
  pub row : IsRow thread_rules words start player number p.limits.retries gate worked

-- one of the first n threads did, and its last transaction stays irrevocable and open
abbrev pub HeldAmong : Words → Listing → List ℕ → Gating → ℕ → Type 0
HeldAmong words p base gate n = (number : ℕ) × (worked : Worked) × (number < n) × MadeCalls words p base gate number worked × (is_held worked.pass ≡ true)

-- the thread with this number did, until it ended so, and its pass was joined to that of this view. Just these attempts are told of it
pub record WasRun (words : Words) (p : Listing) (v : View) (gate : Gating) (number : ℕ) (end : End) (attempts : List Attempt) : Type 0 where
  pub worked : Worked
  pub made : MadeCalls words p v.base gate number worked
  pub end_is : worked.end ≡ end
  pub attempts_are : worked.attempts ≡ attempts
  pub joined : HasJoined v (view_left worked.pass)
  pub why : EndsWhere words number p.limits.retries gate (call_number made.row.calls) end made.row.account made.row.standing made.row.left made.row.thread  -- this follows from it
