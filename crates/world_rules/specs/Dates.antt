-- Which try of its block an attempt is, and when it began, by the attempts before it.
use Rattle.std.specs.Prelude.{◌≡◌, ℕ, ◌+◌, ◌<◌, ◌≤◌, ◌==◌, if◌then◌else◌, List, [], ◌∷◌, ◌++◌}
use Rattle.tx_attempts.specs.declared.attempt.Attempt.{Attempt}
use Rattle.tx_attempts.specs.declared.attempt.Outcome.{Outcome}
use Rattle.tx_attempts.specs.declared.attempt.Outcome.TheVariants.{Committed, ReadOnly, Cancelled, Conflict, Full, NoMemory, Unfinished}
use Rattle.tx_attempts.specs.Counts.{count_committed}

-- the attempt with these after it, or nothing where none of them is and it is not the thread's
abbrev pub led_by : ℕ → Attempt → List Attempt → List Attempt
led_by thread a [] = if a.thread == thread then a ∷ [] else []
led_by thread a (b ∷ rest) = a ∷ b ∷ rest

-- the attempts up to the thread's last one
abbrev pub up_to_last : ℕ → List Attempt → List Attempt
up_to_last thread [] = []
up_to_last thread (a ∷ rest) = led_by thread a (up_to_last thread rest)

-- the tries of the block that comes next, by an attempt that ended so: after a conflict it is the same block again
abbrev pub tried_by : Outcome → ℕ → ℕ
tried_by Committed nth = 0
tried_by ReadOnly nth = 0
tried_by Cancelled nth = 0
tried_by Conflict nth = nth
tried_by Full nth = 0
tried_by NoMemory nth = 0
tried_by Unfinished nth = 0

-- by the last of these
abbrev pub tried_in : List Attempt → ℕ
tried_in [] = 0
tried_in (a ∷ []) = tried_by a.outcome a.nth
tried_in (a ∷ b ∷ rest) = tried_in (b ∷ rest)

-- The attempt comes next after these. It begins in the event in which its thread's last one ends; a try that leaves no attempt may come between, and counts.
pub record IsDated (retries : ℕ) (before : List Attempt) (a : Attempt) : Type 0 where
  pub later : tried_in (up_to_last a.thread before) < a.nth
  pub few : a.nth ≤ retries + 1
  pub after : count_committed (up_to_last a.thread before) ≤ a.began  -- as many had committed as when its thread's last one had ended, or more
  pub by_now : a.began ≤ count_committed before
  pub at_once : a.nth ≡ tried_in (up_to_last a.thread before) + 1 → a.began ≡ count_committed (up_to_last a.thread before)  -- so many, where it is the very next try

-- each comes next after those before it, which begin with these
abbrev pub AreDated : ℕ → List Attempt → List Attempt → Type 0
AreDated retries before [] = Unit {0}
AreDated retries before (a ∷ rest) = IsDated retries before a × AreDated retries (before ++ a ∷ []) rest
