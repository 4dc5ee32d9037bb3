-- Which threads have a lane.
use Rattle.std.specs.Prelude.{ℕ, zero, suc, ◌+◌, ◌||◌, ◌==◌, Bool, false, if◌then◌else◌, List, [], ◌∷◌, ◌++◌}
use Rattle.tx_attempts.specs.declared.attempt.Attempt.{Attempt}
use Rattle.tx_history.specs.declared.history.History.{History}
use Rattle.tx_history.specs.Versions.{thread_limit}

-- one of these attempts is the thread's
abbrev pub has_thread : ℕ → List Attempt → Bool
has_thread thread [] = false
has_thread thread (a ∷ rest) = (a.thread == thread) || has_thread thread rest

-- the thread, if it has an attempt
abbrev pub one_thread : List Attempt → ℕ → List ℕ
one_thread attempts thread = if has_thread thread attempts then thread ∷ [] else []

-- those below a number that have one, in order
abbrev pub threads_below : List Attempt → ℕ → List ℕ
threads_below attempts zero = []
threads_below attempts (suc n) = threads_below attempts n ++ one_thread attempts n

-- the lanes of a history, one below the other
abbrev pub columns_of : History → List ℕ
columns_of h = threads_below h.attempts (thread_limit h.version + 1)
