-- The history of a world is within the limits of a run.
use Rattle.std.proofs.Common.{ℕ, ◌+◌, ◌/◌, ◌<◌, ◌≤◌, All, List, [], ◌∷◌, ◌++◌, length, get_or, Some, arith}
use Rattle.world_laws.proofs.Common.{All-cons, All-nil, AreOfActors, AreOpaque, Attempt, Rules, Version, World, attempts_of, bytes_at, first_of, length-replicate, observed, of_thread, there_is, told_of}
use Rattle.tx_history.specs.Bounds.{AreLimited, HasArenaWidth, IsLimited}
use Rattle.tx_history.proofs.ToldRestarts.{may_tell}
use Rattle.tx_runs.specs.Restarts.{RestartAtMost}
use Rattle.world_rules.specs.Dates.{AreDated}
use Rattle.tx_history.proofs.Runs.LimitedRuns.{IsOwn, own_run}
use Rattle.world_laws.{specs.Limits.HasArenaWidths, specs.Limits.IsLimitedWorld, proofs.LegalHistories.EachThread.of_threads}

-- each is of an actor that there is
all_of_actors : (n : ℕ) (xs : List Attempt) → AreOfActors n xs → All (λ (a : Attempt). a.thread < n) xs
all_of_actors n [] of = All-nil (λ (a : Attempt). a.thread < n)
all_of_actors n (x ∷ xs) of = All-cons (λ (a : Attempt). a.thread < n) x xs of.0 (all_of_actors n xs of.1)

-- none is of more tries than there may be
all_few : (retries : ℕ) (before xs : List Attempt) → AreDated retries before xs → All (λ (a : Attempt). a.nth ≤ retries + 1) xs
all_few retries before [] d = All-nil (λ (a : Attempt). a.nth ≤ retries + 1)
all_few retries before (x ∷ xs) d = All-cons (λ (a : Attempt). a.nth ≤ retries + 1) x xs d.0.few (all_few retries (before ++ x ∷ []) xs d.1)

-- no more inner blocks of any ran again than may
each_restarts : (most : ℕ) (xs : List Attempt) → RestartAtMost most xs → All (λ (a : Attempt). length a.restarts ≤ most) xs
each_restarts most [] few = All-nil (λ (a : Attempt). length a.restarts ≤ most)
each_restarts most (x ∷ xs) few = All-cons (λ (a : Attempt). length a.restarts ≤ most) x xs few.0 (each_restarts most xs few.1)

module _ {P : Type 0} (rules : Rules P) (widths : HasArenaWidths rules) (version : Version) (w : World P) (opaque : AreOpaque rules (observed w)) where
  all_own : All (IsOwn HasArenaWidth w.arena) (attempts_of w)
  all_own = of_threads (IsOwn HasArenaWidth w.arena) (length w.opening) (attempts_of w) opaque.threads (λ thread l.
      (let p = there_is w.opening thread l in
      own_run rules HasArenaWidth widths w.limits.depth w.arena (w.cells.clock / 2) (bytes_at w.limits.depth w.base (attempts_of w)) (Some (first_of p.0 w.arena)) (of_thread thread (attempts_of w))
      (length-replicate w.arena 0) (opaque.runs thread p.0 p.1)))

  limited_by : IsLimitedWorld version w → (a : Attempt) → IsOwn HasArenaWidth w.arena a → a.thread < length w.opening → a.nth ≤ w.limits.retries + 1 → length a.restarts ≤ w.limits.restarts → IsLimited version a
  limited_by h a own of few again = record {
    thread = (let most = h.actors in omega arith);
    nth = (own.nth, (let most = h.retries in omega arith));
    arena = (let most = h.arena in let same = own.arena in omega arith);
    widths = own.calls;
    restarts = may_tell version w.limits.restarts a.restarts h.restarts again;
  }

  pub limited_world : IsLimitedWorld version w → AreLimited (told_of version w)
  limited_world h = record {
    memory = h.memory;
    attempts = λ k d l. limited_by h (get_or (attempts_of w) k d) (all_own k d l) (all_of_actors (length w.opening) (attempts_of w) opaque.threads k d l) (all_few w.limits.retries [] (attempts_of w) opaque.dated k d l) (each_restarts w.limits.restarts (attempts_of w) opaque.few k d l);
  }
