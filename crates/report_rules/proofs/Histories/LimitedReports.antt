-- The history of a run on threads is within the limits of a run, where its program is.
use Rattle.std.proofs.Common.{ℕ, zero, suc, ◌+◌, ◌<◌, ◌≤◌, All, List, [], ◌∷◌, length, Some, sym, subst, arith}
use Rattle.report_rules.proofs.Common.{All-append, All-cons, All-head, All-nil, All-tail, AreLimited, AreOwn, Attempt, Gating, HasArenaWidth, IsCourse, IsLimited, IsLimitedListing, IsMemorySize, Listing, MAX_ARENA, MAX_RETRIES, MayRestart, Ran, Report, RestartAtMost, Version, by_number, commits_of, first_of, memory_at, of_thread, there_is, thread_limit, thread_rules, threads_of, version_of}
use Rattle.std.proofs.lemmas.List.{length-replicate}
use Rattle.tx_history.{proofs.ToldRestarts.may_tell, proofs.Runs.LimitedRuns.IsOwn, proofs.Runs.LimitedRuns.own_run}
use Rattle.report_rules.proofs.Histories.ScriptWidths.{script_widths}

-- what is so of each thread's attempts is so of all
by_threads : (Q : Attempt → Type 0) (k n : ℕ) (all : List Attempt) → ((thread : ℕ) → thread < k + n → All Q (of_thread thread all)) → All Q (by_number k n all)
by_threads Q k zero all each = All-nil Q
by_threads Q k (suc n) all each = All-append Q (of_thread k all) (by_number (k + 1) n all) (each k (omega arith)) (by_threads Q (k + 1) n all (λ thread l. each thread (omega arith)))

-- the attempts of a thread with this number and so many tries of a block at most
limited_each : (version : Version) (thread tries k restarts : ℕ) → thread ≤ thread_limit version → tries ≤ MAX_RETRIES + 1 → k ≤ MAX_ARENA → (xs : List Attempt) → MayRestart version restarts → AreOwn thread tries xs → All (IsOwn HasArenaWidth k) xs → RestartAtMost restarts xs → All (IsLimited version) xs
limited_each version thread tries k restarts t n l [] told own all few = All-nil (IsLimited version)
limited_each version thread tries k restarts t n l (x ∷ xs) told own all few =
    All-cons (IsLimited version) x xs
    (let is : IsOwn HasArenaWidth k x = All-head (IsOwn HasArenaWidth k) x xs all in
    record {
      thread = subst (λ (m : ℕ). m ≤ thread_limit version) (sym own.0) t;
      nth = (is.nth, (let tried = own.1 in omega arith));
      arena = (let same = is.arena in omega arith);
      widths = is.calls;
      restarts = may_tell version restarts x.restarts told few.0;
    })
    (limited_each version thread tries k restarts t n l xs told own.2 (All-tail (IsOwn HasArenaWidth k) x xs all) few.1)

module _ (p : Listing) (gate : Gating) (r : Report) (ran : Ran gate p r) (limits : IsLimitedListing p) where
  limited_thread : (thread : ℕ) → thread < length (threads_of p) → All (IsLimited (version_of p)) (of_thread thread r.history.attempts)
  limited_thread thread l =
      let code = there_is (threads_of p) thread l in
      let end = there_is r.ends.items thread (subst (λ (n : ℕ). thread < n) (sym ran.count) l) in
      let course : IsCourse p (commits_of r) (memory_at r.history) thread code.0 end.0 (of_thread thread r.history.attempts) = ran.threads thread code.0 end.0 code.1 end.1 in
      limited_each (version_of p) thread (p.limits.retries + 1) p.arena p.limits.restarts (let few = limits.threads in omega arith) (let few = limits.retries in omega arith) limits.arena
      (of_thread thread r.history.attempts) limits.restarts course.own
      (own_run thread_rules HasArenaWidth script_widths p.limits.depth p.arena (commits_of r) (memory_at r.history) (Some (first_of p code.0)) (of_thread thread r.history.attempts) (length-replicate p.arena 0) course.run) course.few

  pub limited_report : AreLimited r.history
  limited_report = record {
    memory = subst (λ (v : Version). IsMemorySize v (length r.history.memory)) (sym ran.version) (subst (λ (bytes : List ℕ). IsMemorySize (version_of p) (length bytes)) (sym ran.memory) limits.memory);
    attempts = subst (λ (v : Version). All (IsLimited v) r.history.attempts) (sym ran.version)
        (subst (All (IsLimited (version_of p))) (sym ran.by_thread) (by_threads (IsLimited (version_of p)) 0 (length (threads_of p)) r.history.attempts (λ thread l. limited_thread thread (omega arith))));
  }
