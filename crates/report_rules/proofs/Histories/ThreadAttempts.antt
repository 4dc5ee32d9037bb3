-- The attempts of all workers, by thread.
use Rattle.std.proofs.Common.{◌≡◌, ◌≢◌, ℕ, zero, suc, ◌+◌, ◌<◌, ◌≤◌, Bool, if◌then◌else◌, List, [], ◌∷◌, ◌++◌, length, Some, slice_get, sym, refl, ap, ◌∙◌, subst, arith, append-nil, eq-eqb}
use Rattle.report_rules.proofs.Common.{AreDisturbed, AreFew, AreLeft, AreOutrun, AreOwn, Attempt, Did, Done, End, Gating, Listing, Numbered, View, Words, attempts_in, by_number, bytes_at, code_of, ends_in, first_of, ne_eqb, of_thread, of_thread_more, outrun_both, outrun_none, thread_rules}
use Rattle.tx_attempts.proofs.DisturbedRuns.{disturbed_both, disturbed_none, disturbed_run}
use Rattle.report_rules.proofs.Histories.CommitPositions.{few_both, left_both}

-- ## A worker's own

own_all : (thread tries : ℕ) (xs : List Attempt) → AreOwn thread tries xs → of_thread thread xs ≡ xs
own_all thread tries [] own = refl
own_all thread tries (x ∷ xs) own = ap (λ (b : Bool). if b then x ∷ of_thread thread xs else of_thread thread xs) (eq-eqb x.thread thread own.0) ∙ ap (λ (l : List Attempt). x ∷ l) (own_all thread tries xs own.2)

own_none : (thread other tries : ℕ) (xs : List Attempt) → AreOwn thread tries xs → thread ≢ other → of_thread other xs ≡ []
own_none thread other tries [] own apart = refl
own_none thread other tries (x ∷ xs) own apart =
    ap (λ (b : Bool). if b then x ∷ of_thread other xs else of_thread other xs) (ne_eqb x.thread other (λ e. apart (sym own.0 ∙ e))) ∙ own_none thread other tries xs own.2 apart

-- ## All workers

module _ (words : Words) (p : Listing) (gate : Gating) (v : View) where
  -- none is of an earlier thread
  none_before : (n other : ℕ) (ds : List Done) → Numbered (Did words p gate v) n ds → other < n → of_thread other (attempts_in ds) ≡ []
  none_before n other [] t l = refl
  none_before n other (d ∷ ds) t l =
      of_thread_more other d.attempts (attempts_in ds)
      ∙ (λ i. own_none n other (p.limits.retries + 1) d.attempts t.0.course.own (λ e. (omega arith)) i ++ none_before (n + 1) other ds t.1 (omega arith) i)

  -- those of the worker with this number
  own_there : (n i : ℕ) (ds : List Done) → Numbered (Did words p gate v) n ds → (end : End) → slice_get (ends_in ds) i ≡ Some end → (d : Done) × Did words p gate v (n + i) d × (d.end ≡ end) × (of_thread (n + i) (attempts_in ds) ≡ d.attempts)
  own_there n i [] t end e = absurd (cc)
  own_there n zero (d ∷ ds) t end e =
      let same : n ≡ n + 0 = omega arith in (
        d,
        subst (λ k. Did words p gate v k d) same t.0,
        (let f : Some d.end ≡ Some end = e in cc),
        subst (λ k. of_thread k (d.attempts ++ attempts_in ds) ≡ d.attempts) same
            (of_thread_more n d.attempts (attempts_in ds)
            ∙ ((λ j. own_all n (p.limits.retries + 1) d.attempts t.0.course.own j ++ none_before (n + 1) n ds t.1 (omega arith) j) ∙ append-nil d.attempts)),
      )
  own_there n (suc i) (d ∷ ds) t end e =
      let r = own_there (n + 1) i ds t.1 end e in
      let same : (n + 1) + i ≡ n + suc i = omega arith in (
        r.0,
        subst (λ k. Did words p gate v k r.0) same r.1,
        r.2,
        of_thread_more (n + suc i) d.attempts (attempts_in ds)
            ∙ ((λ j. own_none n (n + suc i) (p.limits.retries + 1) d.attempts t.0.course.own (λ f. omega arith) j ++ of_thread (n + suc i) (attempts_in ds))
            ∙ subst (λ k. of_thread k (attempts_in ds) ≡ r.0.attempts) same r.3),
      )

  -- they stand by thread
  stand_by : (n : ℕ) (ds : List Done) (all : List Attempt) → Numbered (Did words p gate v) n ds → ((k : ℕ) → n ≤ k → of_thread k all ≡ of_thread k (attempts_in ds)) → attempts_in ds ≡ by_number n (length ds) all
  stand_by n [] all t same = refl
  stand_by n (d ∷ ds) all t same =
      let mine : of_thread n all ≡ d.attempts =
      same n (omega arith) ∙ (of_thread_more n d.attempts (attempts_in ds)
      ∙ ((λ j. own_all n (p.limits.retries + 1) d.attempts t.0.course.own j ++ none_before (n + 1) n ds t.1 (omega arith) j) ∙ append-nil d.attempts)) in
      let rest : attempts_in ds ≡ by_number (n + 1) (length ds) all =
      stand_by (n + 1) ds all t.1 (λ k l. same k (omega arith) ∙ (of_thread_more k d.attempts (attempts_in ds)
      ∙ (λ j. own_none n k (p.limits.retries + 1) d.attempts t.0.course.own (λ f. omega arith) j ++ of_thread k (attempts_in ds)))) in
      λ i. sym mine i ++ rest i

  pub all_stand : (ds : List Done) → Numbered (Did words p gate v) 0 ds → attempts_in ds ≡ by_number 0 (length ds) (attempts_in ds)
  all_stand ds t = stand_by 0 ds (attempts_in ds) t (λ k l. refl)

  pub all_own : (i : ℕ) (ds : List Done) → Numbered (Did words p gate v) 0 ds → (end : End) → slice_get (ends_in ds) i ≡ Some end → (d : Done) × Did words p gate v i d × (d.end ≡ end) × (of_thread i (attempts_in ds) ≡ d.attempts)
  all_own i ds t end e =
      let r = own_there 0 i ds t end e in
      let same : 0 + i ≡ i = omega arith in
      (r.0, subst (λ k. Did words p gate v k r.0) same r.1, r.2, subst (λ k. of_thread k (attempts_in ds) ≡ r.0.attempts) same r.3)

  -- what is so of each worker's is so of all
  pub all_of : (Q : List Attempt → Type 0) → Q [] → ((xs ys : List Attempt) → Q xs → Q ys → Q (xs ++ ys)) → ((n : ℕ) (d : Done) → Did words p gate v n d → Q d.attempts) → (n : ℕ) (ds : List Done) → Numbered (Did words p gate v) n ds → Q (attempts_in ds)
  all_of Q none both each n [] t = none
  all_of Q none both each n (d ∷ ds) t = both d.attempts (attempts_in ds) (each n d t.0) (all_of Q none both each (n + 1) ds t.1)

  pub all_left : (n : ℕ) (ds : List Done) → Numbered (Did words p gate v) n ds → AreLeft p.limits.depth v (attempts_in ds)
  all_left = all_of (AreLeft p.limits.depth v) tt (left_both p.limits.depth v) (λ n d t. t.left)

  pub all_few : (n : ℕ) (ds : List Done) → Numbered (Did words p gate v) n ds → AreFew p.limits.max_commits (attempts_in ds)
  all_few = all_of (AreFew p.limits.max_commits) tt (few_both p.limits.max_commits) (λ n d t. t.few)

  pub all_outrun : (n : ℕ) (ds : List Done) → Numbered (Did words p gate v) n ds → AreOutrun v.high (attempts_in ds)
  all_outrun = all_of (AreOutrun v.high) (outrun_none v.high) (outrun_both v.high) (λ n d t. t.outrun)

  pub all_disturbed : (n : ℕ) (ds : List Done) → Numbered (Did words p gate v) n ds → AreDisturbed (attempts_in ds)
  all_disturbed = all_of AreDisturbed disturbed_none disturbed_both (λ n d t. disturbed_run thread_rules p.limits.depth (length v.seen) (bytes_at v) (Some (first_of p (code_of p n))) d.attempts t.course.run)

pub ends_count : (ds : List Done) → length (ends_in ds) ≡ length ds
ends_count [] = refl
ends_count (d ∷ ds) = omega (arith, ends_count ds)
