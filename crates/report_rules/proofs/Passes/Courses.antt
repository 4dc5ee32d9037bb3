-- A thread's course over more commits.
use Rattle.std.proofs.Common.{◌≡◌, inl, inr, ⊎_elim, ℕ, ◌≤◌, List, [], ◌∷◌, ◌++◌, Option, None, Some, subst, ◌∙◌}
use Rattle.report_rules.proofs.Common.{Attempt, Beginning, Between, End, EndsBy, Finished, GaveUp, Instruction, IsCourse, IsOver, IsOverWithin, IsRunOf, IsTryAt, Listing, NoMemory, Rules, Thread, after_try, begins_at, first_of, run_still, thread_rules}

-- the first attempts of a run are one
pub run_before : {P : Type 0} (rules : Rules P) (deepest n : ℕ) (memory : ℕ → List ℕ) (b : Option (Between P)) (xs ys : List Attempt) → IsRunOf rules deepest n memory b (xs ++ ys) → IsRunOf rules deepest n memory b xs
run_before rules deepest n memory b [] ys r = tt
run_before rules deepest n memory None (x ∷ xs) ys r = absurd r
run_before rules deepest n memory (Some b) (x ∷ xs) ys r = (r.0, run_before rules deepest n memory (after_try rules deepest memory b (begins_at rules deepest b) x) xs ys r.1)

-- an attempt of a run saw no more commits than there were
pub at_most : {P : Type 0} (rules : Rules P) (deepest n : ℕ) (memory : ℕ → List ℕ) (b : Between P) (o : Option (Beginning P)) (a : Attempt) → IsTryAt rules deepest n memory b o a → a.at ≤ n
at_most rules deepest n memory b None a t = absurd t
at_most rules deepest n memory b (Some start) a t = t.3.no_newer

module _ (deepest n n' : ℕ) (memory memory' : ℕ → List ℕ) (later : n ≤ n') (same : (k : ℕ) → k ≤ n → memory' k ≡ memory k) where
  over_still : (first : Between Thread) (xs : List Attempt) → IsRunOf thread_rules deepest n memory (Some first) xs → IsOver deepest memory first xs → IsOver deepest memory' first xs
  over_still first xs run o = record {
    between = o.between;
    now_is = (run_still thread_rules deepest n n' memory memory' later same (Some first) xs run).1 ∙ o.now_is;
    none = o.none;
  }

  within_still : (first : Between Thread) (xs : List Attempt) → IsRunOf thread_rules deepest n memory (Some first) xs → IsOverWithin deepest memory first xs → IsOverWithin deepest memory' first xs
  within_still first xs run o =
      let before = run_before thread_rules deepest n memory (Some first) o.before (o.last ∷ []) (subst (IsRunOf thread_rules deepest n memory (Some first)) o.attempts_are run) in
      record {
        before = o.before;
        last = o.last;
        attempts_are = o.attempts_are;
        unfinished = o.unfinished;
        between = o.between;
        now_is = (run_still thread_rules deepest n n' memory memory' later same (Some first) o.before before).1 ∙ o.now_is;
        start = o.start;
        begins = o.begins;
        none = o.none;
      }

  ends_still : (first : Between Thread) (end : End) (xs : List Attempt) → IsRunOf thread_rules deepest n memory (Some first) xs → EndsBy deepest memory first end xs → EndsBy deepest memory' first end xs
  ends_still first Finished xs run e = ⊎_elim (λ o. inl (over_still first xs run o)) (λ o. inr (within_still first xs run o)) e
  ends_still first GaveUp xs run e = tt
  ends_still first NoMemory xs run e = tt

module _ (p : Listing) (n n' : ℕ) (memory memory' : ℕ → List ℕ) (later : n ≤ n') (same : (k : ℕ) → k ≤ n → memory' k ≡ memory k) where
  pub course_still : (number : ℕ) (code : List Instruction) (end : End) (xs : List Attempt) → IsCourse p n memory number code end xs → IsCourse p n' memory' number code end xs
  course_still number code end xs c = record {
    run = (run_still thread_rules p.limits.depth n n' memory memory' later same (Some (first_of p code)) xs c.run).0;
    since = c.since;
    own = c.own;
    few = c.few;
    ends = ends_still p.limits.depth n n' memory memory' later same (first_of p code) end xs c.run c.ends;
  }
