-- What makes the history of a run legal.
use Rattle.std.proofs.Common.{◌≡◌, ℕ, ◌+◌, ◌≤◌, Bool, false, ◌&&◌, All, List, [], ◌∷◌, ◌++◌, length, Option, None, Some, refl, ap, ◌∙◌, arith}
use Rattle.report_rules.proofs.Common.{All-append, All-nil, AreHeld, Attempt, Between, Did, Done, Gating, IsPlaced, IsRunOf, Listing, Numbered, Thread, Unfinished, View, Words, after_try, alone, attempts_in, begins_at, bytes_at, code_of, count_holding, depth_of, first_of, is_holding, is_unfinished, memory_at, of_run, one_where, thread_rules}
use Rattle.tx_attempts.specs.declared.attempt.Outcome.{Outcome}
use Rattle.tx_history.specs.declared.history.History.{History}
use Rattle.report_rules.{proofs.Passes.Courses.at_most, proofs.Histories.ThreadAttempts.all_of}

holding_both : (h : History) (xs ys : List Attempt) → count_holding h (xs ++ ys) ≡ count_holding h xs + count_holding h ys
holding_both h [] ys = (let e : count_holding h ys ≡ 0 + count_holding h ys = omega arith in e)
holding_both h (x ∷ xs) ys = (let e = holding_both h xs ys in omega arith)

holds_not : (o : Outcome) (irrevocable : Bool) → (o ≡ Unfinished → irrevocable ≡ false) → one_where (is_unfinished o && irrevocable) ≡ 0
holds_not Unfinished b n = ap one_where (n refl)
holds_not o b n = refl

-- each attempt is one alone on the memory of its position
pub all_placed : (words : Words) (p : Listing) (gate : Gating) (v : View) (n : ℕ) (ds : List Done) → Numbered (Did words p gate v) n ds → All (IsPlaced thread_rules p.limits.depth (length v.seen) (bytes_at v)) (attempts_in ds)
all_placed words p gate v =
    let Q : Attempt → Type 0 = IsPlaced thread_rules p.limits.depth (length v.seen) (bytes_at v) in
    all_of words p gate v (All Q) (All-nil Q) (All-append Q) (λ n d t. of_run thread_rules p.limits.depth (length v.seen) (bytes_at v) (Some (first_of p (code_of p n))) d.attempts t.course.run)

module _ (words : Words) (p : Listing) (gate : Gating) (h : History) (v : View) (same : (k : ℕ) → k ≤ length v.seen → memory_at h k ≡ bytes_at v k) (allows : depth_of h.version ≡ p.limits.depth) where
  none_holds : (b : Option (Between Thread)) (xs : List Attempt) → IsRunOf thread_rules p.limits.depth (length v.seen) (bytes_at v) b xs → AreHeld p.limits.depth v false xs → count_holding h xs ≡ 0
  none_holds b [] run held = refl
  none_holds None (x ∷ xs) run held = absurd run
  none_holds (Some b) (x ∷ xs) run held =
      let few : x.at ≤ length v.seen = at_most thread_rules p.limits.depth (length v.seen) (bytes_at v) b (begins_at thread_rules p.limits.depth b) x run.0 in
      let first : one_where (is_holding h x) ≡ 0 =
      holds_not x.outcome (alone (depth_of h.version) (memory_at h x.at) x).irrevocable (λ e. (λ i. (alone (allows i) (same x.at few i) x).irrevocable) ∙ held.0 e) in
      let rest = none_holds (after_try thread_rules p.limits.depth (bytes_at v) b (begins_at thread_rules p.limits.depth b) x) xs run.1 held.1 in
      omega arith

  -- none holds the clock
  pub all_free : (n : ℕ) (ds : List Done) → Numbered (Did words p gate v) n ds → count_holding h (attempts_in ds) ≡ 0
  all_free =
      all_of words p gate v (λ (xs : List Attempt). count_holding h xs ≡ 0) refl (λ xs ys first rest. (let both = holding_both h xs ys in omega arith))
      (λ n d t. none_holds (Some (first_of p (code_of p n))) d.attempts t.course.run t.held)
