-- What a worker did, as a later view has it.
use Rattle.std.proofs.Common.{◌≡◌, ⊎_elim, inl, inr, ℕ, Bool, false, true≢false, List, [], ◌∷◌, ◌++◌, length, arith, Option, None, Some, Result, Ok, Err, IfOk, refl, sym, ap, subst, ◌∙◌, append_assoc, append-nil}
use Rattle.report_rules.proofs.Common.{AreFew, AreHeld, AreLeft, AreSince, Attempt, Between, Did, Done, End, EndsAs, EndsBy, Finished, Gating, GaveUp, HasJoined, IsCourse, IsFinished, IsRunOf, Joined, LiesIn, Listing, MadeCalls, MayBegin, NoMemory, RestartAtMost, Standing, StartsWith, Thread, View, WasRun, Words, Worked, Works, after_try, alone, begins_at, bytes_at, call_number, code_of, commits_known, course_of, first_of, is_held, outrun_later, positions, thread_rules, view_left, view_of}
use Rattle.norec_core.specs.Core.{Core}
use Rattle.shared_words.{specs.declared.pass.Pass.Pass, proofs.ListPlaces.starts_self}
use Rattle.worker_rules.specs.Progress.{Course}
use Rattle.worker_rules.proofs.Runs.LaterCommits.{IsLater, all_left_in, bytes_in, seen_in}
use Rattle.report_rules.{proofs.Rows.ends_where, proofs.Passes.Courses.at_most, proofs.Passes.Courses.course_still}

-- ## A later view

held_later : (deepest : ℕ) (v w : View) → IsLater v w → (b : Option (Between Thread)) (xs : List Attempt) → IsRunOf thread_rules deepest (length v.seen) (bytes_at v) b xs → AreHeld deepest v false xs → AreHeld deepest w false xs
held_later deepest v w later b [] run h = tt
held_later deepest v w later None (x ∷ xs) run h = absurd run
held_later deepest v w later (Some b) (x ∷ xs) run h = (
  λ e. ap (λ (m : List ℕ). (alone deepest m x).irrevocable) (bytes_in v w later x.at (at_most thread_rules deepest (length v.seen) (bytes_at v) b (begins_at thread_rules deepest b) x run.0)) ∙ h.0 e,
  held_later deepest v w later (after_try thread_rules deepest (bytes_at v) b (begins_at thread_rules deepest b) x) xs run.1 h.1,
)

-- over the same memory
abbrev made_over : (words : Words) (p : Listing) (base same : List ℕ) (gate : Gating) (k : ℕ) (w : Worked) → base ≡ same → MadeCalls words p base gate k w → MadeCalls words p same gate k w
made_over words p base same gate k w is m = record { start = m.start; player = m.player; begins = subst (λ (b : List ℕ). MayBegin words p b k m.start m.player) is m.begins; row = m.row }

-- ## What the joined pass knows

lies_self : {A : Type 0} (xs : List A) → LiesIn xs xs
lies_self {A} xs = ([], [], sym (append-nil xs))

lies_on : {A : Type 0} (xs ys zs : List A) → LiesIn xs ys → LiesIn ys zs → LiesIn xs zs
lies_on {A} xs ys zs a b = (
  a.0 ++ b.0,
  b.1 ++ a.1,
  a.2 ∙ (ap (λ (l : List A). a.0 ++ (l ++ a.1)) b.2 ∙ regroup a.0 b.0 zs b.1 a.1),
)
  where
    regroup : (p q r s t : List A) → p ++ ((q ++ (r ++ s)) ++ t) ≡ (p ++ q) ++ (r ++ (s ++ t))
    regroup p q r s t = simp append_assoc

lies_first : {A : Type 0} (xs ys : List A) → LiesIn (xs ++ ys) xs
lies_first {A} xs ys = ([], ys, refl)

lies_last : {A : Type 0} (xs ys : List A) → LiesIn (xs ++ ys) ys
lies_last {A} xs ys = (xs, [], ap (λ (l : List A). xs ++ l) (sym (append-nil ys)))

pub joined_self : (v : View) → HasJoined v v
joined_self v = record { base = refl; begins = starts_self v.seen; high = omega arith; met = lies_self v.met; mine = lies_self v.mine }

pub joined_on : (w v u : View) → HasJoined w v → HasJoined v u → HasJoined w u
joined_on w v u a b = record {
  base = a.base ∙ b.base;
  begins = (b.begins.0 ++ a.begins.0, a.begins.1 ∙ (ap (λ (h : List (List (ℕ × ℕ))). h ++ a.begins.0) b.begins.1 ∙ append_assoc u.seen b.begins.0 a.begins.0));
  high = (let x = a.high in let y = b.high in omega arith);
  met = lies_on w.met v.met u.met a.met b.met;
  mine = lies_on w.mine v.mine u.mine a.mine b.mine;
}

was_later : (words : Words) (p : Listing) (v w : View) (gate : Gating) (k : ℕ) (end : End) (xs : List Attempt) → HasJoined w v → WasRun words p v gate k end xs → WasRun words p w gate k end xs
was_later words p v w gate k end xs j run = record {
  worked = run.worked;
  made = made_over words p v.base w.base gate k run.worked (sym j.base) run.made;
  end_is = run.end_is;
  attempts_are = run.attempts_are;
  joined = joined_on w v (view_left run.worked.pass) j run.joined;
  why = run.why;
}

pub did_later : (words : Words) (p : Listing) (gate : Gating) (v w : View) → HasJoined w v → (k : ℕ) (d : Done) → Did words p gate v k d → Did words p gate w k d
did_later words p gate v w joined k d did = let later : IsLater v w = record { base = joined.base; grows = joined.begins; high = joined.high } in record {
  course = course_still p (length v.seen) (length w.seen) (bytes_at v) (bytes_at w) (seen_in v w later) (bytes_in v w later) k (code_of p k) d.end d.attempts did.course;
  row = was_later words p v w gate k d.end d.attempts joined did.row;
  left = all_left_in p.limits.depth v w later d.attempts did.left;
  few = did.few;
  held = held_later p.limits.depth v w later (Some (first_of p (code_of p k))) d.attempts did.course.run did.held;
  outrun = outrun_later v.high w.high later.high d.attempts did.outrun;
}

-- of two views that are joined
pub joined_both : (v u w : View) → Joined v u w → v.base ≡ u.base → HasJoined w v × HasJoined w u
joined_both v u w j same =
    let grows : StartsWith w.seen v.seen × StartsWith w.seen u.seen =
    ⊎_elim
    (λ t. subst (λ (h : List (List (ℕ × ℕ))). StartsWith h v.seen × StartsWith h u.seen) (sym t.1) (starts_self v.seen, t.0))
    (λ t. subst (λ (h : List (List (ℕ × ℕ))). StartsWith h v.seen × StartsWith h u.seen) (sym t.1) (t.0, starts_self u.seen))
    j.longer in
    let high = j.high in (
      record {
        base = j.base;
        begins = grows.0;
        high = omega arith;
        met = subst (λ (l : List (ℕ × ℕ × ℕ)). LiesIn l v.met) (sym j.met) (lies_first v.met u.met);
        mine = subst (λ (l : List ℕ). LiesIn l v.mine) (sym j.mine) (lies_first v.mine u.mine);
      },
      record {
        base = j.base ∙ same;
        begins = grows.1;
        high = omega arith;
        met = subst (λ (l : List (ℕ × ℕ × ℕ)). LiesIn l u.met) (sym j.met) (lies_last v.met u.met);
        mine = subst (λ (l : List ℕ). LiesIn l u.mine) (sym j.mine) (lies_last v.mine u.mine);
      },
    )

-- a pass that came back was joined
pub joined_left : (v w : View) (back : Result Pass Standing) → is_held back ≡ false → IfOk back (λ q. Joined v (view_of q) w) → Joined v (view_left back) w
joined_left v w (Ok q) free j = j
joined_left v w (Err t) free j = absurd (true≢false free)

-- ## What a thread did

module _ (words : Words) (base : List ℕ) (p : Listing) (n : ℕ) (gate : Gating) (t : Standing) (player : Thread) (r : Worked) (is : MayBegin words p base n t player) (works : Works thread_rules words t player n p.limits.retries gate r) where
  abbrev left_view : View
  left_view = view_left r.pass

  abbrev course : Course Thread
  course = course_of t player n p.limits.retries

  -- whether the gate may shut out the call after those that were made
  abbrev may_shut : Bool
  may_shut = gate.shuts n (call_number works.row.calls)

  done : IsFinished thread_rules words course t.engine.max_commits may_shut r
  done = works.finished

  depth_is : course.depth ≡ p.limits.depth
  depth_is = ap (λ (e : Core). e.depth) is.fresh.engine_is

  first_is : course.first ≡ first_of p (code_of p n)
  first_is i = record { player = is.fresh.player_is i; arena = (is.fresh.engine_is i).arena; again = false; tries = 0 }

  pub its_base : left_view.base ≡ base
  its_base = done.runs.went.base ∙ ap (λ (z : View). z.base) is.fresh.pass_is

  pub its_share : left_view.share ≡ 1
  its_share = done.runs.went.share ∙ ap (λ (z : View). z.share) is.fresh.pass_is

  pub its_mine : left_view.mine ≡ positions r.attempts
  its_mine = done.mine ∙ ap (λ (z : View). z.mine ++ positions r.attempts) is.fresh.pass_is

  ends_by : (end : End) → EndsAs thread_rules course t.engine.max_commits may_shut end left_view r.attempts → EndsBy course.depth (bytes_at left_view) course.first end r.attempts
  ends_by Finished e = ⊎_elim
      (λ o. inl (record { between = o.between; now_is = o.now_is; none = o.none }))
      (λ o. inr (record {
        before = o.before;
        last = o.last;
        attempts_are = o.attempts_are;
        unfinished = o.unfinished;
        between = o.between;
        now_is = o.now_is;
        start = o.start;
        begins = o.begins;
        none = o.none;
      }))
      e
  ends_by GaveUp e = tt
  ends_by NoMemory e = tt

  course_is : IsCourse p (length left_view.seen) (bytes_at left_view) n (code_of p n) r.end r.attempts
  course_is = record {
    run = subst (λ (q : ℕ × Between Thread). IsRunOf thread_rules q.0 (length left_view.seen) (bytes_at left_view) (Some q.1) r.attempts) (λ i. (depth_is i, first_is i)) done.runs.run;
    since = subst (λ (k : ℕ). AreSince k r.attempts) (ap (λ (z : View). commits_known z) is.fresh.pass_is) done.runs.since;
    own = done.runs.own;
    few = subst (λ (most : ℕ). RestartAtMost most r.attempts) (ap (λ (e : Core). e.restarts) is.fresh.engine_is) done.runs.few;
    ends = subst (λ (q : ℕ × Between Thread). EndsBy q.0 (bytes_at left_view) q.1 r.end r.attempts) (λ i. (depth_is i, first_is i)) (ends_by r.end done.ends);
  }

  made_its : MadeCalls words p base gate n r
  made_its = record { start = t; player = player; begins = is; row = works.row }

  was_run : WasRun words p left_view gate n r.end r.attempts
  unfolding made_its
  was_run = record {
    worked = r;
    made = made_over words p base left_view.base gate n r (sym its_base) made_its;
    end_is = refl;
    attempts_are = refl;
    joined = joined_self left_view;
    why = ends_where words n p.limits.retries gate (call_number works.row.calls) r.end works.row.account works.row.standing works.row.left works.row.thread works.row.stops;
  }

  -- where its pass came back
  pub did_its : is_held r.pass ≡ false → Did words p gate left_view n (record { attempts = r.attempts; end = r.end })
  did_its free = record {
    course = course_is;
    row = was_run;
    left = subst (λ (deepest : ℕ). AreLeft deepest left_view r.attempts) depth_is done.runs.left;
    few = subst (λ (most : ℕ). AreFew most r.attempts) (ap (λ (e : Core). e.max_commits) is.fresh.engine_is) done.few;
    held = subst (λ (q : ℕ × Bool). AreHeld q.0 left_view q.1 r.attempts) (λ i. (depth_is i, free i)) done.held;
    outrun = done.runs.outrun;
  }
