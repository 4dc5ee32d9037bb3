-- What the runs of a block come to.
use Rattle.std.proofs.Common.{◌≡◌, ◌∙◌, inl, inr, ℕ, zero, suc, ◌<◌, Result, Ok, Err, ap, refl, subst, sym, true≢false, false, true}
use Rattle.transactions.proofs.Common.{Abort, AreRunAgain, Begin, CalledAtMut, Cancelled, Commit, EndsBlockBy, EndsRuns, Engine, EntersNot, HasGoneBack, HasRunBlock, IsAsBefore, IsKept, IsToldAgain, IsUndoneUnless, KeepsBlocks, KeepsBody, KeepsLent, Leaves, Lent, Mut, MutBor, Standing, StaysWithin, Stop, Stopped, Tells, TellsBlock, Went, answer_of, block_told, in_transaction, usual, view_of, went_self}
use Rattle.itm_runtime.specs.declared.stop.Stop.TheVariants as stops
use Rattle.transactions.proofs.BlockOutcomes.{abort_back, abort_kept, back_self, before_twice, before_within, commit_failed, commit_kept, commit_within, kept_twice, not_entered, back_served}

-- nothing is changed
same_kept : (from new : Lent) → new.words ≡ from.words → new.thread ≡ from.thread → IsKept from new
same_kept from new words same = record { words = words; mine_is = ap (λ (t : Standing). (view_of t.pass).mine) same; went = subst (λ (t : Standing). Went (view_of from.thread.pass) (view_of t.pass)) (sym same) (went_self (view_of from.thread.pass)) }

-- what one run comes to, or all of them
pub record RunsTo {R E : Type 0} (from : Lent) (told : Result (Result R E) Stop) (new : Lent) : Type 0 where
  pub kept : IsKept from new
  pub within : StaysWithin from new
  pub undone : IsUndoneUnless told from new

-- ## One run

module _ {F R E : Type 0} (fn : Mut F (MutBor Lent × Unit {0}) (Result R (Stopped E) × (MutBor Lent × Unit {0}))) (lent : KeepsLent fn) (blocks : KeepsBlocks fn) (first : F) (from : Lent) (first' : F) (new : Lent) where
  -- nothing is left of it
  nothing : (told : Result (Result R E) Stop) → IsKept from new → IsAsBefore from new → IsUndoneUnless told from new → RunsTo from told new
  nothing told kept back undone = record { kept = kept; within = before_within from new back; undone = undone }

  ran : (told : Result (Result R E) Stop) (r : HasRunBlock fn first from told first' new) → RunsTo from told new
  ran told r = by_end r.gives r.runs r.ends
    where
      by_end : (gives : Result R (Stopped E)) → CalledAtMut fn first r.began gives first' r.last → EndsBlockBy gives r.last told new → RunsTo from told new
      by_end (Ok value) runs ends =
          let kept = lent first r.began (Ok value) first' r.last runs in
          let within = blocks first r.began (Ok value) first' r.last runs in
          record {
            kept = commit_kept from r.began r.last new r.enters kept within ends.0 ends.1;
            within = commit_within from r.began r.last new r.enters kept within ends.0 ends.1;
            undone = subst (λ (x : Result (Result R E) Stop). IsUndoneUnless x from new) (sym ends.2) (by_left ends.0 ends.1 (commit_failed from r.began r.last new r.enters kept within));
          }
        where
          by_left : (left : Result (Unit {0}) Stop) → Leaves Commit r.last left new → ((stop : Stop) → Leaves Commit r.last (Err stop) new → IsAsBefore from new) → IsUndoneUnless (block_told {E = E} (Ok value) left) from new
          by_left (Ok done) ends failed = tt
          by_left (Err stop) ends failed = failed stop ends
      by_end (Err (Cancelled why)) runs ends =
          let kept = lent first r.began (Err (Cancelled why)) first' r.last runs in
          let within = blocks first r.began (Err (Cancelled why)) first' r.last runs in
          nothing told (abort_kept from r.began r.last new r.enters kept within ends.0 ends.1) (abort_back from r.began r.last new r.enters kept within ends.0 ends.1)
          (subst (λ (x : Result (Result R E) Stop). IsUndoneUnless x from new) (sym ends.2) (by_left ends.0 ends.1 (back_served from r.began r.last new r.enters kept within) (abort_back from r.began r.last new r.enters kept within)))
        where
          by_left : (left : Result (Unit {0}) Stop) → Leaves (Abort false) r.last left new → ((done : Unit {0}) → Leaves (Abort false) r.last (Ok done) new → (in_transaction new.thread.engine ≡ true) × HasGoneBack from.thread new.thread)
              → ((left : Result (Unit {0}) Stop) → Leaves (Abort false) r.last left new → IsAsBefore from new) → IsUndoneUnless (block_told {R = R} (Err why) left) from new
          by_left (Ok done) ends served back = served done ends
          by_left (Err stop) ends served back = back (Err stop) ends
      by_end (Err (Engine stop)) runs ends =
          let kept = lent first r.began (Err (Engine stop)) first' r.last runs in
          let within = blocks first r.began (Err (Engine stop)) first' r.last runs in
          let back = abort_back from r.began r.last new r.enters kept within ends.0 ends.1 in
          nothing told (abort_kept from r.began r.last new r.enters kept within ends.0 ends.1) back (subst (λ (x : Result (Result R E) Stop). IsUndoneUnless x from new) (sym ends.2) back)

  -- ## A block that did not begin

  begin_kept : (stop : Stop) → Tells from.words from.thread (Begin usual 0) (answer_of stop) new.thread → new.words ≡ from.words → IsKept from new
  begin_kept stops.Memory a words = same_kept from new words a.err
  begin_kept stop a words = record { words = words; mine_is = a.served.mine; went = a.served.went }

  stood : (stop : Stop) → EntersNot from stop new → IsKept from new × IsAsBefore from new
  stood stop e = elim e.why [
    | inl shut ↦ (same_kept from new e.words shut.1, λ o. absurd (true≢false (sym o ∙ ap (λ (t : Standing). in_transaction t.engine) shut.1 ∙ shut.0)))
    | inr told ↦ (begin_kept stop told.1 e.words, not_entered from.words from.thread new.thread e.revocable told.0 stop told.1)
  ]

  pub runs_to : (told : Result (Result R E) Stop) → TellsBlock fn first from told first' new → RunsTo from told new
  runs_to told (inl r) = ran told r
  runs_to told (inr none) =
      let s = stood none.stop none.enters_not in
      nothing told s.0 s.1 (subst (λ (x : Result (Result R E) Stop). IsUndoneUnless x from new) (sym none.told_is) s.1)

-- ## One run after another

module _ {R E : Type 0} (old from new : Lent) where
  -- where it goes back to its begin nothing of it is left
  again_back : (told : Result (Result R E) Stop) → IsToldAgain told → IsUndoneUnless told from new → IsAsBefore from new
  again_back (Ok (Ok value)) again undone = absurd again
  again_back (Ok (Err why)) again undone = absurd again
  again_back (Err stop) again undone = undone

  undone_on : (told : Result (Result R E) Stop) → IsAsBefore old from → IsUndoneUnless told from new → IsUndoneUnless told old new
  undone_on (Ok (Ok value)) back undone = tt
  undone_on (Ok (Err why)) back undone = (undone.0, before_twice old from new back (λ o. undone.1) undone.0)
  undone_on (Err stop) back undone = before_twice old from new back undone

within_on : (old from new : Lent) → IsAsBefore old from → StaysWithin from new → StaysWithin old new
within_on old from new back within first fresh w = within first fresh (before_within old from back first fresh w)

module _ {F R E : Type 0} (fn : Mut F (MutBor Lent × Unit {0}) (Result R (Stopped E) × (MutBor Lent × Unit {0}))) (first : F) (old : Lent) where
  run_body : KeepsBody fn → (f : F) (from : Lent) (told : Result (Result R E) Stop) (f' : F) (new : Lent) → TellsBlock fn f from told f' new → f' ≡ f
  run_body steady f from told f' new (inl r) = steady f r.began r.gives f' r.last r.runs
  run_body steady f from told f' new (inr none) = none.not_run

  -- they leave the body as it was, where each run does
  pub runs_body : KeepsBody fn → (n : ℕ) (f' : F) (new : Lent) → AreRunAgain fn first old n f' new → f' ≡ first
  runs_body steady zero f' new t = t.0
  runs_body steady (suc n) f' new t = run_body steady t.0 t.1 t.2 f' new t.4 ∙ runs_body steady n t.0 t.1 t.3

  -- another one
  pub run_more : (n : ℕ) (g f' : F) (mid new : Lent) (told : Result (Result R E) Stop) → AreRunAgain fn first old n g mid → TellsBlock fn g mid told f' new → IsToldAgain told → mid.thread.engine.snapshot < new.thread.engine.snapshot → AreRunAgain fn first old (suc n) f' new
  run_more n g f' mid new told before tells again later = (g, mid, told, before, tells, again, later)

  module _ (lent : KeepsLent fn) (blocks : KeepsBlocks fn) where
    -- nothing is left of them
    pub run_again : (n : ℕ) (f' : F) (new : Lent) → AreRunAgain fn first old n f' new → IsKept old new × IsAsBefore old new
    run_again zero f' new t = subst (λ (l : Lent). IsKept old l × IsAsBefore old l) (sym t.1) (same_kept old old refl refl, λ o. back_self old.thread)
    run_again (suc n) f' new t =
        let was = run_again n t.0 t.1 t.3 in
        let ran = runs_to fn lent blocks t.0 t.1 f' new t.2 t.4 in
        (kept_twice old t.1 new was.0 ran.kept, before_twice old t.1 new was.1 (again_back old t.1 new t.2 t.5 ran.undone))

    pub ends_to : (told : Result (Result R E) Stop) (f' : F) (new : Lent) → EndsRuns fn first old told f' new → RunsTo old told new
    ends_to told f' new e =
        let was = run_again e.times e.body e.from e.before in
        let ran = runs_to fn lent blocks e.body e.from f' new told e.last in
        record {
          kept = kept_twice old e.from new was.0 ran.kept;
          within = within_on old e.from new was.1 ran.within;
          undone = undone_on old e.from new told was.1 ran.undone;
        }
