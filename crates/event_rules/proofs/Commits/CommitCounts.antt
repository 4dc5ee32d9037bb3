-- The commits stay in order over an event.
use Rattle.std.proofs.Common.{◌≡◌, ◌⊎◌, inl, inr, ℕ, ◌+◌, ◌*◌, ◌/◌, ◌%◌, ◌<◌, ◌≤◌, ◌==◌, ◌&&◌, Bool, true, false, nat_lt, List, [], ◌∷◌, ◌++◌, Some, slice_get, slice_set, refl, sym, ap, subst, ◌∙◌, arith}
use Rattle.event_rules.proofs.Common.{Actor, AllByRecursion, AreActors, AreCounted, AreEnded, AreOutrun, AreUnfinished, Attempt, Cells, CommitsInOrder, EndsAt, EndsIt, IsEvent, IsFirst, Limits, Outcome, Prior, Rows, Rules, Tries, World, begins, between, both_ways, count_at, count_committed, false_from_ne_true, is_at, is_committed, le-ltb, limits_of, odd_or_even, one_where, outrun, outrun_later, outrun_more, outrun_none, over, prior_of, runs, set_place, shut_out, turned_away}
use Rattle.event_rules.proofs.Events.SoundOthers.{held_after, held_apart, one_after}
use Rattle.event_rules.proofs.Commits.ActorLimits.{limits_stay}
use Rattle.std.{proofs.lemmas.Bool.Decides.nat_tests, proofs.lemmas.List.Elements.All-from_recursion}
use Rattle.tx_attempts.specs.declared.attempt.Outcome.TheVariants as outcomes

-- ## Counts

pub count_at_both : (position : ℕ) (xs ys : List Attempt) → count_at position (xs ++ ys) ≡ count_at position xs + count_at position ys
count_at_both position [] ys = (let e : count_at position ys ≡ 0 + count_at position ys = omega arith in e)
count_at_both position (x ∷ xs) ys = (let e = count_at_both position xs ys in omega arith)

pub count_committed_both : (xs ys : List Attempt) → count_committed (xs ++ ys) ≡ count_committed xs + count_committed ys
count_committed_both [] ys = (let e : count_committed ys ≡ 0 + count_committed ys = omega arith in e)
count_committed_both (x ∷ xs) ys = (let e = count_committed_both xs ys in omega arith)

-- open attempts have not committed

open_at : (position : ℕ) (xs : List Attempt) → AreUnfinished xs → count_at position xs ≡ 0
open_at position [] u = refl
open_at position (x ∷ xs) u = (let e = open_at position xs u.1 in let none : one_where (is_at position x) ≡ 0 = ap (λ (o : Outcome). one_where (is_committed o && (x.at == position))) u.0 in omega arith)

open_committed : (xs : List Attempt) → AreUnfinished xs → count_committed xs ≡ 0
open_committed [] u = refl
open_committed (x ∷ xs) u = (let e = open_committed xs u.1 in let none : one_where (is_committed x.outcome) ≡ 0 = ap (λ (o : Outcome). one_where (is_committed o)) u.0 in omega arith)

pub open_outrun : (clock : ℕ) (xs : List Attempt) → AreUnfinished xs → AreOutrun clock xs
open_outrun clock xs u = All-from_recursion (λ (a : Attempt). a.outcome ≡ outcomes.Conflict → 2 * a.at < clock) xs (none_lost xs u)
  where
    none_lost : (ys : List Attempt) → AreUnfinished ys → AllByRecursion (λ (a : Attempt). a.outcome ≡ outcomes.Conflict → 2 * a.at < clock) ys
    none_lost [] v = tt
    none_lost (y ∷ ys) v = (λ lost. absurd (let both : outcomes.Unfinished ≡ outcomes.Conflict = sym v.0 ∙ lost in cc), none_lost ys v.1)

pub counted_both : (clock : ℕ) (xs ys : List Attempt) → AreUnfinished ys → AreCounted clock xs → AreCounted clock (xs ++ ys)
counted_both clock xs ys u c = record { all = omega (arith, count_committed_both xs ys, open_committed ys u, c.all); each = λ position. omega (arith, count_at_both position xs ys, open_at position ys u, c.each position) }

-- none has committed at first
pub counted_first : (clock : ℕ) (xs : List Attempt) → clock ≡ 0 → xs ≡ [] → AreCounted clock xs
counted_first clock xs zero_clock none = subst (AreCounted clock) (sym none) (subst (λ (n : ℕ). AreCounted n []) (sym zero_clock) (record { all = refl; each = λ position. sym (ap one_where (le-ltb position 0 (omega arith))) }))

-- the clock of one more commit
below_more : (position n : ℕ) → one_where (nat_lt position (n + 1)) ≡ one_where (nat_lt position n) + one_where (n == position)
below_more position n = grind (arith, nat_tests)

counted_same : (clock clock' : ℕ) (xs ys : List Attempt) → ys ≡ xs → clock' / 2 ≡ clock / 2 → AreCounted clock xs → AreCounted clock' ys
counted_same clock clock' xs ys same half c = record {
  all = ap count_committed same ∙ (c.all ∙ sym half);
  each = λ position. ap (count_at position) same ∙ (c.each position ∙ ap (λ (n : ℕ). one_where (nat_lt position n)) (sym half));
}

-- one that did not commit is not counted
counted_other : (clock clock' : ℕ) (xs ys : List Attempt) (a : Attempt) → is_committed a.outcome ≡ false → ys ≡ xs ++ a ∷ [] → clock' / 2 ≡ clock / 2 → AreCounted clock xs → AreCounted clock' ys
counted_other clock clock' xs ys a other is half c = record {
  all = (let none = ap one_where other in omega (arith, ap count_committed is ∙ count_committed_both xs (a ∷ []), c.all));
  each = λ position.
      (let none = ap (λ (b : Bool). one_where (b && (a.at == position))) other in
      omega (arith, ap (count_at position) is ∙ count_at_both position xs (a ∷ []), c.each position, ap (λ (n : ℕ). one_where (nat_lt position n)) half));
}

-- one that did is
counted_one : (clock clock' : ℕ) (xs ys : List Attempt) (a : Attempt) → is_committed a.outcome ≡ true → ys ≡ xs ++ a ∷ [] → clock ≡ 2 * a.at + 1 → clock' ≡ 2 * a.at + 2 → AreCounted clock xs → AreCounted clock' ys
counted_one clock clock' xs ys a one is before now c = record {
  all = (let some = ap one_where one in omega (arith, ap count_committed is ∙ count_committed_both xs (a ∷ []), c.all));
  each = λ position.
      (let some = ap (λ (b : Bool). one_where (b && (a.at == position))) one in
      let was = ap (λ (n : ℕ). one_where (nat_lt position n)) (let h : clock / 2 ≡ a.at = omega arith in h) in
      let half = ap (λ (n : ℕ). one_where (nat_lt position n)) (let h : clock' / 2 ≡ a.at + 1 = omega arith in h) in
      omega (arith, ap (count_at position) is ∙ count_at_both position xs (a ∷ []), c.each position, below_more position a.at));
}

-- ## What an event adds

ended_more : (xs : List Attempt) (a : Attempt) → (a.outcome ≡ outcomes.Unfinished → ⊥) → AreEnded xs → AreEnded (xs ++ a ∷ [])
ended_more [] a e all = (e, tt)
ended_more (x ∷ xs) a e all = (all.0, ended_more xs a e all.1)

module _ {P : Type 0} {IsLater : Attempt → Attempt → Type 0} (clock clock' : ℕ) (p : Prior) (r : Rows) (a : Actor P) where
  -- one attempt ended by it, or none, and then no commit was done
  pub some_ended : Tries IsLater clock p clock' r a → ((r.ended ≡ p.ended) × (clock' / 2 ≡ clock / 2)) ⊎ EndsIt IsLater clock p clock' r a
  some_ended (between t) = inl (t.ended, t.half)
  some_ended (begins t) = inl (t.ended, t.half)
  some_ended (runs t) = inl (t.ended, t.half)
  some_ended (over t) = inr t
  some_ended (turned_away t) = inl (t.ended, ap (λ (n : ℕ). n / 2) t.same)
  some_ended (outrun t) = inl (t.ended, ap (λ (n : ℕ). n / 2) t.same)
  some_ended (shut_out t) = inl (t.ended, ap (λ (n : ℕ). n / 2) t.same)

  pub counted_after : Tries IsLater clock p clock' r a → AreCounted clock p.ended → AreCounted clock' r.ended
  counted_after tries c = elim (some_ended tries) [ inl still ↦ counted_same clock clock' p.ended r.ended still.0 still.1 c | inr t ↦ by_outcome t t.row'.outcome refl t.at ]
    where
      by_outcome : (t : EndsIt IsLater clock p clock' r a) (o : Outcome) → t.row'.outcome ≡ o → EndsAt p.max_commits clock clock' t.row'.at o → AreCounted clock' r.ended
      by_outcome t outcomes.Committed e at = counted_one clock clock' p.ended r.ended t.row' (ap is_committed e) t.ended at.0 at.1 c
      by_outcome t outcomes.Unfinished e at = absurd at
      by_outcome t o e at = counted_other clock clock' p.ended r.ended t.row' (ap is_committed e) t.ended at.0 c

  -- what it adds has ended
  ended_after : Tries IsLater clock p clock' r a → AreEnded p.ended → AreEnded r.ended
  ended_after tries all = elim (some_ended tries) [
    | inl still ↦ subst AreEnded (sym still.0) all
    | inr t ↦ subst AreEnded (sym t.ended) (ended_more p.ended t.row' (λ e. subst (EndsAt p.max_commits clock clock' t.row'.at) e t.at) all)
  ]

  -- the clock of a conflict that it adds had moved on
  outrun_after : clock ≤ clock' → Tries IsLater clock p clock' r a → AreOutrun clock p.ended → AreOutrun clock' r.ended
  outrun_after late tries all =
      let before = outrun_later clock clock' late p.ended all in
      elim (some_ended tries) [
        | inl still ↦ subst (AreOutrun clock') (sym still.0) before
        | inr t ↦ subst (AreOutrun clock') (sym t.ended) (outrun_more clock' p.ended t.row' before (λ lost. (subst (EndsAt p.max_commits clock clock' t.row'.at) lost t.at).1))
      ]

-- ## An event

module _ {P : Type 0} (rules : Rules P) (w : World P) (c : CommitsInOrder w) (i : ℕ) (got new : Actor P) (here : slice_get w.actors i ≡ Some got) (cells' : Cells) (r' : Rows) (events : ℕ)
    (event : IsEvent rules w.cells w.attempts got cells' r' new) where
  abbrev after : World P
  after = record w { cells = cells'; actors = slice_set w.actors i new; attempts = r'; events = events }

  -- where one holds it, the clock is odd
  odd_of : (j : ℕ) (b : Actor P) → slice_get w.actors j ≡ Some b → b.engine.holds ≡ true → w.cells.clock % 2 ≡ 1
  odd_of j b e h = elim (odd_or_even w.cells.clock) [ inl even ↦ absurd (both_ways b.engine.holds (c.free even j b e) h) | inr odd ↦ odd ]

  pub commits_after : CommitsInOrder after
  commits_after = record {
    counted = counted_after w.cells.clock cells'.clock (prior_of w.attempts got) r' new event.tries c.counted;
    outrun = outrun_after w.cells.clock cells'.clock (prior_of w.attempts got) r' new event.clocks.late event.tries c.outrun;
    ended = ended_after w.cells.clock cells'.clock (prior_of w.attempts got) r' new event.tries c.ended;
    few = (let l = ap (λ (x : Limits). x.max_commits) (c.limits i got here) in subst (λ (n : ℕ). cells'.clock ≤ 2 * n) l (event.clocks.capped (subst (λ (n : ℕ). w.cells.clock ≤ 2 * n) (sym l) c.few)));
    held = held_after w.cells cells' w.actors i got new here event.clocks c.one odd_of c.held;
    free = free_after;
    one = one_after w.cells cells' w.actors i got new here event.clocks c.one odd_of;
    limits = each_limits;
  }
    where
      free_after : cells'.clock % 2 ≡ 0 → (place : ℕ) (a : Actor P) → slice_get (slice_set w.actors i new) place ≡ Some a → a.engine.holds ≡ false
      free_after even j b e = elim (set_place w.actors i got new here j b e) [
        | inl h ↦ ap (λ (z : Actor P). z.engine.holds) h.1 ∙ false_from_ne_true new.engine.holds (λ x. absurd (let odd = event.clocks.odd (odd_of i got here) x in omega arith))
        | inr h ↦ false_from_ne_true b.engine.holds (λ x. absurd (let odd = odd_of j b h.1 x in let same = ap (λ (z : Cells). z.clock % 2) (held_apart w.cells cells' w.actors i got new here event.clocks c.one odd_of j b h.0 h.1 x).0 in omega arith))
      ]

      each_limits : (place : ℕ) (a : Actor P) → slice_get (slice_set w.actors i new) place ≡ Some a → limits_of a ≡ w.limits
      each_limits j b e = elim (set_place w.actors i got new here j b e) [
        | inl h ↦ subst (λ (z : Actor P). limits_of z ≡ w.limits) (sym h.1) (limits_stay got new event.retries event.clocks.limit ∙ c.limits i got here)
        | inr h ↦ c.limits j b h.1
      ]

-- a world that has just begun
module _ {P : Type 0} (rules : Rules P) (w : World P)
    (sound : AreActors rules w.cells w.attempts w.actors) (zero_clock : w.cells.clock ≡ 0) (none : w.attempts.ended ≡ [])
    (first : (place : ℕ) (a : Actor P) → slice_get w.actors place ≡ Some a → IsFirst w.cells.clock w.limits a) where
  pub commits_first : CommitsInOrder w
  commits_first = record {
    counted = counted_first w.cells.clock w.attempts.ended zero_clock none;
    ended = subst AreEnded (sym none) tt;
    outrun = subst (AreOutrun w.cells.clock) (sym none) (outrun_none w.cells.clock);
    few = omega (arith, zero_clock);
    held = λ odd. absurd (omega (arith, zero_clock));
    free = λ even place a e. free_one place a e;
    one = λ i j a b ea eb ha hb. absurd (both_ways a.engine.holds (free_one i a ea) ha);
    limits = λ place a e. (first place a e).limits_are;
  }
    where
      free_one : (place : ℕ) (a : Actor P) → slice_get w.actors place ≡ Some a → a.engine.holds ≡ false
      free_one place a e = false_from_ne_true a.engine.holds (λ h. absurd (let held = (sound.each place a e).sound.tied.holder h in omega (arith, zero_clock)))
