-- The blocks that ran again, met one after the other beside the calls.
use Rattle.std.proofs.Common.{◌≡◌, ℕ, zero, suc, ◌+◌, ◌-◌, ◌<◌, ◌≤◌, Bool, true, false, ◌&&◌, ◌==◌, nat_lt, List, [], ◌∷◌, length, get_or, take, drop, refl, sym, ap, subst, ◌∙◌, arith, drop-cons, Option, None, Some, slice_get}
use Rattle.history_checker.proofs.Common.{Again, CallRecord, State, after, again_at, again_fault, and_from, and_parts, are_again, arena_set, at_head, breaks_of, calls_fault, cond-false, cond-true, eqb-false, eqb-true, get_or_from_slice_get, is_again, is_due, is_inner_begin, is_open, lt-ltb, ltb-true, ne_eqb, reply, same_reply, state_through}
use Rattle.itm_model.proofs.ArenaSizes.{after_long}
use Rattle.history_checker.specs.declared.verdict.BadKind.TheVariants as kind
use Rattle.history_checker.proofs.Steps.Calls.{calls_next, made, state_next}

-- ## The next one

-- the first of these did so after so many calls
abbrev pub first_due : List Again → ℕ → Bool
first_due [] n = false
first_due (a ∷ rest) n = a.kept == n

-- the next one is the first of the rest
due_drop : (rs : List Again) (next n : ℕ) → is_due (slice_get rs next) n ≡ first_due (drop next rs) n
due_drop [] zero n = refl
due_drop [] (suc next) n = refl
due_drop (a ∷ rs) zero n = refl
due_drop (a ∷ rs) (suc next) n = due_drop rs next n

-- it is one of them
pub due_within : (rs : List Again) (next n : ℕ) → is_due (slice_get rs next) n ≡ true → next < length rs
due_within [] next n h = absurd (cc)
due_within (a ∷ rs) zero n h = omega arith
due_within (a ∷ rs) (suc next) n h = (let l = due_within rs next n h in omega arith)

module _ (size : ℕ) (calls : List CallRecord) where
  -- of those after more calls none did so before
  none_below : (from : ℕ) (rs : List Again) → are_again size from calls rs ≡ true → (n : ℕ) → n ≤ from → again_at rs n ≡ None
  none_below from [] e n l = refl
  none_below from (a ∷ rest) e n l =
      let parts = and_parts (is_again size from calls a) (are_again size a.kept calls rest) e in
      let ahead : from < a.kept = ltb-true from a.kept (and_parts (nat_lt from a.kept) _ parts.0).0 in
      cond-false (a.kept == n) (Some a) (again_at rest n) (ne_eqb a.kept n (λ is. omega arith))
      ∙ none_below a.kept rest parts.1 n (omega arith)

  -- the first one did not: none did, and all are of after one call more
  pub none_due : (i : ℕ) (rs : List Again) → are_again size i calls rs ≡ true → first_due rs (i + 1) ≡ false → (again_at rs (i + 1) ≡ None) × (are_again size (i + 1) calls rs ≡ true)
  none_due i [] e f = (refl, refl)
  none_due i (a ∷ rest) e f =
      let parts = and_parts (is_again size i calls a) (are_again size a.kept calls rest) e in
      let begun = and_parts (nat_lt i a.kept) (is_inner_begin (slice_get calls (a.kept - 1)) && (length a.arena == size)) parts.0 in
      let ahead : i < a.kept = ltb-true i a.kept begun.0 in
      let other = eqb-false a.kept (i + 1) f in
      let more : i + 1 < a.kept = omega arith in
      let still : is_again size (i + 1) calls a ≡ true = and_from (nat_lt (i + 1) a.kept) (is_inner_begin (slice_get calls (a.kept - 1)) && (length a.arena == size)) (lt-ltb (i + 1) a.kept more) begun.1 in (
        cond-false (a.kept == i + 1) (Some a) (again_at rest (i + 1)) f ∙ none_below a.kept rest parts.1 (i + 1) (omega arith),
        and_from (is_again size (i + 1) calls a) (are_again size a.kept calls rest) still parts.1,
      )

  -- the first one did
  pub record IsDue (i : ℕ) (a : Again) (rest : List Again) : Type 0 where
    pub there : again_at (a ∷ rest) (i + 1) ≡ Some a
    pub ahead : are_again size (i + 1) calls rest ≡ true
    pub later : (n : ℕ) → i + 1 < n → again_at (a ∷ rest) n ≡ again_at rest n
    pub arena : length a.arena ≡ size

  pub one_due : (i : ℕ) (a : Again) (rest : List Again) → are_again size i calls (a ∷ rest) ≡ true → first_due (a ∷ rest) (i + 1) ≡ true → IsDue i a rest
  one_due i a rest e f =
      let parts = and_parts (is_again size i calls a) (are_again size a.kept calls rest) e in
      let begun = and_parts (nat_lt i a.kept) (is_inner_begin (slice_get calls (a.kept - 1)) && (length a.arena == size)) parts.0 in
      let whole = and_parts (is_inner_begin (slice_get calls (a.kept - 1))) (length a.arena == size) begun.1 in
      let at : a.kept ≡ i + 1 = eqb-true a.kept (i + 1) f in
      record {
        there = cond-true (a.kept == i + 1) (Some a) (again_at rest (i + 1)) f;
        ahead = subst (λ (n : ℕ). are_again size n calls rest ≡ true) at parts.1;
        later = λ n l. cond-false (a.kept == n) (Some a) (again_at rest n) (ne_eqb a.kept n (λ is. omega arith));
        arena = eqb-true (length a.arena) size whole.1;
      }

-- ## So many calls replayed

-- the machine is where they lead, of those that ran again so many are behind it, and what is wrong is wrong from here on
pub record IsReplayed (deepest : ℕ) (start : State) (calls : List CallRecord) (restarts : List Again) (i next : ℕ) (s : State) : Type 0 where
  pub state : s ≡ state_through deepest (breaks_of restarts) start (made (take i calls))
  pub fault : calls_fault deepest (again_at restarts) start 0 calls ≡ calls_fault deepest (λ n. again_at restarts (i + n)) s i (drop i calls)
  pub ahead : are_again (length start.arena) i calls (drop next restarts) ≡ true
  pub later : (n : ℕ) → i < n → again_at restarts n ≡ again_at (drop next restarts) n
  pub long : length s.arena ≡ length start.arena

module _ (deepest : ℕ) (start : State) (calls : List CallRecord) (restarts : List Again) where
  module _ (i next : ℕ) (s : State) (r : IsReplayed deepest start calls restarts i next s) (d : CallRecord) (h : i < length calls) (inside : is_open s ≡ true)
      (same : same_reply (get_or calls i d).reply (reply deepest s (get_or calls i d).call) ≡ true) where
    -- the state after the next call
    abbrev called : State
    called = after deepest s (get_or calls i d).call

    fault_called : calls_fault deepest (again_at restarts) start 0 calls
        ≡ again_fault (again_at restarts (i + 1)) called (calls_fault deepest (λ n. again_at restarts (i + 1 + n)) (arena_set (again_at restarts (i + 1)) called) (i + 1) (drop (i + 1) calls))
    fault_called = r.fault ∙ calls_next deepest (again_at restarts) s i calls d h inside same

    state_called : state_through deepest (breaks_of restarts) start (made (take (i + 1) calls)) ≡ arena_set (again_at restarts (i + 1)) called
    state_called =
        state_next deepest (breaks_of restarts) start calls i d h
        ∙ ap (λ (t : State). arena_set (again_at restarts (i + 1)) (after deepest t (get_or calls i d).call)) (sym r.state)

    -- no block ran again behind the call
    pub replayed_on : is_due (slice_get restarts next) (i + 1) ≡ false → IsReplayed deepest start calls restarts (i + 1) next called
    replayed_on off =
        let rest = none_due (length start.arena) calls i (drop next restarts) r.ahead (sym (due_drop restarts next (i + 1)) ∙ off) in
        let none : again_at restarts (i + 1) ≡ None = r.later (i + 1) (omega arith) ∙ rest.0 in
        record {
          state = sym (state_called ∙ ap (λ (o : Option Again). arena_set o called) none);
          fault = fault_called
              ∙ ap (λ (o : Option Again). again_fault o called (calls_fault deepest (λ n. again_at restarts (i + 1 + n)) (arena_set o called) (i + 1) (drop (i + 1) calls))) none;
          ahead = rest.1;
          later = λ n l. r.later n (omega (arith, l));
          long = after_long deepest s (get_or calls i d).call ∙ r.long;
        }

    module _ (a : Again) (there : next < length restarts) (is : a ≡ get_or restarts next a) (on : is_due (slice_get restarts next) (i + 1) ≡ true) where
      rest_is : drop next restarts ≡ a ∷ drop (next + 1) restarts
      rest_is = drop-cons restarts next a there ∙ (let at : suc next ≡ next + 1 = omega arith in λ j. sym is j ∷ drop (at j) restarts)

      due : IsDue (length start.arena) calls i a (drop (next + 1) restarts)
      due = one_due (length start.arena) calls i a (drop (next + 1) restarts) (subst (λ (rs : List Again). are_again (length start.arena) i calls rs ≡ true) rest_is r.ahead)
          (ap (λ (rs : List Again). first_due rs (i + 1)) (sym rest_is) ∙ (sym (due_drop restarts next (i + 1)) ∙ on))

      found : again_at restarts (i + 1) ≡ Some a
      found = r.later (i + 1) (omega arith) ∙ (ap (λ (rs : List Again). again_at rs (i + 1)) rest_is ∙ due.there)

      -- its arena has as many bytes as the machine's
      pub as_long : length a.arena ≡ length called.arena
      as_long = due.arena ∙ sym (after_long deepest s (get_or calls i d).call ∙ r.long)

      -- in an irrevocable transaction it could not
      replayed_held : called.irrevocable ≡ true → calls_fault deepest (again_at restarts) start 0 calls ≡ Some (at_head kind.Shape)
      replayed_held held =
          fault_called
          ∙ (ap (λ (o : Option Again). again_fault o called (calls_fault deepest (λ n. again_at restarts (i + 1 + n)) (arena_set o called) (i + 1) (drop (i + 1) calls))) found
          ∙ cond-true called.irrevocable _ _ held)

      -- else it did from its arena
      pub replayed_again : called.irrevocable ≡ false → IsReplayed deepest start calls restarts (i + 1) (next + 1) (record called { arena = a.arena })
      replayed_again free = record {
        state = sym (state_called ∙ ap (λ (o : Option Again). arena_set o called) found);
        fault = fault_called
            ∙ (ap (λ (o : Option Again). again_fault o called (calls_fault deepest (λ n. again_at restarts (i + 1 + n)) (arena_set o called) (i + 1) (drop (i + 1) calls))) found
            ∙ cond-false called.irrevocable _ _ free);
        ahead = due.ahead;
        later = λ n l. r.later n (omega (arith, l)) ∙ (ap (λ (rs : List Again). again_at rs n) rest_is ∙ due.later n l);
        long = due.arena;
      }

    -- a block ran again in an irrevocable transaction
    pub held_there : is_due (slice_get restarts next) (i + 1) ≡ true → called.irrevocable ≡ true → calls_fault deepest (again_at restarts) start 0 calls ≡ Some (at_head kind.Shape)
    held_there on held = by_next (slice_get restarts next) refl on
      where
        by_next : (o : Option Again) → slice_get restarts next ≡ o → is_due o (i + 1) ≡ true → calls_fault deepest (again_at restarts) start 0 calls ≡ Some (at_head kind.Shape)
        by_next None e f = absurd (cc)
        by_next (Some a) e f = replayed_held a (due_within restarts next (i + 1) on) (sym (get_or_from_slice_get restarts next a a e)) on held
