-- What the machine answers, once the calls before one are made.
use Rattle.std.proofs.Common.{◌≡◌, ℕ, ◌<◌, ◌≤◌, Bool, true, false, ◌&&◌, List, [], length, get_or, take, refl, sym, ap, subst, ◌∙◌, Option, None, Some, Result, Ok, Err, IfOk, is_none, is_some}
use Rattle.history_checker.proofs.Common.{Again, Attempt, CallRecord, History, Reaches, Reply, Spot, State, Undoable, and_from, and_right, answer_of, answer_on, answer_to, breaks_of, call_answer, cond-false, cond-true, count_committed, depth_of, is_known, is_reached, memory_at, position_fault, reply, slice_get-get_or, slice_get_past, slice_get_read, spot_answer, state_behind, state_through}
use Rattle.history_checker.{proofs.Steps.Calls.made, proofs.Steps.Verdicts.place_is}

pub answered_there : (deepest : ℕ) (rs : List Again) (s0 : State) (es : List CallRecord) (i : ℕ) (e : CallRecord) (n : ℕ) (s : State) (r : Reply) → i < length es → e ≡ get_or es i e → n ≡ deepest
    → s ≡ state_through deepest (breaks_of rs) s0 (made (take i es)) → r ≡ reply n s e.call → Some r ≡ call_answer deepest rs s0 es (Some i)
answered_there deepest rs s0 es i e n s r h is depth state told =
    ap (λ (x : Reply). Some x) (told ∙ (λ t. reply (depth t) (state t) e.call))
    ∙ sym (ap (answer_to deepest (state_behind deepest rs s0 es i)) (slice_get_read es (length es) i e refl h is))

pub some_is_not_none : {A : Type 0} (o : Option A) → is_some o ≡ true → is_none o ≡ false
some_is_not_none None e = absurd (cc)
some_is_not_none (Some x) e = refl

is_none_then : {A : Type 0} (o : Option A) → is_some o ≡ false → is_none o ≡ true
is_none_then None e = refl
is_none_then (Some x) e = absurd (cc)

-- ## The memory that an attempt saw

module _ (h : History) (a : Attempt) where
  unknown : is_known h a.at ≡ false → None ≡ answer_of h (Some a)
  unknown off = sym (cond-false (is_known h a.at) (answer_on (depth_of h.version) (memory_at h a.at) a) None off)

  -- it is not known where so many have not committed, or one of these is wrong
  pub not_reached : is_reached h a.at ≡ false → None ≡ answer_of h (Some a)
  not_reached off = unknown (and_right (is_none (position_fault (count_committed h.attempts) [] h.attempts)) (is_reached h a.at) off)

  module _ (ts : List Attempt) (n : ℕ) (f : Option Spot) (all : ts ≡ h.attempts) (count : n ≡ count_committed ts) (fault : f ≡ position_fault n [] ts) where
    placed : is_none f ≡ is_none (position_fault (count_committed h.attempts) [] h.attempts)
    placed = ap (λ (o : Option Spot). is_none o) (place_is h ts n f all count fault)

    -- nor where a position is not that of one attempt
    pub misplaced : is_some f ≡ true → None ≡ answer_of h (Some a)
    misplaced wrong = unknown (ap (λ (b : Bool). b && is_reached h a.at) (sym placed ∙ some_is_not_none f wrong))

    pub answer_there : {E : Type 0} (u : Undoable) (r : Result (Option Reply) E) → is_some f ≡ false → Reaches h a.at (Some u) → IfOk r (λ answer. answer ≡ answer_on u.deepest u.state.memory a)
        → IfOk r (λ answer. answer ≡ answer_of h (Some a))
    answer_there u (Ok x) right reached told =
        let known : is_known h a.at ≡ true = and_from (is_none (position_fault (count_committed h.attempts) [] h.attempts)) (is_reached h a.at) (sym placed ∙ is_none_then f right) reached.0 in
        told ∙ ((λ t. answer_on (reached.2 t) (reached.1 t) a) ∙ sym (cond-true (is_known h a.at) (answer_on (depth_of h.version) (memory_at h a.at) a) None known))
    answer_there u (Err e) right reached told = told

-- ## The attempt that is wrong

module _ (h : History) (ts : List Attempt) (o : Option Spot) (spot : Spot) (all : ts ≡ h.attempts) (is : o ≡ Some spot) where
  pub no_attempt : length ts ≤ spot.attempt → None ≡ spot_answer h o
  no_attempt past =
      let far : length h.attempts ≤ spot.attempt = subst (λ (xs : List Attempt). length xs ≤ spot.attempt) all past in
      sym (ap (spot_answer h) is ∙ ap (answer_of h) (slice_get_past h.attempts spot.attempt far))

  pub attempt_there : {E : Type 0} (a : Attempt) (r : Result (Option Reply) E) → spot.attempt < length ts → a ≡ get_or ts spot.attempt a → IfOk r (λ answer. answer ≡ answer_of h (Some a))
      → IfOk r (λ answer. answer ≡ spot_answer h o)
  attempt_there a r within there told =
      let inside : spot.attempt < length h.attempts = subst (λ (xs : List Attempt). spot.attempt < length xs) all within in
      let same : a ≡ get_or h.attempts spot.attempt a = there ∙ ap (λ (xs : List Attempt). get_or xs spot.attempt a) all in
      let e : spot_answer h o ≡ answer_of h (Some a) =
      ap (spot_answer h) is ∙ (ap (answer_of h) (slice_get-get_or h.attempts spot.attempt a inside) ∙ ap (λ (x : Attempt). answer_of h (Some x)) (sym same)) in
      subst (λ (x : Option Reply). IfOk r (λ answer. answer ≡ x)) (sym e) told
