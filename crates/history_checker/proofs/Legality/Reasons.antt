-- The machine's answer is told just where a call has another reply, and is its reply there.
use Rattle.std.proofs.Common.{◌≡◌, ℕ, zero, suc, ◌+◌, ◌<◌, ◌≤◌, Bool, true, false, not, ◌==◌, nat_lt, if◌then◌else◌, List, [], ◌∷◌, ◌++◌, length, take, Option, None, Some, refl, sym, ap, subst, arith, length-append, is_none, nat_le, slice_get}
use Rattle.history_checker.proofs.Common.{Again, Attempt, CallRecord, Fault, HasReason, History, IfSome_then, IsReason, IsReasonIn, Reply, Spot, State, after, again_at, again_fault, alone, and_from, and_left, and_parts, and_right, answer_at, answer_in, answer_of, answer_on, answer_to, arena_set, at_call, at_fault, at_head, at_place, call_answer, calls_fault, committed_fault, cond-false, cond-true, count_committed, depth_of, end_fault, eqb-true, fault_at, fault_in, first_fault, first_of, get_or_from_slice_get, is_at, is_beyond, is_committed, is_known, is_misplaced, is_open, is_reached, le-leb, lt-leb, ltb-true, may_stand, memory_at, opened, others_fault, position_fault, reply, same_reply, slice_get_within, spot_answer, state_behind, state_through}
use Rattle.std.specs.Option.{IfSome}
use Rattle.history_checker.specs.declared.verdict.BadKind.TheVariants as kind
use Rattle.history_checker.proofs.Steps.Calls.{made}
use Rattle.history_checker.proofs.Steps.Ends.{right_below}
use Rattle.history_checker.proofs.Steps.Tables.{none_beyond, seen_within}
use Rattle.history_checker.proofs.Legality.Attempts.{sets}
use Rattle.history_checker.proofs.Legality.Replies.{reply_decides}

-- ## What is chosen, or comes first

either_so : {A : Type 0} (P : A → Type 0) (b : Bool) (x y : Option A) → (b ≡ true → IfSome x P) → (b ≡ false → IfSome y P) → IfSome (if b then x else y) P
either_so P true x y f g = f refl
either_so P false x y f g = g refl

first_so : {A : Type 0} (P : A → Type 0) (x y : Option A) → IfSome x P → (x ≡ None → IfSome y P) → IfSome (first_of x y) P
first_so P None y f g = g refl
first_so P (Some a) y f g = f

found : {A : Type 0} {P : A → Type 0} (o : Option A) → ((x : A) → o ≡ Some x → P x) → IfSome o P
found None f = tt
found (Some x) f = f x refl

so_at : {A : Type 0} (P : A → Type 0) {o : Option A} {x : A} → o ≡ Some x → IfSome o P → P x
so_at P e h = subst (λ p. IfSome p P) e h

-- ## The calls of an attempt

-- a block ran again where none could, or what is found later
held_or_later : (P : Fault → Type 0) (o : Option Again) (s : State) (later : Option Fault) → P (at_head kind.Shape) → IfSome later P → IfSome (again_fault o s later) P
held_or_later P None s later h f = f
held_or_later P (Some a) s later h f = either_so P s.irrevocable (Some (at_head kind.Shape)) later (λ held. h) (λ free. f)

module _ (deepest : ℕ) where
  -- of these calls, of which the first has number i, the one with this number has another reply than the machine's
  abbrev IsWrong : (ℕ → Option Again) → State → ℕ → List CallRecord → Option ℕ → Type 0
  IsWrong again s i es None = Unit {0}
  IsWrong again s i es (Some p) = (j : ℕ) × (e : CallRecord) × (p ≡ i + j) × (slice_get es j ≡ Some e) × (same_reply e.reply (reply deepest (state_through deepest (sets again) s (made (take j es))) e.call) ≡ false)

  wrong_later : (again : ℕ → Option Again) (s : State) (i : ℕ) (x : CallRecord) (xs : List CallRecord) (o : Option ℕ) → IsWrong (λ n. again (suc n)) (arena_set (again 1) (after deepest s x.call)) (suc i) xs o → IsWrong again s i (x ∷ xs) o
  wrong_later again s i x xs None w = tt
  wrong_later again s i x xs (Some p) w = (suc w.0, w.1, omega (arith, w.2), w.3, w.4)

  wrong_calls : (again : ℕ → Option Again) (s : State) (i : ℕ) (es : List CallRecord) → IfSome (calls_fault deepest again s i es) (λ f. IsWrong again s i es f.call)
  wrong_calls again s i [] = tt
  wrong_calls again s i (x ∷ xs) =
      let t = after deepest s x.call in
      let others : ℕ → Option Again = λ n. again (suc n) in
      let rest = calls_fault deepest others (arena_set (again 1) t) (suc i) xs in
      let same = same_reply x.reply (reply deepest s x.call) in
      let P : Fault → Type 0 = λ f. IsWrong again s i (x ∷ xs) f.call in
      let later : IfSome rest P = IfSome_then rest (wrong_calls others (arena_set (again 1) t) (suc i) xs) (λ f w. wrong_later again s i x xs f.call w) in
      either_so P (is_open s) (if same then again_fault (again 1) t rest else Some (at_call i kind.Reply)) (Some (at_head kind.Shape))
      (λ inside. either_so P same (again_fault (again 1) t rest) (Some (at_call i kind.Reply)) (λ right. held_or_later P (again 1) t rest tt later) (λ wrong. (0, x, omega arith, refl, wrong))) (λ outside. tt)

  -- what is wrong at the end is told at the head
  ended_at_head : (fit same : Bool) → IfSome (if fit then (if same then None else Some (at_head kind.Ran)) else Some (at_head kind.Shape)) (λ f. f.call ≡ None)
  ended_at_head true true = tt
  ended_at_head true false = refl
  ended_at_head false same = refl

  -- ## An attempt

  module _ (memory : List ℕ) (a : Attempt) where
    abbrev start : State
    start = opened memory a.arena a.props

    not_same : (x y : Reply) → same_reply x y ≡ false → x ≡ y → ⊥
    not_same x y off is = (let on : same_reply x y ≡ true = (reply_decides x y).1 is in absurd (cc))

    by_call : (o : Option ℕ) → IsWrong (again_at a.restarts) start 0 a.calls.list o → IsReasonIn deepest memory a o (call_answer deepest a.restarts start a.calls.list o)
    by_call None w = refl
    by_call (Some p) w =
        let is : w.0 ≡ p = omega (arith, w.2) in
        let at : slice_get a.calls.list p ≡ Some w.1 = subst (λ (n : ℕ). slice_get a.calls.list n ≡ Some w.1) is w.3 in
        let s = state_behind deepest a.restarts start a.calls.list p in
        let other : same_reply w.1.reply (reply deepest s w.1.call) ≡ false = subst (λ (n : ℕ). same_reply w.1.reply (reply deepest (state_behind deepest a.restarts start a.calls.list n) w.1.call) ≡ false) is w.4 in
        record { entry = w.1; there = at; right = reply deepest s w.1.call; replies = refl; other = not_same w.1.reply (reply deepest s w.1.call) other; told = ap (answer_to deepest s) at }

    abbrev ended : Option Fault
    ended = end_fault deepest memory a (alone deepest memory a)

    by_calls : (o : Option Fault) → IfSome o (λ f. IsWrong (again_at a.restarts) start 0 a.calls.list f.call)
        → IfSome (first_of o ended) (λ f. IsReasonIn deepest memory a f.call (answer_at deepest a.restarts start a.calls.list o))
    by_calls None w = IfSome_then ended (ended_at_head _ _) (λ f head. subst (λ (c : Option ℕ). IsReasonIn deepest memory a c None) (sym head) refl)
    by_calls (Some x) w = by_call x.call w

    by_stand : (b : Bool) → IfSome (if b then first_of (calls_fault deepest (again_at a.restarts) start 0 a.calls.list) ended else Some (at_head kind.Shape)) (λ f. IsReasonIn deepest memory a f.call (if b then answer_in deepest start a else None))
    by_stand true = by_calls (calls_fault deepest (again_at a.restarts) start 0 a.calls.list) (wrong_calls (again_at a.restarts) start 0 a.calls.list)
    by_stand false = refl

    -- the reason of its fault on a memory
    reason_in : IfSome (fault_in deepest memory a) (λ f. IsReasonIn deepest memory a f.call (answer_on deepest memory a))
    unfolding fault_in
    reason_in = by_stand (may_stand a)

-- ## Where a fault is found

-- what it says of its attempt, of which the first one of these has number i
pub record IsSpot (P : Attempt → Type 0) (i : ℕ) (ts : List Attempt) (s : Spot) : Type 0 where
  pub place : ℕ
  pub attempt : Attempt
  pub is : s.attempt ≡ i + place
  pub there : slice_get ts place ≡ Some attempt
  pub holds : P attempt

spot_later : (P : Attempt → Type 0) (i : ℕ) (a : Attempt) (ts : List Attempt) (s : Spot) → IsSpot P (suc i) ts s → IsSpot P i (a ∷ ts) s
spot_later P i a ts s x = (let e = x.is in record { place = suc x.place; attempt = x.attempt; is = omega (arith, e); there = x.there; holds = x.holds })

spot_here : (P : Attempt → Type 0) (i : ℕ) (a : Attempt) (ts : List Attempt) (s : Spot) → s.attempt ≡ i → P a → IsSpot P i (a ∷ ts) s
spot_here P i a ts s e p = record { place = 0; attempt = a; is = omega (arith, e); there = refl; holds = p }

placed_at : (P : Spot → Type 0) (i : ℕ) (o : Option Fault) → IfSome o (λ f. P (record { attempt = i; fault = f })) → IfSome (at_place i o) P
placed_at P i None h = tt
placed_at P i (Some f) h = h

-- a position: at the head of one of the attempts
position_spot : (n : ℕ) (before ts : List Attempt) → IfSome (position_fault n before ts) (λ s. IsSpot (λ a. s.fault.call ≡ None) (length before) ts s)
position_spot n before [] = tt
position_spot n before (a ∷ rest) =
    let P : Spot → Attempt → Type 0 = λ s b. s.fault.call ≡ None in
    let more : length (before ++ a ∷ []) ≡ suc (length before) = omega (arith, length-append before (a ∷ [])) in
    either_so (λ s. IsSpot (P s) (length before) (a ∷ rest) s) (is_misplaced n before a) (at_place (length before) (Some (at_head kind.Position))) (position_fault n (before ++ a ∷ []) rest)
    (λ on. spot_here _ (length before) a rest _ refl refl)
    (λ off. IfSome_then (position_fault n (before ++ a ∷ []) rest) (position_spot n (before ++ a ∷ []) rest) (λ s x. spot_later (P s) (length before) a rest s (subst (λ (i : ℕ). IsSpot (P s) i rest s) more x)))

-- too many commits seen
beyond_spot : (n i : ℕ) (ts : List Attempt) → IfSome (at_fault n i ts) (λ s. IsSpot (λ a. (is_beyond n a ≡ true) × (s.fault.call ≡ None)) i ts s)
beyond_spot n i [] = tt
beyond_spot n i (a ∷ rest) =
    let P : Spot → Attempt → Type 0 = λ s b. (is_beyond n b ≡ true) × (s.fault.call ≡ None) in
    either_so (λ s. IsSpot (P s) i (a ∷ rest) s) (is_beyond n a) (at_place i (Some (at_head kind.At))) (at_fault n (suc i) rest)
    (λ on. spot_here _ i a rest _ refl (on, refl)) (λ off. IfSome_then (at_fault n (suc i) rest) (beyond_spot n (suc i) rest) (λ s x. spot_later (P s) i a rest s x))

-- the one that is committed at a position
committed_spot : (deepest : ℕ) (m : List ℕ) (k i : ℕ) (ts : List Attempt) → IfSome (fault_at deepest m k i ts) (λ s. IsSpot (λ a. (is_at k a ≡ true) × (fault_in deepest m a ≡ Some s.fault)) i ts s)
committed_spot deepest m k i [] = tt
committed_spot deepest m k i (a ∷ rest) =
    let P : Spot → Attempt → Type 0 = λ s b. (is_at k b ≡ true) × (fault_in deepest m b ≡ Some s.fault) in
    let Q : Spot → Type 0 = λ s. IsSpot (P s) i (a ∷ rest) s in
    either_so Q (is_at k a) (at_place i (fault_in deepest m a)) (fault_at deepest m k (suc i) rest)
    (λ on. placed_at Q i (fault_in deepest m a) (found (fault_in deepest m a) (λ f e. spot_here (P (record { attempt = i; fault = f })) i a rest (record { attempt = i; fault = f }) refl (on, e))))
    (λ off. IfSome_then (fault_at deepest m k (suc i) rest) (committed_spot deepest m k (suc i) rest) (λ s x. spot_later (P s) i a rest s x))

-- the first position of such a one
pub record IsFirst (h : History) (n : ℕ) (s : Spot) : Type 0 where
  pub at : ℕ
  pub below : at < n
  pub right : committed_fault h at ≡ None
  pub wrong : fault_at (depth_of h.version) (memory_at h at) at 0 h.attempts ≡ Some s

first_position : (h : History) (n : ℕ) → IfSome (committed_fault h n) (IsFirst h n)
first_position h zero = tt
first_position h (suc n) =
    let here = fault_at (depth_of h.version) (memory_at h n) n 0 h.attempts in
    first_so (IsFirst h (suc n)) (committed_fault h n) here
    (IfSome_then (committed_fault h n) (first_position h n) (λ s x. (let l = x.below in record { at = x.at; below = omega (arith, l); right = x.right; wrong = x.wrong })))
    (λ none. found here (λ s e. record { at = n; below = omega arith; right = none; wrong = e }))

-- one of the others
other_spot : (h : History) (i : ℕ) (ts : List Attempt) → IfSome (others_fault h i ts) (λ s. IsSpot (λ a. (is_committed a.outcome ≡ false) × (fault_in (depth_of h.version) (memory_at h a.at) a ≡ Some s.fault)) i ts s)
other_spot h i [] = tt
other_spot h i (a ∷ rest) =
    let P : Spot → Attempt → Type 0 = λ s b. (is_committed b.outcome ≡ false) × (fault_in (depth_of h.version) (memory_at h b.at) b ≡ Some s.fault) in
    let Q : Spot → Type 0 = λ s. IsSpot (P s) i (a ∷ rest) s in
    let f = fault_in (depth_of h.version) (memory_at h a.at) a in
    first_so Q (if is_committed a.outcome then None else at_place i f) (others_fault h (suc i) rest)
    (either_so Q (is_committed a.outcome) None (at_place i f) (λ on. tt) (λ off. placed_at Q i f (found f (λ x e. spot_here (P (record { attempt = i; fault = x })) i a rest (record { attempt = i; fault = x }) refl (off, e)))))
    (λ none. IfSome_then (others_fault h (suc i) rest) (other_spot h (suc i) rest) (λ s x. spot_later (P s) i a rest s x))

-- an attempt that is not committed saw no more commits than there are, where none did
seen_of : (n : ℕ) (ts : List Attempt) → at_fault n 0 ts ≡ None → (j : ℕ) (a : Attempt) → slice_get ts j ≡ Some a → is_committed a.outcome ≡ false → a.at ≤ n
seen_of n ts e j a there off = seen_within n a off (subst (λ (x : Attempt). is_beyond n x ≡ false) (get_or_from_slice_get ts j a a there) (none_beyond n 0 ts j a e (slice_get_within ts j a there)))

-- ## A history

module _ (h : History) where
  abbrev depth : ℕ
  depth = depth_of h.version

  abbrev many : ℕ
  many = count_committed h.attempts

  -- where it is wrong at its head, nothing is answered
  at_a_head : (s : Spot) (a : Attempt) → slice_get h.attempts s.attempt ≡ Some a → s.fault.call ≡ None → is_known h a.at ≡ false → HasReason h (Some s) (spot_answer h (Some s))
  at_a_head s a there head off =
      let nothing : answer_of h (Some a) ≡ None = cond-false (is_known h a.at) (answer_on depth (memory_at h a.at) a) None off in
      let reason : IsReason h (Some a) s.fault.call (answer_of h (Some a)) = subst (λ (c : Option ℕ). IsReason h (Some a) c (answer_of h (Some a))) (sym head) nothing in
      subst (λ (o : Option Attempt). IsReason h o s.fault.call (answer_of h o)) (sym there) reason

  -- by its replay
  by_replay : (s : Spot) (a : Attempt) → slice_get h.attempts s.attempt ≡ Some a → is_known h a.at ≡ true → fault_in depth (memory_at h a.at) a ≡ Some s.fault → HasReason h (Some s) (spot_answer h (Some s))
  by_replay s a there known wrong =
      let is : answer_of h (Some a) ≡ answer_on depth (memory_at h a.at) a = cond-true (is_known h a.at) (answer_on depth (memory_at h a.at) a) None known in
      let reason : IsReason h (Some a) s.fault.call (answer_of h (Some a)) = subst (λ (x : Option Reply). IsReasonIn depth (memory_at h a.at) a s.fault.call x) (sym is) (so_at (λ f. IsReasonIn depth (memory_at h a.at) a f.call (answer_on depth (memory_at h a.at) a)) wrong (reason_in depth (memory_at h a.at) a)) in
      subst (λ (o : Option Attempt). IsReason h o s.fault.call (answer_of h o)) (sym there) reason

  -- the spot's attempt among all
  place_of : {P : Attempt → Type 0} {s : Spot} (x : IsSpot P 0 h.attempts s) → slice_get h.attempts s.attempt ≡ Some x.attempt
  place_of {P} {s} x = (let e = x.is in let is : x.place ≡ s.attempt = omega (arith, e) in subst (λ (i : ℕ). slice_get h.attempts i ≡ Some x.attempt) is x.there)

  abbrev placed : Option Spot
  placed = position_fault many [] h.attempts

  of_position : (s : Spot) → placed ≡ Some s → HasReason h (Some s) (spot_answer h (Some s))
  of_position s e =
      let x = so_at (λ t. IsSpot (λ a. t.fault.call ≡ None) 0 h.attempts t) e (position_spot many [] h.attempts) in
      at_a_head s x.attempt (place_of x) x.holds (and_left (is_none placed) (is_reached h x.attempt.at) (ap (λ (o : Option Spot). is_none o) e))

  of_beyond : (s : Spot) → at_fault many 0 h.attempts ≡ Some s → HasReason h (Some s) (spot_answer h (Some s))
  of_beyond s e =
      let x = so_at (λ t. IsSpot (λ a. (is_beyond many a ≡ true) × (t.fault.call ≡ None)) 0 h.attempts t) e (beyond_spot many 0 h.attempts) in
      let far : nat_le x.attempt.at many ≡ false = lt-leb x.attempt.at many (ltb-true many x.attempt.at (and_parts (not (is_committed x.attempt.outcome)) (nat_lt many x.attempt.at) x.holds.0).1) in
      at_a_head s x.attempt (place_of x) x.holds.1 (and_right (is_none placed) (is_reached h x.attempt.at) (and_left (nat_le x.attempt.at many) (is_none (committed_fault h x.attempt.at)) far))

  known_at : (at : ℕ) → placed ≡ None → at ≤ many → committed_fault h at ≡ None → is_known h at ≡ true
  known_at at once within right =
      and_from (is_none placed) (is_reached h at) (ap (λ (o : Option Spot). is_none o) once)
      (and_from (nat_le at many) (is_none (committed_fault h at)) (le-leb at many within) (ap (λ (o : Option Spot). is_none o) right))

  of_committed : (s : Spot) → placed ≡ None → committed_fault h many ≡ Some s → HasReason h (Some s) (spot_answer h (Some s))
  of_committed s once e =
      let k = so_at (IsFirst h many) e (first_position h many) in
      let x = so_at (λ t. IsSpot (λ a. (is_at k.at a ≡ true) × (fault_in depth (memory_at h k.at) a ≡ Some t.fault)) 0 h.attempts t) k.wrong (committed_spot depth (memory_at h k.at) k.at 0 h.attempts) in
      let a = x.attempt in
      let is : k.at ≡ a.at = sym (eqb-true a.at k.at (and_parts (is_committed a.outcome) (a.at == k.at) x.holds.0).1) in
      let below = k.below in
      let right : committed_fault h a.at ≡ None = subst (λ (n : ℕ). committed_fault h n ≡ None) is k.right in
      by_replay s a (place_of x) (known_at a.at once (omega (arith, below, is)) right) (subst (λ (n : ℕ). fault_in depth (memory_at h n) a ≡ Some s.fault) is x.holds.1)

  of_other : (s : Spot) → placed ≡ None → at_fault many 0 h.attempts ≡ None → committed_fault h many ≡ None → others_fault h 0 h.attempts ≡ Some s → HasReason h (Some s) (spot_answer h (Some s))
  of_other s once seen right e =
      let x = so_at (λ t. IsSpot (λ a. (is_committed a.outcome ≡ false) × (fault_in depth (memory_at h a.at) a ≡ Some t.fault)) 0 h.attempts t) e (other_spot h 0 h.attempts) in
      let a = x.attempt in
      let within = seen_of many h.attempts seen x.place a x.there x.holds.0 in
      by_replay s a (place_of x) (known_at a.at once within (right_below h many a.at within right)) x.holds.1

  by_parts : (p b c o : Option Spot) → placed ≡ p → at_fault many 0 h.attempts ≡ b → committed_fault h many ≡ c → others_fault h 0 h.attempts ≡ o
      → HasReason h (first_of p (first_of b (first_of c o))) (spot_answer h (first_of p (first_of b (first_of c o))))
  by_parts (Some s) b c o ep eb ec eo = of_position s ep
  by_parts None (Some s) c o ep eb ec eo = of_beyond s eb
  by_parts None None (Some s) o ep eb ec eo = of_committed s ep ec
  by_parts None None None (Some s) ep eb ec eo = of_other s ep eb ec eo
  by_parts None None None None ep eb ec eo = refl

  -- of every history
  pub reason_of : HasReason h (first_fault h many) (spot_answer h (first_fault h many))
  reason_of = by_parts placed (at_fault many 0 h.attempts) (committed_fault h many) (others_fault h 0 h.attempts) refl refl refl refl
