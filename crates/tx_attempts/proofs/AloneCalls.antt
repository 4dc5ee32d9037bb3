-- A player that makes its calls alone, one by one: they come first in what it gets.
use Rattle.std.proofs.Common.{◌≡◌, ℕ, zero, suc, ◌≤◌, Bool, true, false, if◌then◌else◌, is_none, is_some, List, [], ◌∷◌, ◌++◌, length, map, Option, None, Some, refl, sym, ap, ◌∙◌, arith, cond}
use Rattle.tx_attempts.proofs.Common.{Begin, Beginning, Breaks, Call, CallRecord, IsAlone, Obeys, Refusal, Reply, Rules, State, after, after_unless, begin_within, cond-false, effect, gets_through, is_open, later, outside, pair_of, player_then, refusal, reply, state_then, stays_outside, turn}

-- a call that is made in an open block is the player's next
asked_if : (b : Bool) (o : Option Call) (c : Call) → cond b o None ≡ Some c → o ≡ Some c
asked_if true o c e = e
asked_if false o c e = absurd (cc)

-- and in an open block it is made
pub open_asked : (b : Bool) (o : Option Call) (c : Call) → (if b then o else None) ≡ Some c → b ≡ true
open_asked true o c e = refl
open_asked false o c e = absurd (cc)

-- the breaks that come after these calls
abbrev pub breaks_after : Breaks → List CallRecord → Breaks
breaks_after br [] = br
breaks_after br (x ∷ xs) = breaks_after (later br) xs

module _ {P : Type 0} (rules : Rules P) (laws : Obeys rules) (deepest : ℕ) where
  pub asked : (p : P) (s : State) (c : Call) → turn rules.next_call rules.answered rules.calls_left p s ≡ Some c → rules.next_call p ≡ Some c
  asked p s c e = asked_if (is_open s) (rules.next_call p) c e

  abbrev gets : ℕ → Breaks → P → State → Option Call → List (Call × Reply)
  gets n b p s o = gets_through rules.next_call rules.answered rules.calls_left deepest n b p s o

  -- so many calls suffice
  enough : (n k : ℕ) (br : Breaks) (p : P) (s : State) (o : Option Call) → turn rules.next_call rules.answered rules.calls_left p s ≡ o → rules.calls_left p ≤ n → rules.calls_left p ≤ k → gets n br p s o ≡ gets k br p s o
  enough zero zero br p s o e a b = refl
  enough (suc n) (suc k) br p s (Some c) e a b =
      let r = reply deepest s c in
      let l = laws.nearer p c r (asked p s c e) in
      let t : State = br 1 (after deepest s c) in
      ap (λ (xs : List (Call × Reply)). (c, r) ∷ xs)
      (enough n k (later br) (rules.answered p r) t (turn rules.next_call rules.answered rules.calls_left (rules.answered p r) t) refl (omega arith) (omega arith))
  enough n k br p s (Some c) e a b = (let l = laws.nearer p c (reply deepest s c) (asked p s c e) in absurd (omega arith))
  enough (suc n) zero br p s None e a b = refl
  enough n k br p s None e a b = refl

  -- the calls made alone come first, and then what the player gets after them
  pub begins_alone : (n : ℕ) (br : Breaks) (p : P) (s : State) (xs : List CallRecord) → rules.calls_left p ≤ n → IsAlone rules deepest br p s xs
      → gets n br p s (turn rules.next_call rules.answered rules.calls_left p s)
      ≡ map pair_of xs ++ gets n (breaks_after br xs) (player_then rules.answered p xs) (state_then deepest br s xs) (turn rules.next_call rules.answered rules.calls_left (player_then rules.answered p xs) (state_then deepest br s xs))
  begins_alone n br p s [] l h = refl
  begins_alone zero br p s (x ∷ xs) l h = (let k = laws.nearer p x.call x.reply (asked p s x.call h.0) in absurd (omega arith))
  begins_alone (suc n) br p s (x ∷ xs) l h =
      let k = laws.nearer p x.call x.reply (asked p s x.call h.0) in
      let q : P = rules.answered p x.reply in
      let t : State = br 1 (after deepest s x.call) in
      ap (gets (suc n) br p s) h.0
      ∙ (ap (λ (r : Reply). (x.call, r) ∷ gets n (later br) (rules.answered p r) t (turn rules.next_call rules.answered rules.calls_left (rules.answered p r) t)) (sym h.1)
      ∙ (ap (λ (ys : List (Call × Reply)). pair_of x ∷ ys) (enough n (suc n) (later br) q t (turn rules.next_call rules.answered rules.calls_left q t) refl (omega arith) (omega arith))
      ∙ ap (λ (ys : List (Call × Reply)). pair_of x ∷ ys) (begins_alone (suc n) (later br) q t xs (omega arith) h.2)))

-- ## One call more

pub player_snoc : {P : Type 0} (answered : P → Reply → P) (p : P) (xs : List CallRecord) (x : CallRecord) → player_then answered p (xs ++ x ∷ []) ≡ answered (player_then answered p xs) x.reply
player_snoc answered p [] x = refl
player_snoc answered p (y ∷ ys) x = player_snoc answered (answered p y.reply) ys x

-- the break after it is the one after as many calls as there are then
pub state_snoc : (deepest : ℕ) (br : Breaks) (s : State) (xs : List CallRecord) (x : CallRecord) → state_then deepest br s (xs ++ x ∷ []) ≡ br (suc (length xs)) (after deepest (state_then deepest br s xs) x.call)
state_snoc deepest br s [] x = refl
state_snoc deepest br s (y ∷ ys) x = state_snoc deepest (later br) (br 1 (after deepest s y.call)) ys x

module _ {P : Type 0} (rules : Rules P) (laws : Obeys rules) where
  pub alone_snoc : (deepest : ℕ) (br : Breaks) (p : P) (s : State) (xs : List CallRecord) (x : CallRecord) → IsAlone rules deepest br p s xs
      → turn rules.next_call rules.answered rules.calls_left (player_then rules.answered p xs) (state_then deepest br s xs) ≡ Some x.call → x.reply ≡ reply deepest (state_then deepest br s xs) x.call
      → IsAlone rules deepest br p s (xs ++ x ∷ [])
  alone_snoc deepest br p s [] x h t r = (t, r, tt)
  alone_snoc deepest br p s (y ∷ ys) x h t r = (h.0, h.1, alone_snoc deepest (later br) (rules.answered p y.reply) (br 1 (after deepest s y.call)) ys x h.2 t r)

module _ {P : Type 0} (rules : Rules P) (laws : Obeys rules) (deepest : ℕ) where
  abbrev comes : ℕ → P → List ℕ → Option Call → Option (Beginning P)
  comes n p arena o = begin_within rules deepest n p arena o

  -- ## Bounds that suffice

  comes_enough : (n k : ℕ) (p : P) (arena : List ℕ) (o : Option Call) → rules.next_call p ≡ o → rules.calls_left p ≤ n → rules.calls_left p ≤ k → comes n p arena o ≡ comes k p arena o
  comes_enough zero zero p arena o e a c = refl
  comes_enough (suc n) (suc k) p arena (Some (Begin props room)) e a c = (
      let q : P = rules.answered p (reply deepest (outside [] arena) (Begin props room)) in
      let l = laws.nearer p (Begin props room) (reply deepest (outside [] arena) (Begin props room)) e in
      ap (cond (is_none (refusal deepest (outside [] arena) (Begin props room))) (Some (record { player = p; arena = arena; props = props })))
      (comes_enough n k q arena (rules.next_call q) refl (omega arith) (omega arith)))
  comes_enough (suc n) (suc k) p arena (Some call) e a c = (
      let q : P = rules.answered p (reply deepest (outside [] arena) call) in
      let l = laws.nearer p call (reply deepest (outside [] arena) call) e in
      comes_enough n k q _ (rules.next_call q) refl (omega arith) (omega arith))
  comes_enough n k p arena (Some call) e a c = (let l = laws.nearer p call (reply deepest (outside [] arena) call) e in absurd (omega arith))
  comes_enough (suc n) zero p arena None e a c = refl
  comes_enough n k p arena None e a c = refl

  pub gets_none : (n : ℕ) (br : Breaks) (p : P) (s : State) → gets_through rules.next_call rules.answered rules.calls_left deepest n br p s None ≡ []
  gets_none zero br p s = refl
  gets_none (suc n) br p s = refl

  -- ## Calls between blocks

  -- a begin that is refused is passed over
  steps_past : (n : ℕ) (p : P) (arena : List ℕ) (c : Call) → stays_outside deepest arena c ≡ true
      → (let q = rules.answered p (reply deepest (outside [] arena) c) in comes (suc n) p arena (Some c) ≡ comes n q (after deepest (outside [] arena) c).arena (rules.next_call q))
  steps_past n p arena (Begin props room) e = past (refusal deepest (outside [] arena) (Begin props room)) refl e
    where
      past : (o : Option Refusal) → refusal deepest (outside [] arena) (Begin props room) ≡ o → is_some o ≡ true
          → comes (suc n) p arena (Some (Begin props room)) ≡ comes n (rules.answered p (reply deepest (outside [] arena) (Begin props room))) (after deepest (outside [] arena) (Begin props room)).arena (rules.next_call (rules.answered p (reply deepest (outside [] arena) (Begin props room))))
      past None is f = absurd (cc)
      past (Some why) is f =
          cond-false (is_none (refusal deepest (outside [] arena) (Begin props room))) _ _ (ap is_none is)
          ∙ ap (λ (o : Option Refusal). comes n (rules.answered p (reply deepest (outside [] arena) (Begin props room))) (after_unless o (outside [] arena) (effect (outside [] arena) (Begin props room))).arena (rules.next_call (rules.answered p (reply deepest (outside [] arena) (Begin props room))))) (sym is)
  steps_past n p arena c e = refl

  pub comes_past : (n : ℕ) (p : P) (arena : List ℕ) (c : Call) → rules.next_call p ≡ Some c → stays_outside deepest arena c ≡ true → rules.calls_left p ≤ n
      → (let q = rules.answered p (reply deepest (outside [] arena) c) in comes n p arena (rules.next_call p) ≡ comes (rules.calls_left q) q (after deepest (outside [] arena) c).arena (rules.next_call q))
  comes_past zero p arena c e nb l = (let k = laws.nearer p c (reply deepest (outside [] arena) c) e in absurd (omega arith))
  comes_past (suc n) p arena c e nb l =
      let q : P = rules.answered p (reply deepest (outside [] arena) c) in
      let k = laws.nearer p c (reply deepest (outside [] arena) c) e in
      ap (comes (suc n) p arena) e ∙ (steps_past n p arena c nb ∙ comes_enough n (rules.calls_left q) q (after deepest (outside [] arena) c).arena (rules.next_call q) refl (omega arith) (omega arith))
