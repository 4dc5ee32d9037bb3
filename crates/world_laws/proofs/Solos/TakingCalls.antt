-- The calls of an attempt before the first one that takes the clock.
use Rattle.std.proofs.Common.{◌≡◌, ℕ, Bool, true, false, true≢false, not, ◌&&◌, ◌||◌, if◌then◌else◌, List, [], ◌∷◌, ◌++◌, map, Option, None, Some, refl, sym, ap, ◌∙◌, inl, inr}
use Rattle.world_laws.proofs.Common.{Call, CallRecord, IsAlone, Props, Reply, Rules, State, after, append-nil, before_taking, cases_Bool, false_from_ne_true, irrevocable_from, is_open, opened, option_map, or_left, outside, pair_of, pushed, state_then, takes_clock, unbroken}
use Rattle.tx_history.proofs.Runs.UnwrittenTransactions.{AllInside, StandsOn, stands_after, stands_held}

in_open : (b : Bool) (o : Option Call) (c : Call) → (if b then o else None) ≡ Some c → b ≡ true
in_open true o c e = refl
in_open false o c e = absurd (cc)

-- a block that goes irrevocable is
pub goes_opened : (memory arena : List ℕ) (props : Props) → props.goes_irrevocable ≡ true → (opened memory arena props).irrevocable ≡ true
goes_opened memory arena props goes =
    ap (λ (b : Bool). (if b then irrevocable_from (pushed (outside memory arena) props) else pushed (outside memory arena) props).irrevocable) goes

-- revocable and open, the clock is not taken
not_taking : (s : State) → s.irrevocable ≡ false → is_open s ≡ true → takes_clock s ≡ false
not_taking s e o = λ i. e i || (not (o i) && s.wrote)

-- once it is irrevocable, it is taken for good
fixed_takes : (m : List ℕ) (s : State) → StandsOn m (Unit {0}) s → takes_clock s ≡ true
fixed_takes m s h = elim (cases_Bool (is_open s)) [
  | inl o ↦ or_left s.irrevocable (not (is_open s) && s.wrote) (h.mode tt o)
  | inr shut ↦ (λ i. s.irrevocable || (not (shut i) && (h.lasts (inr tt)).0 i)) ∙ elim s.irrevocable as (λ (b : Bool). (b || true) ≡ true) [ true ↦ refl | false ↦ refl ]
]

mapped_twice : (x : Call × Reply) (xs : List (Call × Reply)) (o : Option (List (Call × Reply)))
    → option_map (λ (ys : List (Call × Reply)). x ∷ ys) (option_map (λ (ys : List (Call × Reply)). xs ++ ys) o) ≡ option_map (λ (ys : List (Call × Reply)). x ∷ (xs ++ ys)) o
mapped_twice x xs None = refl
mapped_twice x xs (Some ys) = refl

-- ## Calls made alone

module _ {P : Type 0} (rules : Rules P) (deepest : ℕ) (m : List ℕ) where
  all_inside : (p : P) (s : State) (xs : List CallRecord) → IsAlone rules deepest unbroken p s xs → AllInside deepest unbroken s (map (λ (x : CallRecord). x.call) xs)
  all_inside p s [] a = tt
  all_inside p s (x ∷ xs) a = (in_open (is_open s) (rules.next_call p) x.call a.0, all_inside (rules.answered p x.reply) (after deepest s x.call) xs a.2)

  pub stands_then : (p : P) (s : State) (xs : List CallRecord) → IsAlone rules deepest unbroken p s xs → StandsOn m ⊥ s → StandsOn m ⊥ (state_then deepest unbroken s xs)
  stands_then p s xs a h = stands_after deepest m ⊥ unbroken (λ n t g. g) s (map (λ (x : CallRecord). x.call) xs) (all_inside p s xs a) h

  -- where the state after them takes no clock, neither do those before
  revocable_before : (p : P) (s : State) (xs : List CallRecord) → IsAlone rules deepest unbroken p s xs → StandsOn m ⊥ s → takes_clock (state_then deepest unbroken s xs) ≡ false → s.irrevocable ≡ false
  revocable_before p s xs a h e = false_from_ne_true s.irrevocable (λ k.
      (let last = stands_after deepest m (Unit {0}) unbroken (λ n t g. g) s (map (λ (x : CallRecord). x.call) xs) (all_inside p s xs a) (stands_held m s h k) in
      true≢false (sym (fixed_takes m (state_then deepest unbroken s xs) last) ∙ e)))

  free_before : (p : P) (s : State) (xs : List CallRecord) → IsAlone rules deepest unbroken p s xs → StandsOn m ⊥ s → takes_clock (state_then deepest unbroken s xs) ≡ false → takes_clock s ≡ false
  free_before p s [] a h e = e
  free_before p s (x ∷ xs) a h e = not_taking s (revocable_before p s (x ∷ xs) a h e) (in_open (is_open s) (rules.next_call p) x.call a.0)

  untaken : (p : P) (s : State) (xs : List CallRecord) (rest : List (Call × Reply)) → IsAlone rules deepest unbroken p s xs → StandsOn m ⊥ s → takes_clock (state_then deepest unbroken s xs) ≡ false
      → before_taking deepest s (map pair_of xs ++ rest) ≡ option_map (λ (ys : List (Call × Reply)). map pair_of xs ++ ys) (before_taking deepest (state_then deepest unbroken s xs) rest)
  untaken p s [] rest a h e = sym (elim (before_taking deepest s rest) as (λ (o : Option (List (Call × Reply))). option_map (λ (ys : List (Call × Reply)). ys) o ≡ o) [ None ↦ refl | Some ys ↦ refl ])
  untaken p s (x ∷ xs) rest a h e =
      let t : State = after deepest s x.call in
      let on : StandsOn m ⊥ t = stands_then p s (x ∷ []) (a.0, a.1, tt) h in
      ap (λ (b : Bool). if b then Some [] else option_map (λ (before : List (Call × Reply)). pair_of x ∷ before) (before_taking deepest t (map pair_of xs ++ rest))) (free_before (rules.answered p x.reply) t xs a.2 on e)
      ∙ (ap (option_map (λ (before : List (Call × Reply)). pair_of x ∷ before)) (untaken (rules.answered p x.reply) t xs rest a.2 on e) ∙ mapped_twice (pair_of x) (map pair_of xs) (before_taking deepest (state_then deepest unbroken t xs) rest))

  -- all of them come before the clock is taken
  pub none_takes : (p : P) (s : State) (xs : List CallRecord) → IsAlone rules deepest unbroken p s xs → StandsOn m ⊥ s → takes_clock (state_then deepest unbroken s xs) ≡ false → (s.irrevocable ≡ false) × (before_taking deepest s (map pair_of xs) ≡ None)
  none_takes p s xs a h e = (revocable_before p s xs a h e, ap (before_taking deepest s) (sym (append-nil (map pair_of xs))) ∙ untaken p s xs [] a h e)

  -- the next one takes it
  pub next_takes : (p : P) (s : State) (xs : List CallRecord) (c : Call) (r : Reply) (rest : List (Call × Reply)) → IsAlone rules deepest unbroken p s xs → StandsOn m ⊥ s → is_open (state_then deepest unbroken s xs) ≡ true
      → (state_then deepest unbroken s xs).irrevocable ≡ false → takes_clock (after deepest (state_then deepest unbroken s xs) c) ≡ true
      → (s.irrevocable ≡ false) × (before_taking deepest s (map pair_of xs ++ (c, r) ∷ rest) ≡ Some (map pair_of xs))
  next_takes p s xs c r rest a h o e takes =
      let t : State = state_then deepest unbroken s xs in
      let free = not_taking t e o in (
        revocable_before p s xs a h free,
        untaken p s xs ((c, r) ∷ rest) a h free
            ∙ (ap (λ (b : Bool). option_map (λ (ys : List (Call × Reply)). map pair_of xs ++ ys) (if b then Some [] else option_map (λ (before : List (Call × Reply)). (c, r) ∷ before) (before_taking deepest (after deepest t c) rest))) takes
            ∙ ap Some (append-nil (map pair_of xs))),
      )
