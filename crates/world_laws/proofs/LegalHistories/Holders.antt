-- Who holds the clock, as a history counts it.
use Rattle.std.proofs.Common.{inl, inr, ◌≡◌, ℕ, zero, suc, ◌+◌, ◌<◌, ◌≤◌, Bool, true, false, true≢false, ◌&&◌, All, List, [], ◌∷◌, ◌++◌, Option, None, Some, slice_get, refl, sym, ap, ◌∙◌, arith}
use Rattle.world_laws.proofs.Common.{Actor, All-cons, All-head, All-nil, All-tail, AreEnded, AreFrom, AreTied, Attempt, Outcome, Rules, Unfinished, World, active_of, alone, cases_Bool, count_holding, depth_of, in_transaction, is_holding, is_unfinished, memory_at, one_where, opens, row_is_of, same_Some, with_open}
use Rattle.tx_history.specs.declared.history.History.{History}

-- ## Counts of two lists

pub count_holding_both : (h : History) (xs ys : List Attempt) → count_holding h (xs ++ ys) ≡ count_holding h xs + count_holding h ys
count_holding_both h [] ys = (let e : count_holding h ys ≡ 0 + count_holding h ys = omega arith in e)
count_holding_both h (x ∷ xs) ys = (let e = count_holding_both h xs ys in omega arith)

-- ## Ended attempts hold nothing

pub all_ended : (Q : Attempt → Type 0) (xs : List Attempt) → AreEnded xs → ((row : Attempt) → (row.outcome ≡ Unfinished → ⊥) → Q row) → All Q xs
all_ended Q [] e each = All-nil Q
all_ended Q (x ∷ xs) e each = All-cons Q x xs (each x e.0) (all_ended Q xs e.1 each)

over : (o : Outcome) → (o ≡ Unfinished → ⊥) → is_unfinished o ≡ false
over Unfinished n = absurd (n refl)
over o n = refl

module _ (h : History) where
  over_free : (a : Attempt) → (a.outcome ≡ Unfinished → ⊥) → is_holding h a ≡ false
  over_free a n = ap (λ (b : Bool). b && (alone (depth_of h.version) (memory_at h a.at) a).irrevocable) (over a.outcome n)

  pub none_held : (xs : List Attempt) → All (λ (a : Attempt). is_holding h a ≡ true → ⊥) xs → count_holding h xs ≡ 0
  none_held [] all = refl
  none_held (x ∷ xs) all = elim (cases_Bool (is_holding h x)) [
    | inl t ↦ absurd (All-head (λ (a : Attempt). is_holding h a ≡ true → ⊥) x xs all t)
    | inr f ↦ (let r = none_held xs (All-tail (λ (a : Attempt). is_holding h a ≡ true → ⊥) x xs all) in let none : one_where (is_holding h x) ≡ 0 = ap one_where f in omega arith)
  ]

  pub ended_free : (xs : List Attempt) → AreEnded xs → count_holding h xs ≡ 0
  ended_free xs e = none_held xs (all_ended (λ (a : Attempt). is_holding h a ≡ true → ⊥) xs e (λ a n t. true≢false (sym t ∙ over_free a n)))

  pub ended_there : (n : ℕ) (xs : List Attempt) → AreEnded xs → All (λ (a : Attempt). is_holding h a ≡ true → a.at ≡ n) xs
  ended_there n xs e = all_ended (λ (a : Attempt). is_holding h a ≡ true → a.at ≡ n) xs e (λ a over t. absurd (true≢false (sym t ∙ over_free a over)))

  -- ## Open attempts, of which one thread's may hold it

  pub irrevocable_of : (a : Attempt) → is_holding h a ≡ true → (alone (depth_of h.version) (memory_at h a.at) a).irrevocable ≡ true
  irrevocable_of a t = (elim (is_unfinished a.outcome) as (λ (b : Bool). (b && (alone (depth_of h.version) (memory_at h a.at) a).irrevocable) ≡ true → (alone (depth_of h.version) (memory_at h a.at) a).irrevocable ≡ true) [ true ↦ λ e. e | false ↦ λ e. absurd (cc) ]) t

  abbrev pub HeldBy : ℕ → Attempt → Type 0
  HeldBy i a = is_holding h a ≡ true → a.thread ≡ i

  none_past : (i n : ℕ) (xs : List Attempt) → i < n → AreFrom n xs → All (HeldBy i) xs → All (λ (a : Attempt). is_holding h a ≡ true → ⊥) xs
  none_past i n [] l from all = All-nil (λ (a : Attempt). is_holding h a ≡ true → ⊥)
  none_past i n (x ∷ xs) l from all = All-cons (λ (a : Attempt). is_holding h a ≡ true → ⊥) x xs (λ t. omega (arith, l, from.0, All-head (HeldBy i) x xs all t))
      (none_past i (x.thread + 1) xs (omega (arith, l, from.0)) from.1 (All-tail (HeldBy i) x xs all))

  pub one_held : (i n : ℕ) (xs : List Attempt) → AreFrom n xs → All (HeldBy i) xs → count_holding h xs ≤ 1
  one_held i n [] from all = omega arith
  one_held i n (x ∷ xs) from all = elim (cases_Bool (is_holding h x)) [
    | inl t ↦
        (let r = none_held xs (none_past i (x.thread + 1) xs (let same = All-head (HeldBy i) x xs all t in omega arith) from.1 (All-tail (HeldBy i) x xs all)) in
        let one : one_where (is_holding h x) ≡ 1 = ap one_where t in
        omega arith)
    | inr f ↦
        (let r = one_held i (x.thread + 1) xs from.1 (All-tail (HeldBy i) x xs all) in
        let none : one_where (is_holding h x) ≡ 0 = ap one_where f in
        omega arith)
  ]

-- ## Places

module _ {P : Type 0} where
  -- it is of the actor that it is the open attempt of
  pub placed_there : {rules : Rules P} {w : World P} → AreTied rules w → (place : ℕ) (a : Actor P) (row : Attempt) → slice_get w.actors place ≡ Some a → active_of a ≡ Some row → row.thread ≡ place
  placed_there tied place a row here some = row_is_of (in_transaction a.engine) a row (tied.rows place a here) some ∙ tied.threads place a here

  -- each open attempt is that of an actor
  pub each_open : (Q : Attempt → Type 0) (xs : List (Actor P)) → ((place : ℕ) (a : Actor P) (row : Attempt) → slice_get xs place ≡ Some a → active_of a ≡ Some row → Q row) → All Q (opens xs)
  each_open Q [] each = All-nil Q
  each_open Q (x ∷ xs) each =
      let rest = each_open Q xs (λ place. each (suc place)) in
      (elim (active_of x) as (λ (o : Option Attempt). ((row : Attempt) → slice_get (x ∷ xs) zero ≡ Some x → o ≡ Some row → Q row) → All Q (with_open o (opens xs))) [ None ↦ λ here. rest | Some row ↦ λ here. All-cons Q row (opens xs) (here row refl refl) rest ]) (each zero x)

  -- it stands among them
  pub stands_among : (xs : List (Actor P)) (place : ℕ) (a : Actor P) (row : Attempt) → slice_get xs place ≡ Some a → active_of a ≡ Some row → (before rest : List Attempt) × (opens xs ≡ before ++ row ∷ rest)
  stands_among [] place a row here e = absurd (cc)
  stands_among (x ∷ xs) zero a row here e = ([], opens xs, ap (λ (o : Option Attempt). with_open o (opens xs)) (ap (λ (y : Actor P). active_of y) (same_Some _ _ here) ∙ e))
  stands_among (x ∷ xs) (suc place) a row here e =
      let there = stands_among xs place a row here e in
      elim (active_of x) as (λ (o : Option Attempt). (before rest : List Attempt) × (with_open o (opens xs) ≡ before ++ row ∷ rest)) [ None ↦ there | Some y ↦ (y ∷ there.0, there.1, ap (λ (l : List Attempt). y ∷ l) there.2) ]
