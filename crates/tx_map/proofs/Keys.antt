-- How many of the pairs' keys a map has, and how many more after a put.
use Rattle.std.proofs.Common.{◌≡◌, ◌≢◌, ◌∙◌, ◌⊎◌, inl, inr, ℕ, zero, suc, ◌+◌, ◌*◌, ◌<◌, ◌==◌, ◌||◌, Bool, true, false, true≢false, List, ap, refl, sym, arith}
use Rattle.tx_map.proofs.Common.{Added, Again, Full, HasAllPairs, HasMap, HasNo, HasPut, Holds, IsEmpty, IsPut, Put, Slots, added_of, eq-eqb, eqb-true, is_put, or_true, slots_in}
use Rattle.tx_map.proofs.Searches.{either}

-- ## Sums

abbrev pub upto : (ℕ → ℕ) → ℕ → ℕ
upto f zero = 0
upto f (suc n) = upto f n + f n

pub upto_same : (f g : ℕ → ℕ) (n : ℕ) → ((k : ℕ) → k < n → f k ≡ g k) → upto f n ≡ upto g n
upto_same f g zero same = refl
upto_same f g (suc n) same = omega (arith, upto_same f g n (λ k h. same k (omega (arith, h))), same n (omega arith))

pub upto_none : (f : ℕ → ℕ) (n : ℕ) → ((k : ℕ) → k < n → f k ≡ 0) → upto f n ≡ 0
upto_none f zero none = refl
upto_none f (suc n) none = omega (arith, upto_none f n (λ k h. none k (omega (arith, h))), none n (omega arith))

upto_each : (f : ℕ → ℕ) (n : ℕ) → ((k : ℕ) → k < n → f k ≡ 1) → upto f n ≡ n
upto_each f zero one = refl
upto_each f (suc n) one = omega (arith, upto_each f n (λ k h. one k (omega (arith, h))), one n (omega arith))

-- two sums that differ at one place
pub upto_but : (f g : ℕ → ℕ) (m n : ℕ) → m < n → ((k : ℕ) → k ≢ m → f k ≡ g k) → upto g n + f m ≡ upto f n + g m
upto_but f g m zero h same = absurd (omega (arith, h))
upto_but f g m (suc n) h same = by (either m n) (upto_but f g m n)
  where
    by : (m ≡ n) ⊎ (m ≢ n) → (m < n → ((k : ℕ) → k ≢ m → f k ≡ g k) → upto g n + f m ≡ upto f n + g m) → upto g (suc n) + f m ≡ upto f (suc n) + g m
    by (inl e) rest = omega (arith, upto_same f g n (λ k less. same k (λ is. omega (arith, less, is, e))), ap f e, ap g e)
    by (inr away) rest = omega (arith, rest (omega (arith, h, away)) same, same n (λ is. away (sym is)))

-- ## Whether some slot has a key

abbrev has : Slots → ℕ → ℕ → Bool
has slots key zero = false
has slots key (suc i) = ((slots i).0 == key) || has slots key i

has_none : (slots : Slots) (key n : ℕ) → HasNo n slots key → has slots key n ≡ false
has_none slots key zero none = refl
has_none slots key (suc n) none = by ((slots n).0 == key) refl (has_none slots key n (λ i h. none i (omega (arith, h))))
  where
    by : (b : Bool) → ((slots n).0 == key) ≡ b → has slots key n ≡ false → (((slots n).0 == key) || has slots key n) ≡ false
    by true e rest = absurd (none n (omega arith) (eqb-true (slots n).0 key e))
    by false e rest = ap (λ (b : Bool). b || has slots key n) e ∙ rest

has_some : (slots : Slots) (key n i : ℕ) → i < n → (slots i).0 ≡ key → has slots key n ≡ true
has_some slots key zero i h e = absurd (omega (arith, h))
has_some slots key (suc n) i h e = by (either i n) (has_some slots key n i)
  where
    by : (i ≡ n) ⊎ (i ≢ n) → (i < n → (slots i).0 ≡ key → has slots key n ≡ true) → (((slots n).0 == key) || has slots key n) ≡ true
    by (inl same) rest = ap (λ (b : Bool). b || has slots key n) (eq-eqb (slots n).0 key (ap (λ (j : ℕ). (slots j).0) (sym same) ∙ e))
    by (inr away) rest = ap (λ (b : Bool). ((slots n).0 == key) || b) (rest (omega (arith, h, away)) e) ∙ or_true ((slots n).0 == key)

has_at : (slots : Slots) (key n : ℕ) → has slots key n ≡ true → (i : ℕ) × (i < n) × ((slots i).0 ≡ key)
has_at slots key zero e = absurd (true≢false (sym e))
has_at slots key (suc n) e = by ((slots n).0 == key) refl (has_at slots key n)
  where
    by : (b : Bool) → ((slots n).0 == key) ≡ b → (has slots key n ≡ true → (i : ℕ) × (i < n) × ((slots i).0 ≡ key)) → (i : ℕ) × (i < suc n) × ((slots i).0 ≡ key)
    by true t rest = (n, omega arith, eqb-true (slots n).0 key t)
    by false t rest = let r = rest (sym (ap (λ (b : Bool). b || has slots key n) t) ∙ e) in (r.0, omega (arith, r.1), r.2)

module _ (count : ℕ) (slots : Slots) (key : ℕ) where
  holds_has : (v : ℕ) → Holds count slots key v → has slots key count ≡ true
  holds_has v h = has_some slots key count h.at h.within h.key_is

  has_holds : has slots key count ≡ true → (v : ℕ) × Holds count slots key v
  has_holds e = let r = has_at slots key count e in ((slots r.0).1, record { at = r.0; within = r.1; key_is = r.2; value_is = refl })

same_bool : (a b : Bool) → (a ≡ true → b ≡ true) → (b ≡ true → a ≡ true) → a ≡ b
same_bool true b to from = sym (to refl)
same_bool false true to from = from refl
same_bool false false to from = refl

abbrev one : Bool → ℕ
one true = 1
one false = 0

-- ## Pairs

module _ (first count : ℕ) where
  abbrev is_there : List ℕ → ℕ → ℕ
  is_there bytes n = one (has (slots_in bytes first) (8 * n + 1) count)

  pub keys_in : ℕ → List ℕ → ℕ
  keys_in keys bytes = upto (is_there bytes) keys

  module _ (n : ℕ) (bytes : List ℕ) where
    there_one : (v : ℕ) → Holds count (slots_in bytes first) (8 * n + 1) v → is_there bytes n ≡ 1
    there_one v h = ap one (holds_has count (slots_in bytes first) (8 * n + 1) v h)

    there_none : HasNo count (slots_in bytes first) (8 * n + 1) → is_there bytes n ≡ 0
    there_none none = ap one (has_none (slots_in bytes first) (8 * n + 1) count none)

  module _ (keys n : ℕ) (few : n < keys) (old new : List ℕ) where
    counted : IsPut count (slots_in old first) (slots_in new first) (8 * n + 1) (n + 1_000) → keys_in keys new + is_there old n ≡ keys_in keys old + 1
    unfolding keys_in
    counted put =
        let sums : keys_in keys new + is_there old n ≡ keys_in keys old + is_there new n = upto_but (is_there old) (is_there new) n keys few same in
        omega (arith, sums, there_one n new (n + 1_000) put.holds)
      where
        same : (k : ℕ) → k ≢ n → is_there old k ≡ is_there new k
        same k away = ap one (same_bool (has (slots_in old first) (8 * k + 1) count) (has (slots_in new first) (8 * k + 1) count)
            (λ h. let r = has_holds count (slots_in old first) (8 * k + 1) h in holds_has count (slots_in new first) (8 * k + 1) r.0 ((put.others (8 * k + 1) r.0 (λ e. absurd (omega arith)) (λ e. away (omega arith))).1 r.1))
            (λ h. let r = has_holds count (slots_in new first) (8 * k + 1) h in holds_has count (slots_in old first) (8 * k + 1) r.0 ((put.others (8 * k + 1) r.0 (λ e. absurd (omega arith)) (λ e. away (omega arith))).0 r.1)))

    pub put_adds : (put : Put) → is_put put ≡ true → HasMap first count old → HasPut first count (8 * n + 1) (n + 1_000) put old new → keys_in keys new ≡ keys_in keys old + added_of put
    put_adds Added is map puts = let p = puts map in omega (arith, counted p.told.0, there_none n old p.told.1)
    put_adds Again is map puts = let p = puts map in omega (arith, counted p.told.0, there_one n old p.told.1 p.told.2)
    put_adds Full is map puts = absurd (true≢false (sym is))

  pub none_in : (keys : ℕ) (bytes : List ℕ) → IsEmpty first count bytes → keys_in keys bytes ≡ 0
  unfolding keys_in
  none_in keys bytes e = upto_none (is_there bytes) keys (λ k h. there_none k bytes (λ i within is. omega (arith, e.free i within, is)))

  pub all_in : (keys : ℕ) (bytes : List ℕ) → HasAllPairs first count keys bytes → keys_in keys bytes ≡ keys
  unfolding keys_in
  all_in keys bytes h = upto_each (is_there bytes) keys (λ k less. there_one k bytes (k + 1_000) (h.each k less))
