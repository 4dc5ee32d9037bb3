-- As many puts are of new keys as there are keys at the end.
use Rattle.std.proofs.Common.{◌≡◌, ◌≢◌, ◌∙◌, ℕ, zero, suc, ◌+◌, ◌<◌, ◌≤◌, ◌==◌, Bool, true, false, true≢false, cond, List, [], ◌∷◌, ◌++◌, length, ap, refl, subst, sym, arith}
use Rattle.tx_map.proofs.Common.{EachPuts, HasAllPairs, HasOnlyPairs, IsEmpty, Put, PutsPair, View, added_in, added_of, bytes_in, eq-eqb, eqb-true, positions, times}
use Rattle.tx_map.proofs.Counts.{times_here, times_other}
use Rattle.tx_map.proofs.Keys.{all_in, keys_in, none_in, put_adds, upto, upto_but, upto_none}

-- ## What each commit adds

-- how many keys were new at this position
abbrev weight : ℕ → List (ℕ × Put) → ℕ
weight p [] = 0
weight p (x ∷ xs) = cond {A = ℕ} (x.0 == p) (added_of x.1) 0 + weight p xs

away_of : (p q : ℕ) → (q == p) ≡ false → q ≢ p
away_of p q is same = true≢false (sym (eq-eqb q p same) ∙ is)

weighs : (p : ℕ) (x : ℕ × Put) (xs : List (ℕ × Put)) (b : Bool) → (x.0 == p) ≡ b → weight p (x ∷ xs) ≡ cond {A = ℕ} b (added_of x.1) 0 + weight p xs
weighs p x xs b is = ap (λ (b : Bool). cond {A = ℕ} b (added_of x.1) 0 + weight p xs) is

no_weight : (p : ℕ) (made : List (ℕ × Put)) → times p (positions made) ≡ 0 → weight p made ≡ 0
no_weight p [] none = refl
no_weight p (x ∷ xs) none = by (x.0 == p) refl (no_weight p xs)
  where
    by : (b : Bool) → (x.0 == p) ≡ b → (times p (positions xs) ≡ 0 → weight p xs ≡ 0) → weight p (x ∷ xs) ≡ 0
    by true is rest = absurd (omega (arith, none, times_here p x.0 (positions xs) (eqb-true x.0 p is)))
    by false is rest =
        let sum : weight p (x ∷ xs) ≡ 0 + weight p xs = weighs p x xs false is in
        omega (arith, sum, rest (omega (arith, none, times_other p x.0 (positions xs) (away_of p x.0 is))))

upto_sum : (f g : ℕ → ℕ) (n : ℕ) → upto (λ (k : ℕ). f k + g k) n ≡ upto f n + upto g n
upto_sum f g zero = refl
upto_sum f g (suc n) = omega (arith, upto_sum f g n)

point_off : (q a k : ℕ) → k ≢ q → 0 ≡ cond {A = ℕ} (q == k) a 0
point_off q a k away = by (q == k) refl
  where
    by : (b : Bool) → (q == k) ≡ b → 0 ≡ cond {A = ℕ} (q == k) a 0
    by true is = absurd (away (sym (eqb-true q k is)))
    by false is = sym (ap (λ (b : Bool). cond {A = ℕ} b a 0) is)

upto_point : (q a n : ℕ) → q < n → upto (λ (p : ℕ). cond {A = ℕ} (q == p) a 0) n ≡ a
upto_point q a n few =
    let but : upto (λ (p : ℕ). cond {A = ℕ} (q == p) a 0) n + 0 ≡ upto (λ (p : ℕ). 0) n + cond {A = ℕ} (q == q) a 0 = upto_but (λ (p : ℕ). 0) (λ (p : ℕ). cond {A = ℕ} (q == p) a 0) q n few (point_off q a) in
    let none : upto (λ (p : ℕ). 0) n ≡ 0 = upto_none (λ (p : ℕ). 0) n (λ k h. refl) in
    let here : cond {A = ℕ} (q == q) a 0 ≡ a = ap (λ (b : Bool). cond {A = ℕ} b a 0) (eq-eqb q q refl) in
    omega (arith, but, none, here)

-- ## All commits

-- a commit puts some pair
pub record PutsSome (first count keys : ℕ) (v : View) (made : ℕ × Put) : Type 0 where
  pub number : ℕ
  pub few : number < keys
  pub puts : PutsPair first count number v made

abbrev pub AllPut : ℕ → ℕ → ℕ → View → List (ℕ × Put) → Type 0
AllPut first count keys v [] = Unit {0}
AllPut first count keys v (x ∷ xs) = PutsSome first count keys v x × AllPut first count keys v xs

module _ (first count keys : ℕ) (v : View) where
  pub all_of_each : (n : ℕ) (made : List (ℕ × Put)) → n + length made ≤ keys → EachPuts first count n v made → AllPut first count keys v made
  all_of_each n [] few e = tt
  all_of_each n (x ∷ xs) few e = (record { number = n; few = omega (arith, few); puts = e.0 }, all_of_each (suc n) xs (omega (arith, few)) e.1)

  pub all_append : (xs ys : List (ℕ × Put)) → AllPut first count keys v xs → AllPut first count keys v ys → AllPut first count keys v (xs ++ ys)
  all_append [] ys a b = b
  all_append (x ∷ xs) ys a b = (a.0, all_append xs ys a.1 b)

  all_weight : (made : List (ℕ × Put)) → AllPut first count keys v made → upto (λ (p : ℕ). weight p made) (length v.seen) ≡ added_in made
  all_weight [] all = upto_none (λ (p : ℕ). 0) (length v.seen) (λ k h. refl)
  all_weight (x ∷ xs) all =
      let split : upto (λ (p : ℕ). weight p (x ∷ xs)) (length v.seen) ≡ upto (λ (p : ℕ). cond {A = ℕ} (x.0 == p) (added_of x.1) 0) (length v.seen) + upto (λ (p : ℕ). weight p xs) (length v.seen) = upto_sum (λ (p : ℕ). cond {A = ℕ} (x.0 == p) (added_of x.1) 0) (λ (p : ℕ). weight p xs) (length v.seen) in
      omega (arith, split, upto_point x.0 (added_of x.1) (length v.seen) all.0.puts.seen, all_weight xs all.1)

  -- the commit at a position that stands there once
  record PutsOnce (p weight_is : ℕ) : Type 0 where
    pub number : ℕ
    pub few : number < keys
    pub put : Put
    pub puts : PutsPair first count number v (p, put)
    pub adds : weight_is ≡ added_of put

  puts_once : (p : ℕ) (made : List (ℕ × Put)) → AllPut first count keys v made → times p (positions made) ≡ 1 → PutsOnce p (weight p made)
  puts_once p [] all once = let none : times p [] ≡ 0 = refl in absurd (omega (arith, once, none))
  puts_once p (x ∷ xs) all once = by (x.0 == p) refl (puts_once p xs all.1)
    where
      by : (b : Bool) → (x.0 == p) ≡ b → (times p (positions xs) ≡ 1 → PutsOnce p (weight p xs)) → PutsOnce p (weight p (x ∷ xs))
      by true is rest =
          let same : x.0 ≡ p = eqb-true x.0 p is in
          let sum : weight p (x ∷ xs) ≡ added_of x.1 + weight p xs = weighs p x xs true is in
          let none : weight p xs ≡ 0 = no_weight p xs (omega (arith, once, times_here p x.0 (positions xs) same)) in
          record { number = all.0.number; few = all.0.few; put = x.1; puts = subst (λ (q : ℕ). PutsPair first count all.0.number v (q, x.1)) same all.0.puts; adds = omega (arith, sum, none) }
      by false is rest =
          let sum : weight p (x ∷ xs) ≡ 0 + weight p xs = weighs p x xs false is in
          let r = rest (omega (arith, once, times_other p x.0 (positions xs) (away_of p x.0 is))) in
          record { number = r.number; few = r.few; put = r.put; puts = r.puts; adds = omega (arith, sum, r.adds) }

  module _ (made : List (ℕ × Put)) (all : AllPut first count keys v made) (once : (p : ℕ) → p < length v.seen → times p (positions made) ≡ 1) (empty : IsEmpty first count (bytes_in v 0)) (pairs : (k : ℕ) → k ≤ length v.seen → HasOnlyPairs first count keys (bytes_in v k)) where
    keys_at : (k : ℕ) → k ≤ length v.seen → keys_in first count keys (bytes_in v k) ≡ upto (λ (p : ℕ). weight p made) k
    keys_at zero h = none_in first count keys (bytes_in v 0) empty
    keys_at (suc k) h =
        let one = puts_once k made all (once k (omega (arith, h))) in
        let more : keys_in first count keys (bytes_in v (suc k)) ≡ keys_in first count keys (bytes_in v k) + added_of one.put = put_adds first count keys one.number one.few (bytes_in v k) (bytes_in v (suc k)) one.put one.puts.put_is (pairs k (omega (arith, h))).map one.puts.puts in
        omega (arith, more, one.adds, keys_at k (omega (arith, h)))

    pub as_many_new : HasAllPairs first count keys (bytes_in v (length v.seen)) → added_in made ≡ keys
    as_many_new there = sym (all_weight made all) ∙ sym (keys_at (length v.seen) (omega arith)) ∙ all_in first count keys (bytes_in v (length v.seen)) there
