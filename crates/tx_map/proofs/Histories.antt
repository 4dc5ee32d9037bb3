-- From what each commit does to the bytes that all have left.
use Rattle.std.proofs.Common.{◌≡◌, ◌∙◌, ℕ, zero, suc, ◌+◌, ◌-◌, ◌*◌, ◌<◌, ◌≤◌, List, [], ◌∷◌, length, ap, refl, subst, sym, arith}
use Rattle.tx_map.proofs.Common.{EachPuts, HasOnlyPairs, HasPair, HasPut, Put, PutsPair, StartsWith, View, bytes_in, bytes_of, memory_at}
use Rattle.shared_words.{proofs.ListPlaces.starts_le, proofs.StoredWords.memory_stays}
use Rattle.tx_map.proofs.Pairs.{KeepsPairs, put_there}

-- ## A view that has seen more

module _ (v w : View) (base : w.base ≡ v.base) (grows : StartsWith w.seen v.seen) where
  bytes_later : (k : ℕ) → k ≤ length v.seen → bytes_in w k ≡ bytes_in v k
  bytes_later k few = ap bytes_of (ap (λ (m : List ℕ). memory_at m w.seen k) base ∙ memory_stays v.base v.seen w.seen k grows few)

  seen_later : length v.seen ≤ length w.seen
  seen_later = starts_le w.seen v.seen grows

  puts_later : (first count n : ℕ) (made : ℕ × Put) → PutsPair first count n v made → PutsPair first count n w made
  puts_later first count n made p = record {
    seen = omega (arith, p.seen, seen_later);
    put_is = p.put_is;
    puts = subst (λ (m : List ℕ). HasPut first count (8 * n + 1) (n + 1_000) made.1 m (bytes_in w (suc made.0))) (sym (bytes_later made.0 (omega (arith, p.seen)))) (subst (λ (m : List ℕ). HasPut first count (8 * n + 1) (n + 1_000) made.1 (bytes_in v made.0) m) (sym (bytes_later (suc made.0) (omega (arith, p.seen)))) p.puts);
  }

  pub each_later : (first count n : ℕ) (made : List (ℕ × Put)) → EachPuts first count n v made → EachPuts first count n w made
  each_later first count n [] e = tt
  each_later first count n (x ∷ xs) e = (puts_later first count n x e.0, each_later first count (suc n) xs e.1)

-- ## All commits in order

-- the commit at this position keeps the pairs
pub record KeepsAt (first count keys : ℕ) (v : View) (at : ℕ) : Type 0 where
  pub seen : at < length v.seen
  pub keeps : KeepsPairs first count keys (bytes_in v at) (bytes_in v (suc at))

module _ (first count keys : ℕ) (v : View) (begins : HasOnlyPairs first count keys (bytes_in v 0)) (all : (p : ℕ) → p < length v.seen → KeepsAt first count keys v p) where
  pub pairs_at : (k : ℕ) → k ≤ length v.seen → HasOnlyPairs first count keys (bytes_in v k)
  pairs_at zero h = begins
  pairs_at (suc k) h = ((all k (omega arith)).keeps (pairs_at k (omega arith))).pairs

  stays_on : (n at more k : ℕ) → k ≡ more + at → k ≤ length v.seen → HasPair first count n (bytes_in v at) → HasPair first count n (bytes_in v k)
  stays_on n at zero k e h there = let same : at ≡ k = omega arith in subst (λ (j : ℕ). HasPair first count n (bytes_in v j)) same there
  stays_on n at (suc more) k e h there =
      let before : ℕ = more + at in
      let next : suc before ≡ k = omega arith in
      let few : before < length v.seen = omega arith in
      subst (λ (j : ℕ). HasPair first count n (bytes_in v j)) next
      (((all before few).keeps (pairs_at before (omega arith))).stays n (stays_on n at more before refl (omega arith) there))

  -- a pair that was put is there at the end
  pub put_stays : (n : ℕ) (made : ℕ × Put) → PutsPair first count n v made → HasPair first count n (bytes_in v (length v.seen))
  put_stays n made p =
      let at : ℕ = made.0 in
      let few : at < length v.seen = p.seen in
      let map = (pairs_at at (omega (arith, few))).map in
      let there : HasPair first count n (bytes_in v (suc at)) = put_there first count keys n made.1 (bytes_in v at) (bytes_in v (suc at)) p.put_is map p.puts in
      stays_on n (suc at) (length v.seen - suc at) (length v.seen) (omega (arith, few)) (omega arith) there
