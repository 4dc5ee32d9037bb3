-- Puts keep the pairs.
use Rattle.std.proofs.Common.{◌≡◌, ◌≢◌, ◌∙◌, ◌⊎◌, inl, inr, ℕ, ◌+◌, ◌*◌, ◌<◌, true, true≢false, List, subst, sym, arith}
use Rattle.tx_map.proofs.Common.{Added, Again, Full, HasMap, HasOnlyPairs, HasPair, HasPut, Holds, IsEmpty, IsPair, IsPut, Put, is_put, slots_in}
use Rattle.tx_map.proofs.Searches.{either}

-- such a map stays one, and no pair goes
pub record StillHasPairs (first count keys : ℕ) (old new : List ℕ) : Type 0 where
  pub pairs : HasOnlyPairs first count keys new
  pub stays : (n : ℕ) → HasPair first count n old → HasPair first count n new

abbrev pub KeepsPairs : ℕ → ℕ → ℕ → List ℕ → List ℕ → Type 0
KeepsPairs first count keys old new = HasOnlyPairs first count keys old → StillHasPairs first count keys old new

module _ (first count keys : ℕ) where
  keeps_same : (old new : List ℕ) → new ≡ old → KeepsPairs first count keys old new
  keeps_same old new e pairs = record { pairs = subst (HasOnlyPairs first count keys) (sym e) pairs; stays = λ n h. subst (HasPair first count n) (sym e) h }

  pub empty_only : (bytes : List ℕ) → IsEmpty first count bytes → HasOnlyPairs first count keys bytes
  empty_only bytes e = record { map = e.map; only = λ k v some h. absurd (some (sym h.key_is ∙ e.free h.at h.within)) }

  module _ (n : ℕ) (few : n < keys) (old new : List ℕ) where
    put_still : IsPut count (slots_in old first) (slots_in new first) (8 * n + 1) (n + 1_000) → HasMap first count new → KeepsPairs first count keys old new
    put_still put map pairs = record {
      pairs = record { map = map; only = λ k v some h. by_key k v some h (either k (8 * n + 1)) };
      stays = λ m h. by_number m h (either m n);
    }
      where
        by_key : (k v : ℕ) → k ≢ 0 → Holds count (slots_in new first) k v → (k ≡ 8 * n + 1) ⊎ (k ≢ 8 * n + 1) → IsPair keys k v
        by_key k v some h (inl e) = (n, few, e, put.alone v (subst (λ (x : ℕ). Holds count (slots_in new first) x v) e h))
        by_key k v some h (inr away) = pairs.only k v some ((put.others k v some away).0 h)

        by_number : (m : ℕ) → HasPair first count m old → (m ≡ n) ⊎ (m ≢ n) → HasPair first count m new
        by_number m h (inl e) = subst (λ (x : ℕ). HasPair first count x new) (sym e) put.holds
        by_number m h (inr away) = (put.others (8 * m + 1) (m + 1_000) (λ e. absurd (omega arith)) (λ e. away (omega arith))).1 h

    pub put_keeps : (put : Put) → HasPut first count (8 * n + 1) (n + 1_000) put old new → KeepsPairs first count keys old new
    put_keeps Added put pairs = let p = put pairs.map in put_still p.told.0 p.map pairs
    put_keeps Again put pairs = let p = put pairs.map in put_still p.told.0 p.map pairs
    put_keeps Full put pairs = let p = put pairs.map in keeps_same old new p.told.0 pairs

  pub put_there : (n : ℕ) (put : Put) (old new : List ℕ) → is_put put ≡ true → HasMap first count old → HasPut first count (8 * n + 1) (n + 1_000) put old new → HasPair first count n new
  put_there n Added old new is map puts = let p = puts map in p.told.0.holds
  put_there n Again old new is map puts = let p = puts map in p.told.0.holds
  put_there n Full old new is map puts = absurd (true≢false (sym is))
