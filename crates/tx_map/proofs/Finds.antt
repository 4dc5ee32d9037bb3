-- A search on the bytes, step by step, and what comes of it.
use Rattle.std.proofs.Common.{◌≡◌, ◌≢◌, ◌∙◌, ◌⊎◌, inl, inr, ℕ, ◌+◌, ◌*◌, ◌^◌, ◌<◌, ◌≤◌, List, take, drop, length, None, Some, ap, refl, sym, subst, below_more, arith}
use Rattle.tx_map.proofs.Common.{Added, Again, Full, HasFound, HasGot, HasMap, HasPut, IsPut, IsPutIn, IsTold, Passes, Put, slot_of, slots_in, to_le_bytes, w64, with_slice}
use Rattle.typed_cells.specs.declared.cell.Cell.{Cell}
use Rattle.tx_map.proofs.Bytes.{beside, length_kept, slot_kept, slot_put}
use Rattle.tx_map.proofs.Searches.{is_put, map_after, none_free, none_there, none_where_free, slot_below}

-- this slot has this, and nothing is changed
pub record Reads (first i : ℕ) (pair : ℕ × ℕ) (old new : List ℕ) : Type 0 where
  pub same : new ≡ old
  pub pair_is : slots_in old first i ≡ pair

module _ (first count key : ℕ) where
  -- so many steps have changed nothing, and met neither the key nor a free slot
  pub record Walks (steps : ℕ) (old new : List ℕ) : Type 0 where
    pub same : new ≡ old
    pub passes : Passes count (slots_in old first) key steps

  pub walks_none : (m : List ℕ) → Walks 0 m m
  walks_none m = record { same = refl; passes = record { taken = λ n h. absurd (omega arith); other = λ n h. absurd (omega arith) } }

  -- the slot had this before the search too
  read_there : (i : ℕ) (pair : ℕ × ℕ) (m n o : List ℕ) → n ≡ m → Reads first i pair n o → slots_in m first i ≡ pair
  read_there i pair m n o e r = ap (λ (bytes : List ℕ). slots_in bytes first i) (sym e) ∙ r.pair_is

  pub walks_on : (steps : ℕ) (pair : ℕ × ℕ) → pair.0 ≢ key → pair.0 ≢ 0 → (m n o : List ℕ) → Walks steps m n → Reads first (slot_of count key steps) pair n o → Walks (steps + 1) m o
  walks_on steps pair other taken m n o w r =
      let here = read_there (slot_of count key steps) pair m n o w.same r in
      let key_is : (slots_in m first (slot_of count key steps)).0 ≡ pair.0 = ap (λ (x : ℕ × ℕ). x.0) here in
      record {
        same = r.same ∙ w.same;
        passes = record {
          taken = below_more (λ k. (slots_in m first (slot_of count key k)).0 ≢ 0) steps w.passes.taken (λ e. taken (sym key_is ∙ e));
          other = below_more (λ k. (slots_in m first (slot_of count key k)).0 ≢ key) steps w.passes.other (λ e. other (sym key_is ∙ e));
        };
      }

  pub stops_here : (steps : ℕ) (slot : Cell (ℕ × ℕ)) (pair : ℕ × ℕ) → steps < count → slot.place ≡ first + 8 * slot_of count key steps → (pair.0 ≡ key) ⊎ (pair.0 ≡ 0) → (m n o : List ℕ) → Walks steps m n → Reads first (slot_of count key steps) pair n o → HasFound first count key (Some (slot, pair)) m o
  stops_here steps slot pair few place ends m n o w r = record {
    same = r.same ∙ w.same;
    ends = record { steps = steps; few = few; passes = w.passes; place_is = place; pair_is = read_there (slot_of count key steps) pair m n o w.same r; ends = ends };
  }

  -- ## Looks

  pub got_none : key ≢ 0 → (m n : List ℕ) → HasFound first count key None m n → HasGot first count key None m n
  got_none some m n f = record { same = f.same; told = λ h. none_there count (slots_in m first) key h.map some f.ends }

  pub got_free : key ≢ 0 → (slot : Cell (ℕ × ℕ)) (pair : ℕ × ℕ) → pair.0 ≢ key → (m n : List ℕ) → HasFound first count key (Some (slot, pair)) m n → HasGot first count key None m n
  got_free some slot pair other m n f = record { same = f.same; told = λ h. none_where_free count (slots_in m first) key f.ends.steps h.map some f.ends.passes (ap (λ (x : ℕ × ℕ). x.0) f.ends.pair_is ∙ by f.ends.ends) }
    where
      by : (pair.0 ≡ key) ⊎ (pair.0 ≡ 0) → pair.0 ≡ 0
      by (inl e) = absurd (other e)
      by (inr e) = e

  pub got_some : (slot : Cell (ℕ × ℕ)) (pair : ℕ × ℕ) → pair.0 ≡ key → (m n : List ℕ) → HasFound first count key (Some (slot, pair)) m n → HasGot first count key (Some pair.1) m n
  got_some slot pair e m n f = record {
    same = f.same;
    told = λ h. record {
      at = slot_of count key f.ends.steps;
      within = slot_below count key f.ends.steps f.ends.few;
      key_is = ap (λ (x : ℕ × ℕ). x.0) f.ends.pair_is ∙ e;
      value_is = ap (λ (x : ℕ × ℕ). x.1) f.ends.pair_is;
    };
  }

  -- ## Puts

  module _ (value : ℕ) (some : key ≢ 0) where
    pub put_full : (m n : List ℕ) → HasFound first count key None m n → HasPut first count key value Full m n
    put_full m n f h = record {
      map = subst (HasMap first count) (sym f.same) h;
      told = (f.same, none_there count (slots_in m first) key h.map some f.ends, none_free count (slots_in m first) key f.ends);
      beside = record { length_is = ap length f.same; below = ap (take first) f.same; above = ap (drop (first + 8 * count)) f.same };
    }

    module _ (slot : Cell (ℕ × ℕ)) (pair : ℕ × ℕ) (low : key < 2 ^ 32) (high : value < 2 ^ 32) (m n o : List ℕ) (f : HasFound first count key (Some (slot, pair)) m n) (now : o ≡ with_slice n slot.place (to_le_bytes w64 (key + 2 ^ 32 * value))) (h : HasMap first count m) where
      few : slot_of count key f.ends.steps < count
      few = slot_below count key f.ends.steps f.ends.few

      is_at : o ≡ with_slice m (first + 8 * slot_of count key f.ends.steps) (to_le_bytes w64 (key + 2 ^ 32 * value))
      is_at = now ∙ ap (λ (bytes : List ℕ). with_slice bytes slot.place (to_le_bytes w64 (key + 2 ^ 32 * value))) f.same ∙ ap (λ (at : ℕ). with_slice m at (to_le_bytes w64 (key + 2 ^ 32 * value))) f.ends.place_is

      ends : ((slots_in m first (slot_of count key f.ends.steps)).0 ≡ key) ⊎ ((slots_in m first (slot_of count key f.ends.steps)).0 ≡ 0)
      ends = by f.ends.ends
        where
          held : (slots_in m first (slot_of count key f.ends.steps)).0 ≡ pair.0
          held = ap (λ (x : ℕ × ℕ). x.0) f.ends.pair_is

          by : (pair.0 ≡ key) ⊎ (pair.0 ≡ 0) → ((slots_in m first (slot_of count key f.ends.steps)).0 ≡ key) ⊎ ((slots_in m first (slot_of count key f.ends.steps)).0 ≡ 0)
          by (inl e) = inl (held ∙ e)
          by (inr e) = inr (held ∙ e)

      here : slots_in o first (slot_of count key f.ends.steps) ≡ (key, value)
      here = slot_put m o first count (slot_of count key f.ends.steps) key value h.room few low high is_at

      rest : (j : ℕ) → j < count → j ≢ slot_of count key f.ends.steps → slots_in o first j ≡ slots_in m first j
      rest = slot_kept m o first count (slot_of count key f.ends.steps) key value h.room few low high is_at

      is : IsPut count (slots_in m first) (slots_in o first) key value
      is = is_put count (slots_in m first) (slots_in o first) key value f.ends.steps h.map some f.ends.few f.ends.passes ends here rest

      held_some : ((slots_in m first (slot_of count key f.ends.steps)).0 ≡ key) ⊎ ((slots_in m first (slot_of count key f.ends.steps)).0 ≡ 0) → pair.0 ≢ 0 → (slots_in m first (slot_of count key f.ends.steps)).0 ≡ key
      held_some (inl e) taken = e
      held_some (inr e) taken = absurd (taken (sym (ap (λ (x : ℕ × ℕ). x.0) f.ends.pair_is) ∙ e))

      put_in : (put : Put) → IsTold put first count key value m o → IsPutIn first count key value put m o
      put_in put told = record {
        map = record {
          room = subst (λ (n : ℕ). first + 8 * count ≤ n) (sym (length_kept m o first count (slot_of count key f.ends.steps) key value h.room few low high is_at)) h.room;
          map = map_after count (slots_in m first) (slots_in o first) key value f.ends.steps h.map some f.ends.few f.ends.passes ends here rest;
        };
        told = told;
        beside = beside m o first count (slot_of count key f.ends.steps) key value h.room few low high is_at;
      }

      pub added : pair.0 ≡ 0 → IsPutIn first count key value Added m o
      added free = put_in Added (is, none_where_free count (slots_in m first) key f.ends.steps h.map some f.ends.passes (ap (λ (x : ℕ × ℕ). x.0) f.ends.pair_is ∙ free))

      pub again : pair.0 ≢ 0 → IsPutIn first count key value Again m o
      again taken = put_in Again (is, (slots_in m first (slot_of count key f.ends.steps)).1, record { at = slot_of count key f.ends.steps; within = few; key_is = held_some ends taken; value_is = refl })
