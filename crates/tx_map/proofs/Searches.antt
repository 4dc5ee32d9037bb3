-- Searches for keys before and after a put.
use Rattle.std.proofs.Common.{◌≡◌, ◌≢◌, ◌∙◌, ◌⊎◌, inl, inr, ℕ, ◌+◌, ◌-◌, ◌*◌, ◌/◌, ◌%◌, ◌<◌, ◌≤◌, ap, sym, subst, arith}
use Rattle.tx_map.proofs.Common.{HasNo, Holds, IsMap, IsPut, Passes, Reaches, Slots, cases_lt, cases_order, div-add-mod', mod-mul-add, mod_below, slot_of}

pub either : (a b : ℕ) → (a ≡ b) ⊎ (a ≢ b)
either a b = by (cases_order a b)
  where
    by : (a ≡ b) ⊎ ((a < b) ⊎ (b < a)) → (a ≡ b) ⊎ (a ≢ b)
    by (inl e) = inl e
    by (inr (inl l)) = inr (λ e. absurd (omega arith))
    by (inr (inr l)) = inr (λ e. absurd (omega arith))

-- a search comes to each slot
pub comes_by : (count key i : ℕ) → i < count → (n : ℕ) × (n < count) × (slot_of count key n ≡ i)
comes_by count key i h = by (cases_lt i home)
  where
    home : ℕ
    home = key % count

    split : key / count * count + home ≡ key
    split = div-add-mod' key count

    low : home < count
    low = mod_below key count (omega arith)

    by : (i < home) ⊎ (home ≤ i) → (n : ℕ) × (n < count) × (slot_of count key n ≡ i)
    by (inr l) =
        let n : ℕ = i - home in
        let e : key + n ≡ key / count * count + i = omega (arith, split) in
        (n, omega arith, ap (λ k. k % count) e ∙ mod-mul-add (key / count) count i h)
    by (inl l) =
        let n : ℕ = i + count - home in
        let e : key + n ≡ (key / count + 1) * count + i = omega (arith, split) in
        (n, omega (arith, low), ap (λ k. k % count) e ∙ mod-mul-add (key / count + 1) count i h)

pub slot_below : (count key n : ℕ) → n < count → slot_of count key n < count
slot_below count key n h = mod_below (key + n) count (omega arith)

module _ (count : ℕ) (slots : Slots) (key : ℕ) where
  -- a search that has passed all slots has found neither the key nor a free one
  pub none_there : IsMap count slots → key ≢ 0 → Passes count slots key count → HasNo count slots key
  none_there m some p i h e =
      let r = subst (λ k. Reaches count slots k i) e (m.reached i h (λ z. some (sym e ∙ z))) in
      p.other r.steps r.few (ap (λ k. (slots k).0) r.here ∙ e)

  pub none_free : Passes count slots key count → HasNo count slots 0
  none_free p i h e = let by = comes_by count key i h in p.taken by.0 by.1 (ap (λ k. (slots k).0) by.2 ∙ e)

  -- where a search ends, no slot but that one has the key
  pub only_there : (n : ℕ) → IsMap count slots → key ≢ 0 → Passes count slots key n → ((slots (slot_of count key n)).0 ≡ key) ⊎ ((slots (slot_of count key n)).0 ≡ 0) → (j : ℕ) → j < count → (slots j).0 ≡ key → j ≡ slot_of count key n
  only_there n m some p ends j h e = by (cases_order r.steps n)
    where
      r : Reaches count slots key j
      r = subst (λ k. Reaches count slots k j) e (m.reached j h (λ z. some (sym e ∙ z)))

      not_passed : n < r.steps → ((slots (slot_of count key n)).0 ≡ key) ⊎ ((slots (slot_of count key n)).0 ≡ 0) → j ≡ slot_of count key n
      not_passed l (inl k) = absurd (r.passes.other n l k)
      not_passed l (inr z) = absurd (r.passes.taken n l z)

      by : (r.steps ≡ n) ⊎ ((r.steps < n) ⊎ (n < r.steps)) → j ≡ slot_of count key n
      by (inl s) = sym r.here ∙ ap (slot_of count key) s
      by (inr (inl l)) = absurd (p.other r.steps l (ap (λ k. (slots k).0) r.here ∙ e))
      by (inr (inr l)) = not_passed l ends

  -- where it is free, none has
  pub none_where_free : (n : ℕ) → IsMap count slots → key ≢ 0 → Passes count slots key n → (slots (slot_of count key n)).0 ≡ 0 → HasNo count slots key
  none_where_free n m some p free j h e = some (sym e ∙ ap (λ i. (slots i).0) (only_there n m some p (inr free) j h e) ∙ free)

-- a put into the slot where the search for its key ends
module _ (count : ℕ) (old new : Slots) (key value n : ℕ) (m : IsMap count old) (some : key ≢ 0) (few : n < count) (p : Passes count old key n) (ends : ((old (slot_of count key n)).0 ≡ key) ⊎ ((old (slot_of count key n)).0 ≡ 0)) (here : new (slot_of count key n) ≡ (key, value)) (rest : (j : ℕ) → j < count → j ≢ slot_of count key n → new j ≡ old j) where
  at : ℕ
  at = slot_of count key n

  -- before it the search meets other slots
  apart : (k : ℕ) → k < n → slot_of count key k ≢ slot_of count key n
  apart k l e = by ends
    where
      by : ((old (slot_of count key n)).0 ≡ key) ⊎ ((old (slot_of count key n)).0 ≡ 0) → ⊥
      by (inl own) = p.other k l (ap (λ i. (old i).0) e ∙ own)
      by (inr free) = p.taken k l (ap (λ i. (old i).0) e ∙ free)

  same : (k : ℕ) → k < n → (new (slot_of count key k)).0 ≡ (old (slot_of count key k)).0
  same k l = ap (λ (x : ℕ × ℕ). x.0) (rest (slot_of count key k) (slot_below count key k (omega arith)) (apart k l))

  still_passes : Passes count new key n
  still_passes = record { taken = λ k l e. p.taken k l (sym (same k l) ∙ e); other = λ k l e. p.other k l (sym (same k l) ∙ e) }

  other_passes : (k steps : ℕ) → k ≢ key → steps < count → Passes count old k steps → Passes count new k steps
  other_passes k steps differs fits q = record { taken = taken; other = other }
    where
      now_here : (i : ℕ) → i ≡ slot_of count key n → (new i).0 ≡ key
      now_here i e = ap (λ j. (new j).0) e ∙ ap (λ (x : ℕ × ℕ). x.0) here

      now_there : (i : ℕ) → i < steps → slot_of count k i ≢ slot_of count key n → (new (slot_of count k i)).0 ≡ (old (slot_of count k i)).0
      now_there i l away = ap (λ (x : ℕ × ℕ). x.0) (rest (slot_of count k i) (slot_below count k i (omega arith)) away)

      taken : (i : ℕ) → i < steps → (new (slot_of count k i)).0 ≢ 0
      taken i l z = by (either (slot_of count k i) (slot_of count key n))
        where
          by : (slot_of count k i ≡ slot_of count key n) ⊎ (slot_of count k i ≢ slot_of count key n) → ⊥
          by (inl e) = some (sym (now_here (slot_of count k i) e) ∙ z)
          by (inr away) = q.taken i l (sym (now_there i l away) ∙ z)

      other : (i : ℕ) → i < steps → (new (slot_of count k i)).0 ≢ k
      other i l z = by (either (slot_of count k i) (slot_of count key n))
        where
          by : (slot_of count k i ≡ slot_of count key n) ⊎ (slot_of count k i ≢ slot_of count key n) → ⊥
          by (inl e) = differs (sym z ∙ now_here (slot_of count k i) e)
          by (inr away) = q.other i l (sym (now_there i l away) ∙ z)

  pub map_after : IsMap count new
  map_after = record { reached = λ j h taken. by j h taken (either j (slot_of count key n)) }
    where
      by : (j : ℕ) → j < count → (new j).0 ≢ 0 → (j ≡ slot_of count key n) ⊎ (j ≢ slot_of count key n) → Reaches count new (new j).0 j
      by j h taken (inl e) =
          subst (λ k. Reaches count new k j) (sym (ap (λ i. (new i).0) e ∙ ap (λ (x : ℕ × ℕ). x.0) here)) (record { steps = n; few = few; here = sym e; passes = still_passes })
      by j h taken (inr away) =
          let e : (new j).0 ≡ (old j).0 = ap (λ (x : ℕ × ℕ). x.0) (rest j h away) in
          let r = m.reached j h (λ z. taken (e ∙ z)) in
          subst (λ k. Reaches count new k j) (sym e) (record { steps = r.steps; few = r.few; here = r.here; passes = other_passes (old j).0 r.steps (λ k. away (only_there count old key n m some p ends j h k)) r.few r.passes })

  alone : (v : ℕ) → Holds count new key v → v ≡ value
  alone v h = by (either h.at (slot_of count key n))
    where
      by : (h.at ≡ slot_of count key n) ⊎ (h.at ≢ slot_of count key n) → v ≡ value
      by (inl e) = sym h.value_is ∙ ap (λ i. (new i).1) e ∙ ap (λ (x : ℕ × ℕ). x.1) here
      by (inr away) = absurd (away (only_there count old key n m some p ends h.at h.within (sym (ap (λ (x : ℕ × ℕ). x.0) (rest h.at h.within away)) ∙ h.key_is)))

  kept : (k v : ℕ) → k ≢ key → Holds count new k v → Holds count old k v
  kept k v differs h =
      let away : h.at ≢ slot_of count key n = λ e. differs (sym h.key_is ∙ ap (λ i. (new i).0) e ∙ ap (λ (x : ℕ × ℕ). x.0) here) in
      let e = rest h.at h.within away in
      record { at = h.at; within = h.within; key_is = ap (λ (x : ℕ × ℕ). x.0) (sym e) ∙ h.key_is; value_is = ap (λ (x : ℕ × ℕ). x.1) (sym e) ∙ h.value_is }

  stays : (k v : ℕ) → k ≢ 0 → k ≢ key → Holds count old k v → Holds count new k v
  stays k v taken differs h =
      let e = rest h.at h.within (λ e. by e ends) in
      record { at = h.at; within = h.within; key_is = ap (λ (x : ℕ × ℕ). x.0) e ∙ h.key_is; value_is = ap (λ (x : ℕ × ℕ). x.1) e ∙ h.value_is }
    where
      by : h.at ≡ slot_of count key n → ((old (slot_of count key n)).0 ≡ key) ⊎ ((old (slot_of count key n)).0 ≡ 0) → ⊥
      by e (inl own) = differs (sym h.key_is ∙ ap (λ i. (old i).0) e ∙ own)
      by e (inr free) = taken (sym h.key_is ∙ ap (λ i. (old i).0) e ∙ free)

  pub is_put : IsPut count old new key value
  is_put = record {
    holds = record { at = slot_of count key n; within = slot_below count key n few; key_is = ap (λ (x : ℕ × ℕ). x.0) here; value_is = ap (λ (x : ℕ × ℕ). x.1) here };
    alone = alone;
    others = λ k v taken differs. (kept k v differs, stays k v taken differs);
  }
