-- A view stays one of the same cells, and its values fit, over a step and a join.
use Rattle.std.proofs.Common.{◌≡◌, ◌≢◌, ℕ, zero, suc, ◌+◌, ◌≤◌, Bool, true, false, List, [], ◌∷◌, length, length-append, sym, refl, ap, ◌∙◌, subst, arith, le_refl, ⊎_elim}
use Rattle.shared_words.proofs.Common.{AllFit, Cas, CommitsFit, IsOver, Joined, Lawful, Load, Loaded, Looked, Step, StepTells, Store, StoresFit, Took, ValueFits, View, dite, ℕ_discrete}
use Rattle.shared_words.proofs.ListPlaces.{starts_le}
use Rattle.itm_types.proofs.Elements.{all_append}

module _ (cells : ℕ) (v w : View) (o : IsOver cells v) where
  by_look : (st : Step) (n : ℕ) → Looked v st n w → IsOver cells w
  by_look st n l = subst (IsOver cells) (sym l.0) (record { size = o.size; base_fits = o.base_fits; seen_fits = l.1.fit; done_fits = o.done_fits; high = le_refl n; long = (let c = l.1.counts in omega arith); known = (let c = l.1.counts in omega arith) })

  by_take : (st : Step) (n : ℕ) → Took v st n w → IsOver cells w
  by_take st n l = subst (IsOver cells) (sym l.0) (record { size = o.size; base_fits = o.base_fits; seen_fits = l.1.fit; done_fits = tt; high = le_refl n; long = (let c = l.1.counts in omega arith); known = (let c = l.1.counts in omega arith) })

  by_load : (st : Step) (k n : ℕ) → Loaded v st k n w → (b : Bool) → v.holds ≡ b → IsOver cells w
  by_load st k n l false e = subst (IsOver cells) (sym (l.0 e)) (record { size = o.size; base_fits = o.base_fits; seen_fits = o.seen_fits; done_fits = o.done_fits; high = o.high; long = o.long; known = o.known })
  by_load st k n l true e = subst (IsOver cells) (sym (l.1 e).0) (record { size = o.size; base_fits = o.base_fits; seen_fits = o.seen_fits; done_fits = o.done_fits; high = o.high; long = o.long; known = o.known })

  pub over_step : (st : Step) (n : ℕ) → Lawful v st → ValueFits st → StepTells v st n w → IsOver cells w
  over_step (Load zero) n can f t = by_look (Load 0) n (t.0 refl)
  over_step (Load (suc k)) n can f t = by_load (Load (suc k)) k n (t.1 k (let e : suc k ≡ k + 1 = omega arith in e)) v.holds refl
  over_step (Store zero x) n can f t =
      let next : x ≡ v.clock + 2 = can.1 refl in
      let one = length-append v.seen (v.done ∷ []) in
      let long = o.long in
      subst (IsOver cells) (sym (t.0 refl).0)
      (record { size = o.size; base_fits = o.base_fits; seen_fits = all_append StoresFit v.seen (v.done ∷ []) o.seen_fits (o.done_fits, tt); done_fits = tt; high = le_refl x; long = omega arith; known = omega arith })
  over_step (Store (suc k) x) n can f t =
      subst (IsOver cells) (sym (t.1 k (let e : suc k ≡ k + 1 = omega arith in e)))
      (record { size = o.size; base_fits = o.base_fits; seen_fits = o.seen_fits; done_fits = all_append _ v.done ((k, x) ∷ []) o.done_fits (f, tt); high = o.high; long = o.long; known = o.known })
  over_step (Cas c s x) n can f t = dite (ℕ_discrete n s) (λ (hit : n ≡ s). by_take (Cas c s x) s (t.0 hit)) (λ (miss : n ≢ s). by_look (Cas c s x) n (t.1 miss))

-- the joined view
pub over_join : (cells : ℕ) (v u w : View) → IsOver cells v → IsOver cells u → Joined v u w → IsOver cells w
over_join cells v u w o p j = let both : (length v.seen ≤ length w.seen) × (length u.seen ≤ length w.seen) = lengths in record {
  size = ap (λ (l : List ℕ). length l + 1) j.base ∙ o.size;
  base_fits = subst AllFit (sym j.base) o.base_fits;
  seen_fits = ⊎_elim (λ t. subst CommitsFit (sym t.1) o.seen_fits) (λ t. subst CommitsFit (sym t.1) p.seen_fits) j.longer;
  done_fits = subst StoresFit (sym j.done) o.done_fits;
  high = (let a = o.high in let b = j.high in let c = j.clock in omega arith);
  long = (let a = o.long in let c = j.clock in omega arith);
  known = (let a = o.known in let b = p.known in let c = j.high in omega arith);
}
  where
    lengths : (length v.seen ≤ length w.seen) × (length u.seen ≤ length w.seen)
    lengths = ⊎_elim
        (λ t. (let l = starts_le v.seen u.seen t.0 in let e = ap (λ (h : List (List (ℕ × ℕ))). length h) t.1 in (omega arith, omega arith)))
        (λ t. (let l = starts_le u.seen v.seen t.0 in let e = ap (λ (h : List (List (ℕ × ℕ))). length h) t.1 in (omega arith, omega arith)))
        j.longer
