-- One lawful step: the cells and the views stay good, and only the view of the seat that steps changes.
use Rattle.std.proofs.Common.{◌≡◌, ℕ, eqb, zero, suc, ◌+◌, ◌<◌, ◌≤◌, ◌≢◌, Bool, true, false, cond, List, get_or, set, sym, refl, ap, ◌∙◌, subst, arith, eq-eqb, ne_eqb}
use Rattle.shared_words.proofs.Common.{Cas, Good, Lawful, Load, Loaded, Step, StepTells, Store, ValueFits, View, cells_after, dite, finds, freed, get_elem?, noted, read, some, wrote, ℕ_discrete}
use Rattle.shared_words.proofs.GoodSteps.{looks, takes, writes, frees, frees_later, held_word}
use Rattle.shared_words.proofs.GoodSteps as keep

module _ (cells : List ℕ) (views : List View) (g : Good cells views) (id : ℕ) (v : View) (at : get_elem? views id ≡ some v) (alive : 0 < v.share) where
  abbrev pub Result : Step → List ℕ → Type 0
  Result st after = (w : View) × Good after (set views id w) × StepTells v st (finds cells st) w × (w.share ≡ v.share)

  loads_word : (k : ℕ) (b : Bool) → v.holds ≡ b → Result (Load (suc k)) cells
  loads_word k false is =
      let n : ℕ = get_or cells (suc k) 0 in
      let w : View = read v (Load (suc k)) k n in (
        w,
        keep.loads cells views g id v at (Load (suc k)) k is,
        (λ e. absurd (omega arith), λ j e. subst (λ (i : ℕ). Loaded v (Load (suc k)) i n w) (let same : k ≡ j = omega arith in same) ((λ _. refl), (λ h. absurd (cc)))),
        refl,
      )
  loads_word k true is =
      let n : ℕ = get_or cells (suc k) 0 in (
        noted v (Load (suc k)) n,
        keep.counts cells views g id v at (Load (suc k)) n,
        (λ e. absurd (omega arith), λ j e. subst (λ (i : ℕ). Loaded v (Load (suc k)) i n (noted v (Load (suc k)) n)) (let same : k ≡ j = omega arith in same) ((λ h. absurd (cc)), (λ _. (refl, held_word cells views g id v at k alive is)))),
        refl,
      )

  pub turns : (st : Step) → Lawful v st → ValueFits st → Result st (cells_after cells st)
  turns (Load zero) can small =
      let r = looks cells views g id v at (Load 0) alive (can refl) in
      (r.0, r.1, (λ _. r.2, λ k e. absurd (omega arith)), ap (λ (u : View). u.share) r.2.0)
  turns (Load (suc k)) can small = loads_word k v.holds refl
  turns (Store zero x) can small = (
    freed v (Store 0 x) x,
    subst (λ (n : ℕ). Good (set cells 0 n) (set views id (freed v (Store 0 x) n))) (sym (can.1 refl)) (frees cells views g id v at (Store 0 x) can.0),
    (λ _. (refl, subst (λ (n : ℕ). v.high ≤ n) (sym (can.1 refl)) (frees_later cells views g id v at can.0)), λ k e. absurd (omega arith)),
    refl,
  )
  turns (Store (suc k) x) can small = (
    wrote v (Store (suc k) x) k x,
    writes cells views g id v at (Store (suc k) x) k x can.0 small,
    (λ e. absurd (omega arith), λ j e. ap (λ (i : ℕ). wrote v (Store (suc k) x) i x) (let same : k ≡ j = omega arith in same)),
    refl,
  )
  turns (Cas (suc c) s t) can small = absurd (omega arith)
  turns (Cas zero s t) can small = dite (ℕ_discrete (get_or cells 0 0) s)
      (λ (hit : get_or cells 0 0 ≡ s). (let r = takes cells views g id v at (Cas 0 s t) s alive can.2 hit in
      let now : cond (eqb (get_or cells 0 0) s) (set cells 0 t) cells ≡ set cells 0 (s + 1) = ap (λ (b : Bool). cond b (set cells 0 t) cells) (eq-eqb (get_or cells 0 0) s hit) ∙ ap (set cells 0) can.1 in
      let r' : Result (Cas zero s t) (cond (eqb (get_or cells 0 0) s) (set cells 0 t) cells) =
      (r.0, subst (λ (l : List ℕ). Good l (set views id r.0)) (sym now) r.1, (λ _. r.2, λ away. absurd (away hit)), ap (λ (u : View). u.share) r.2.0) in r'))
      (λ (miss : get_or cells 0 0 ≢ s). (let r = looks cells views g id v at (Cas 0 s t) alive can.2.0 in
      let now : cond (eqb (get_or cells 0 0) s) (set cells 0 t) cells ≡ cells = ap (λ (b : Bool). cond b (set cells 0 t) cells) (ne_eqb (get_or cells 0 0) s miss) in
      let r' : Result (Cas zero s t) (cond (eqb (get_or cells 0 0) s) (set cells 0 t) cells) =
      (r.0, subst (λ (l : List ℕ). Good l (set views id r.0)) (sym now) r.1, (λ yes'. absurd (miss yes'), λ _. r.2), ap (λ (u : View). u.share) r.2.0) in r'))
