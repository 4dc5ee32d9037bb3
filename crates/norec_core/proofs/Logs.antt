-- The value log over a step, where each position has a memory.
use Rattle.std.proofs.Common.{◌≡◌, ◌⊎◌, inl, inr, ℕ, zero, suc, ◌/◌, ◌≤◌, Bool, true, false, List, [], ◌∷◌, ◌++◌, take, Some, refl, sym, subst, ◌∙◌, arith, append-nil}
use Rattle.norec_core.proofs.Common.{Agrees, Core, GoesBack, GoesOver, IsSettled, Joins, Load, LogRow, Settles, in_transaction, reads_of}

pub agrees_more : (m : List ℕ) (xs ys : List LogRow) → Agrees m xs → Agrees m ys → Agrees m (xs ++ ys)
agrees_more m [] ys a b = b
agrees_more m (x ∷ xs) ys a b = (a.0, agrees_more m xs ys a.1 b)

pub agrees_less : (m : List ℕ) (xs ys : List LogRow) → Agrees m (xs ++ ys) → Agrees m xs
agrees_less m [] ys a = tt
agrees_less m (x ∷ xs) ys a = (a.0, agrees_less m xs ys a.1)

-- a shorter beginning agrees where a longer one does
pub agrees_take : (m : List ℕ) (k n : ℕ) (xs : List LogRow) → k ≤ n → Agrees m (take n xs) → Agrees m (take k xs)
agrees_take m zero n xs l a = tt
agrees_take m (suc k) zero xs l a = absurd (omega arith)
agrees_take m (suc k) (suc n) [] l a = tt
agrees_take m (suc k) (suc n) (x ∷ xs) l a = (a.0, agrees_take m k n xs (omega (arith, l)) a.1)

module _ (e new : Core) (n : ℕ) (joins : Joins e n new) (settled : IsSettled e) where
  -- the snapshot moves at a clock load alone
  pub snapshot_same : (e.waits ≡ Some (Load 0) → ⊥) → in_transaction e ≡ true → new.snapshot ≡ e.snapshot
  snapshot_same other o = elim (joins.snapshot o) [
    | inl same ↦ same
    | inr (inl moved) ↦ absurd (other moved.0.load)
    | inr (inr back) ↦ absurd (other back.settles.load)
  ]

  pub snapshot_late : in_transaction e ≡ true → e.snapshot ≤ new.snapshot
  snapshot_late o = elim (joins.snapshot o) [
    | inl same ↦ (let x = same in omega arith)
    | inr (inl moved) ↦ (let a = moved.0.same in let b = moved.2 in let r = settled.reached in omega arith)
    | inr (inr back) ↦ (let a = back.settles.same in let b = back.moved in let r = settled.reached in omega arith)
  ]

  -- rows are added, unless the transaction becomes irrevocable, or a block goes back to its begin
  pub log_longer : in_transaction new ≡ true → ((more : List LogRow) × (new.log ≡ e.log ++ more)) ⊎ GoesOver e new ⊎ GoesBack e n new
  log_longer o = elim (joins.log o) [
    | inl same ↦ inl ([], same ∙ sym (append-nil e.log))
    | inr (inl more) ↦ inl (e.fresh, more.1)
    | inr (inr (inl over)) ↦ inr (inl over)
    | inr (inr (inr back)) ↦ inr (inr back)
  ]

  -- what was logged agrees with the memory of its position, and what is settled was loaded from the memory of the new one
  module _ (memory : ℕ → List ℕ) (was : in_transaction e ≡ true → Agrees (memory (e.snapshot / 2)) e.log) (fresh : Settles e n → Agrees (memory (n / 2)) e.fresh) where
    -- all of it, unless a block goes back to its begin
    pub still_logged : in_transaction e ≡ true → Agrees (memory (new.snapshot / 2)) e.log ⊎ GoesBack e n new
    still_logged o = elim (joins.snapshot o) [
      | inl same ↦ inl (subst (λ (p : ℕ). Agrees (memory (p / 2)) e.log) (sym same) (was o))
      | inr (inl moved) ↦ inl (subst (λ (p : ℕ). Agrees (memory (p / 2)) e.log) (sym moved.2) (subst (Agrees (memory (n / 2))) moved.1 (fresh moved.0)))
      | inr (inr back) ↦ inr back
    ]

    by_open : (b : Bool) → in_transaction e ≡ b → Agrees (memory (new.snapshot / 2)) e.log ⊎ GoesBack e n new
    by_open true o = still_logged o
    by_open false o = inl (subst (Agrees (memory (new.snapshot / 2))) (sym (settled.closed o).0) tt)

    -- what the log keeps then was loaded from the new memory
    pub log_cut : GoesBack e n new → Agrees (memory (new.snapshot / 2)) new.log
    log_cut g =
        let k = reads_of e.blocks in
        let row : LogRow = record { word = g.logged.word; value = g.found } in
        let loaded : Agrees (memory (n / 2)) (take g.same e.log ++ row ∷ []) = subst (Agrees (memory (n / 2))) g.loaded (fresh g.settles) in
        let same : Agrees (memory (n / 2)) (take g.same e.log) = agrees_less (memory (n / 2)) (take g.same e.log) (row ∷ []) loaded in
        subst (λ (p : ℕ). Agrees (memory (p / 2)) new.log) (sym g.moved) (subst (Agrees (memory (n / 2))) (sym g.log) (agrees_take (memory (n / 2)) k g.same e.log g.far same))

    or_cut : Agrees (memory (new.snapshot / 2)) e.log ⊎ GoesBack e n new → (Agrees (memory (new.snapshot / 2)) e.log → Agrees (memory (new.snapshot / 2)) new.log) → Agrees (memory (new.snapshot / 2)) new.log
    or_cut (inl all) f = f all
    or_cut (inr back) f = log_cut back

    pub log_now : in_transaction new ≡ true → Agrees (memory (new.snapshot / 2)) new.log
    log_now o = elim (joins.log o) [
      | inl same ↦ or_cut (by_open (in_transaction e) refl) (λ all. subst (Agrees (memory (new.snapshot / 2))) (sym same) all)
      | inr (inl more) ↦
          or_cut (by_open (in_transaction e) refl) (λ all. subst (Agrees (memory (new.snapshot / 2))) (sym more.1)
          (agrees_more (memory (new.snapshot / 2)) e.log e.fresh all (subst (λ (p : ℕ). Agrees (memory (p / 2)) e.fresh) (sym more.2) (fresh more.0))))
      | inr (inr (inl over)) ↦ subst (Agrees (memory (new.snapshot / 2))) (sym over.log) tt
      | inr (inr (inr back)) ↦ log_cut back
    ]
