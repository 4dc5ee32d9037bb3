-- The memories that the commits left stay when more attempts end.
use Rattle.std.proofs.Common.{inl, inr, ◌≡◌, ℕ, zero, suc, ◌/◌, ◌<◌, ◌≤◌, List, [], ◌∷◌, ◌++◌, None, Some, refl, sym, ap, ◌∙◌, arith, lt-ltb}
use Rattle.world_rules.proofs.Common.{AreCounted, Attempt, Cells, Rows, bytes_at, cases_Bool, committed_at, is_at, le-ltb, memory_left}
use Rattle.world_rules.specs.LogAgreement.{AreLaid}
use Rattle.tx_attempts.specs.Counts.{count_at, one_where}

-- ## Which attempt committed at a position

-- one that is counted is found
pub found_at : (xs : List Attempt) (position : ℕ) → 0 < count_at position xs → (a : Attempt) × (committed_at xs position ≡ Some a)
found_at [] position c = absurd (omega arith)
found_at (x ∷ xs) position c = elim (cases_Bool (is_at position x)) [
  | inl e ↦ simp e (x, refl)
  | inr e ↦ simp e (found_at xs position (let l = simp e at c in omega arith))
]

-- one that is not is not
pub none_at : (xs : List Attempt) (position : ℕ) → count_at position xs ≡ 0 → committed_at xs position ≡ None
none_at [] position c = refl
none_at (x ∷ xs) position c = elim (cases_Bool (is_at position x)) [
  | inl e ↦ absurd (let l = simp e at c in omega arith)
  | inr e ↦ simp e (none_at xs position (let l = simp e at c in omega arith))
]

pub found_still : (xs ys : List Attempt) (position : ℕ) (a : Attempt) → committed_at xs position ≡ Some a → committed_at (xs ++ ys) position ≡ Some a
found_still [] ys position a e = absurd (cc)
found_still (x ∷ xs) ys position a e = elim (cases_Bool (is_at position x)) [
  | inl is ↦ simp is (simp is at e)
  | inr is ↦ simp is (found_still xs ys position a (simp is at e))
]

pub found_later : (xs ys : List Attempt) (position : ℕ) → committed_at xs position ≡ None → committed_at (xs ++ ys) position ≡ committed_at ys position
found_later [] ys position e = refl
found_later (x ∷ xs) ys position e = elim (cases_Bool (is_at position x)) [
  | inl is ↦ absurd (let none = simp is at e in cc)
  | inr is ↦ simp is (found_later xs ys position (simp is at e))
]

-- ## The memories

module _ (deepest : ℕ) (base : List ℕ) (clock : ℕ) (xs : List Attempt) (counted : AreCounted clock xs) where
  -- no attempt is at the next position
  pub none_next : (position : ℕ) → clock / 2 ≤ position → committed_at xs position ≡ None
  none_next position l = none_at xs position (counted.each position ∙ ap one_where (le-ltb position (clock / 2) l))

  -- with more attempts they are the same
  pub bytes_still : (ys : List Attempt) (k : ℕ) → k ≤ clock / 2 → bytes_at deepest base (xs ++ ys) k ≡ bytes_at deepest base xs k
  bytes_still ys zero l = refl
  bytes_still ys (suc k) l =
      let one = found_at xs k (let e = counted.each k ∙ ap one_where (lt-ltb k (clock / 2) (omega arith)) in omega arith) in
      (λ i. memory_left deepest (bytes_still ys k (omega arith) i) (committed_at (xs ++ ys) k))
      ∙ ap (memory_left deepest (bytes_at deepest base xs k)) (found_still xs ys k one.0 one.1 ∙ sym one.1)

-- and so they are where more of the attempts have ended
pub bytes_stay : {deepest : ℕ} {base : List ℕ} {cells : Cells} {r : Rows} {ended : List Attempt} → AreLaid deepest base cells r → (more : List Attempt) → ended ≡ r.ended ++ more → (k : ℕ) → k ≤ cells.clock / 2 → bytes_at deepest base ended k ≡ bytes_at deepest base r.ended k
bytes_stay {deepest} {base} {cells} {r} laid more is k l = ap (λ (xs : List Attempt). bytes_at deepest base xs k) is ∙ bytes_still deepest base cells.clock r.ended laid.counted more k l
