-- Records of inner blocks that ran again, where one of them runs again once more: those before it stay.
use Rattle.std.proofs.Common.{◌≡◌, ℕ, zero, suc, ◌<◌, ◌≤◌, Bool, true, false, nat_lt, if◌then◌else◌, List, [], ◌∷◌, ◌++◌, length, take, slice_get, refl, sym, ap, subst, ◌∙◌, arith, inl, inr}
use Rattle.tx_attempts.proofs.Common.{Again, AreAgain, AtEach, CallRecord, IsAgain, IsInnerBegin, before, cases_Bool, le-ltb, ltb-false, ltb-true, take-append-le}

-- ## Where they stand

get_taken : (xs : List CallRecord) (n k : ℕ) → n < k → slice_get (take k xs) n ≡ slice_get xs n
get_taken [] n zero l = refl
get_taken [] n (suc k) l = refl
get_taken (x ∷ xs) n zero l = absurd (omega arith)
get_taken (x ∷ xs) zero (suc k) l = refl
get_taken (x ∷ xs) (suc n) (suc k) l = get_taken xs n k (omega (arith, l))

-- one that stands within the first calls stands in these
taken_again : (size : ℕ) (calls : List CallRecord) (k : ℕ) (r : Again) → r.kept ≤ k → IsAgain size calls r → IsAgain size (take k calls) r
taken_again size calls k r l h = record { place = h.place; kept = h.kept; begins = subst IsInnerBegin (sym (get_taken calls h.place k (let e = h.kept in omega (arith, l)))) h.begins; arena = h.arena }

module _ (a : Again) where
  none_later : (size from : ℕ) (calls : List CallRecord) (rs : List Again) → a.kept ≤ from → AreAgain size from calls rs → before a.kept rs ≡ []
  none_later size from calls [] l h = refl
  none_later size from calls (r ∷ rest) l h =
      (let later = h.1 in
      ap (λ (b : Bool). if b then r ∷ before a.kept rest else before a.kept rest) (le-ltb r.kept a.kept (omega (arith, l, later))) ∙ none_later size r.kept calls rest (omega (arith, l, later)) h.2)

  -- with the new one behind those before it
  pub again_cut : (size from : ℕ) (calls : List CallRecord) (rs : List Again) → from < a.kept → IsAgain size (take a.kept calls) a → AreAgain size from calls rs → AreAgain size from (take a.kept calls) (before a.kept rs ++ a ∷ [])
  again_cut size from calls [] l new h = (new, l, tt)
  again_cut size from calls (r ∷ rest) l new h = by_place (nat_lt r.kept a.kept) refl (λ u. again_cut size r.kept calls rest u new h.2)
    where
      by_place : (b : Bool) → nat_lt r.kept a.kept ≡ b → (r.kept < a.kept → AreAgain size r.kept (take a.kept calls) (before a.kept rest ++ a ∷ [])) → AreAgain size from (take a.kept calls) (before a.kept (r ∷ rest) ++ a ∷ [])
      by_place true e more =
          let u = ltb-true r.kept a.kept e in
          subst (λ (b : Bool). AreAgain size from (take a.kept calls) ((if b then r ∷ before a.kept rest else before a.kept rest) ++ a ∷ [])) (sym e) (taken_again size calls a.kept r (omega (arith, u)) h.0, h.1, more u)
      by_place false e more =
          let none : before a.kept (r ∷ rest) ≡ [] = ap (λ (b : Bool). if b then r ∷ before a.kept rest else before a.kept rest) e ∙ none_later size r.kept calls rest (let u = ltb-false r.kept a.kept e in omega (arith, u)) h.2 in
          subst (λ (xs : List Again). AreAgain size from (take a.kept calls) (xs ++ a ∷ [])) (sym none) (new, l, tt)

-- ## What is so up to each

pub at_each_also : (P Q : List CallRecord → Type 0) (calls : List CallRecord) (rs : List Again) → ((n : ℕ) → P (take n calls) → Q (take n calls)) → AtEach P calls rs → AtEach Q calls rs
at_each_also P Q calls [] f h = tt
at_each_also P Q calls (r ∷ rest) f h = (f r.kept h.0, at_each_also P Q calls rest f h.1)

-- with one more behind
pub at_each_both : (P : List CallRecord → Type 0) (calls : List CallRecord) (rs : List Again) (a : Again) → AtEach P calls rs → P (take a.kept calls) → AtEach P calls (rs ++ a ∷ [])
at_each_both P calls [] a h last = (last, tt)
at_each_both P calls (r ∷ rest) a h last = (h.0, at_each_both P calls rest a h.1 last)

-- and with more calls, of those that stand before so many
pub at_each_before : (P : List CallRecord → Type 0) (kept : ℕ) (calls more : List CallRecord) (rs : List Again) → kept ≤ suc (length calls) → AtEach P calls (before kept rs) → AtEach P (calls ++ more) (before kept rs)
at_each_before P kept calls more [] l h = tt
at_each_before P kept calls more (r ∷ rest) l h = elim (cases_Bool (nat_lt r.kept kept)) [
  | inl e ↦
      (let g = simp e at h in
      simp e (subst P (sym (take-append-le r.kept calls more (omega (arith, ltb-true r.kept kept e, l)))) g.0, at_each_before P kept calls more rest l g.1))
  | inr e ↦ simp e (at_each_before P kept calls more rest l (simp e at h))
]
