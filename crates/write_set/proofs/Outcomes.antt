-- What holds of a write set that a call has changed or left as it was.
use Rattle.std.proofs.Common.{◌≡◌, ℕ, Bool, true, false, Result, Ok, Err, OnErr, OnOk, inl, inr, refl, sym, subst}
use Rattle.write_set.proofs.Common.{AreMarks, AreRows, KeepsMarks, Written, cases_Bool, write}
use Rattle.write_set.proofs.OpenMarks.{AreMarks-write, KeepsMarks-write}

pub both : {T E P Q R : Type 0} (r : Result T E) → OnOk r P → OnOk r Q → (P → Q → R) → OnOk r R
both (Ok x) p q f = f p q
both (Err e) p q f = p

pub both_err : {T E P Q R : Type 0} (r : Result T E) → OnErr r P → OnErr r Q → (P → Q → R) → OnErr r R
both_err (Ok x) p q f = p
both_err (Err e) p q f = f p q

-- what holds of the write set that is changed and of the old one holds of the new one
pub in_either : {T E : Type 0} (r : Result T E) (old done : Written) {new : Written} → OnOk r (new ≡ done) → OnErr r (new ≡ old)
    → (P : Written → Type 0) → P done → P old → P new
in_either (Ok x) old done ok err P p q = subst P (sym ok) p
in_either (Err e) old done ok err P p q = subst P (sym err) q

-- a write that takes no memory is done or not
module _ (old new : Written) (word mask value : ℕ) (done : Bool) (are : AreMarks old) (written : done ≡ true → new ≡ write old word mask value) (none : done ≡ false → new ≡ old) where
  pub AreMarks-tried : AreRows old.rows → AreMarks new
  AreMarks-tried rows = elim (cases_Bool done) [ inl is ↦ subst AreMarks (sym (written is)) (AreMarks-write old word mask value are rows) | inr not ↦ subst AreMarks (sym (none not)) are ]

  pub KeepsMarks-tried : KeepsMarks old new
  KeepsMarks-tried = elim (cases_Bool done) [ inl is ↦ subst (KeepsMarks old) (sym (written is)) (KeepsMarks-write old word mask value are) | inr not ↦ subst (KeepsMarks old) (sym (none not)) (λ m at. (at, refl)) ]
