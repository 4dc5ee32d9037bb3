-- Whether a block may go back to its begin, by how many are open and how much it had read.
use Rattle.std.proofs.Common.{◌≡◌, ℕ, ◌<◌, ◌≤◌, ◌&&◌, nat_le, nat_lt, Bool, true, false, List, [], ◌∷◌, length, refl, sym, ap, ◌∙◌, arith, inl, inr}
use Rattle.norec_blocks.proofs.Common.{Data, Frame, Idle, and-false, cases_Bool, core, is_within, le-leb, leb-true, may_restart, reads_of}

no_other : (bs : List Frame) → length bs < 2 → is_within bs ≡ false
no_other [] l = refl
no_other (b ∷ []) l = refl
no_other (b ∷ p ∷ bs) l = absurd (omega arith)

another : (bs : List Frame) → 2 ≤ length bs → is_within bs ≡ true
another [] l = absurd (omega arith)
another (b ∷ []) l = absurd (omega arith)
another (b ∷ p ∷ bs) l = refl

not_le : (a b : ℕ) → b < a → nat_le a b ≡ false
not_le a b l = elim (cases_Bool (nat_le a b)) [
  | inl within ↦ absurd (omega (arith, leb-true a b within))
  | inr past ↦ past
]

module _ (d : Data) (row : ℕ) where
  abbrev left : Bool
  left = nat_lt d.restarted d.limits.restarts

  pub none_around : length d.frames.blocks < 2 → false ≡ may_restart (core d Idle) row
  none_around l = sym (ap (λ (b : Bool). b && nat_le (reads_of d.frames.blocks) row && left) (no_other d.frames.blocks l))

  pub not_its_own : row < reads_of d.frames.blocks → false ≡ may_restart (core d Idle) row
  not_its_own l =
      sym (ap (λ (b : Bool). is_within d.frames.blocks && b && left) (not_le (reads_of d.frames.blocks) row l) ∙ ap (λ (b : Bool). b && left) (and-false (is_within d.frames.blocks)))

  pub all_there : 2 ≤ length d.frames.blocks → reads_of d.frames.blocks ≤ row → left ≡ may_restart (core d Idle) row
  all_there w l = sym (λ i. another d.frames.blocks w i && le-leb (reads_of d.frames.blocks) row l i && left)
