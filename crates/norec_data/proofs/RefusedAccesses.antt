-- A read, a write or a fill that is refused takes no step, and does not end its transaction.
use Rattle.std.proofs.Common.{◌≡◌, ℕ, ◌+◌, ◌*◌, ◌&&◌, nat_le, Bool, true, false, Option, None, Some, refl, sym, ap, ◌∙◌, inl, inr}
use Rattle.std.proofs.lemmas.Bool.{cases_Bool, cond-false}
use Rattle.itm_types.specs.declared.call.Call.{Call}
use Rattle.itm_types.specs.declared.call.Call.TheVariants.{Read, Write, Fill}
use Rattle.itm_types.specs.declared.call.Refusal.{Refusal}
use Rattle.itm_types.specs.declared.call.Refusal.TheVariants.{OutOfRange}
use Rattle.itm_types.specs.Access.{size_of}
use Rattle.itm_types.specs.Calls.{access_of}
use Rattle.itm_model.specs.Machine.{unless}
use Rattle.norec_core.specs.Phases.{Idle}
use Rattle.norec_core.specs.Accesses.{access_refusal}
use Rattle.norec_core.specs.Core.{Core, in_transaction}
use Rattle.norec_core.specs.Endings.{ending_at}
use Rattle.norec_core.specs.Order.{stage_at}

unserved : (is_open : Bool) (words place size : ℕ) (why : Refusal) → access_refusal is_open words place size ≡ Some why → (is_open && nat_le (place + size) (8 * words)) ≡ false
unserved false words place size why e = refl
unserved true words place size why e = elim (cases_Bool (nat_le (place + size) (8 * words))) [
  | inl within ↦ (let none : Some why ≡ None = sym e ∙ ap (λ (b : Bool). unless b OutOfRange) within in absurd (cc))
  | inr far ↦ far
]

module _ (c : Core) (place size : ℕ) (why : Refusal) (e : access_refusal (in_transaction c) c.words place size ≡ Some why) where
  unserved_here : (a b : ℕ) → ◌≡◌ {A = Option (ℕ × ℕ)} (Some (a, b)) (Some (place, size)) → (in_transaction c && nat_le (a + b) (8 * c.words)) ≡ false
  unserved_here a b is =
      let same : ◌≡◌ {A = ℕ × ℕ} (a, b) (place, size) = cc in
      unserved (in_transaction c) c.words a b why ((λ i. access_refusal (in_transaction c) c.words (same i).0 (same i).1) ∙ e)

  pub refused_stage : (call : Call) → access_of call ≡ Some (place, size) → stage_at c call false ≡ Idle
  refused_stage (Read hint width at) is = cond-false (in_transaction c && nat_le (at + size_of width) (8 * c.words)) _ _ (unserved_here at (size_of width) is)
  refused_stage (Write hint at value) is = cond-false (in_transaction c && nat_le (at + size_of value.width) (8 * c.words)) _ _ (unserved_here at (size_of value.width) is)
  refused_stage (Fill hint to byte bytes) is = cond-false (in_transaction c && nat_le (to + bytes) (8 * c.words)) _ _ (unserved_here to bytes is)
  refused_stage call is = absurd (cc)

pub access_ending : (c : Core) (call : Call) (place size : ℕ) → access_of call ≡ Some (place, size) → ending_at c call ≡ None
access_ending c (Read hint width at) place size is = refl
access_ending c (Write hint at value) place size is = refl
access_ending c (Fill hint to byte bytes) place size is = refl
access_ending c call place size is = absurd (cc)
