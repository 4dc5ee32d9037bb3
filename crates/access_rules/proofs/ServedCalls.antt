-- What is known of calls that are not refused.
use Rattle.std.proofs.Common.{◌≡◌, ℕ, ◌+◌, ◌*◌, ◌≤◌, nat_le, Bool, true, false, Option, None, Some, refl, sym, ap, ◌∙◌, inl, inr}
use Rattle.access_rules.proofs.Common.{Copying, cases_Bool}
use Rattle.std.proofs.lemmas.Bool.{leb-true}
use Rattle.itm_types.specs.declared.call.Call.{Call}
use Rattle.itm_types.specs.declared.call.Refusal.{Refusal}
use Rattle.itm_types.specs.declared.call.Refusal.TheVariants.{OutOfRange}
use Rattle.itm_types.specs.declared.copy.CopyPair.{CopyPair}
use Rattle.itm_types.specs.declared.copy.CopyPair.TheVariants.{In, Out}
use Rattle.itm_model.specs.Machine.{after, after_unless, answer, effect, refusal, reply, reply_unless, unless}
use Rattle.itm_model.specs.State.{State}
use Rattle.norec_core.proofs.Replies.CopyRefusals.{accepted_sides, shared_within}
use Rattle.norec_core.specs.Accesses.{access_refusal}
use Rattle.norec_core.specs.Copies.{copy_refusal, is_out, source_refusal, target_refusal, WritesShared}

-- the plain machine does it
pub serves : (depth : ℕ) (s : State) (call : Call) → refusal depth s call ≡ None → (effect s call ≡ after depth s call) × (answer s call ≡ reply depth s call)
serves depth s call none = (sym (ap (λ (r : Option Refusal). after_unless r s (effect s call)) none), sym (ap (λ (r : Option Refusal). reply_unless r (answer s call)) none))

-- an access lies within the memory
pub served : (is_open : Bool) (words place size : ℕ) → access_refusal is_open words place size ≡ None → (is_open ≡ true) × (place + size ≤ 8 * words)
served false words place size e = absurd (cc)
served true words place size e = elim (cases_Bool (nat_le (place + size) (8 * words))) [
  | inl within ↦ (refl, leb-true (place + size) (8 * words) within)
  | inr far ↦ (let some : Some OutOfRange ≡ None = ap (λ (b : Bool). unless b OutOfRange) (sym far) ∙ e in absurd (cc))
]

-- and so does the side of a copy that is shared memory
source_shared : (words bytes place size : ℕ) (pair : CopyPair) → is_out pair ≡ false → source_refusal words bytes pair place size ≡ None → place + size ≤ 8 * words
source_shared words bytes place size (Out to) out e = absurd (cc)
source_shared words bytes place size pair out e = shared_within words place size e

pub source_within : (words bytes : ℕ) (k : Copying) → is_out k.pair ≡ false → copy_refusal true words bytes k ≡ None → k.from + k.size ≤ 8 * words
source_within words bytes k out accepted = source_shared words bytes k.from k.size k.pair out (accepted_sides words bytes k accepted).1

target_shared : (words bytes place size : ℕ) (pair : CopyPair) → WritesShared pair → target_refusal words bytes pair place size ≡ None → place + size ≤ 8 * words
target_shared words bytes place size (In from) w e = absurd w
target_shared words bytes place size pair w e = shared_within words place size e

pub target_within : (words bytes : ℕ) (k : Copying) → WritesShared k.pair → copy_refusal true words bytes k ≡ None → k.to + k.size ≤ 8 * words
target_within words bytes k w accepted = target_shared words bytes k.to k.size k.pair w (accepted_sides words bytes k accepted).0
