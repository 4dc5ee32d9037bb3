-- What holds of what is read, where it is read.
use Rattle.std.proofs.Common.{◌≡◌, Bool, true, false, cond, Result, Ok, Err, refl}
use Rattle.script_fields.proofs.Common.{FaultKind, IfOk, both}
use Rattle.std.specs.Bool.{⊤}
use Rattle.script_fields.specs.declared.fault.FaultKind.TheVariants as kinds

-- of any reading
pub any_if : {A E : Type 0} (r : Result A E) → IfOk r (λ _. ⊤)
any_if (Ok x) = tt
any_if (Err k) = tt

-- of one of two
pub choice_if : {A E : Type 0} (P : A → Type 0) (b : Bool) (x y : Result A E) → (b ≡ true → IfOk x P) → (b ≡ false → IfOk y P) → IfOk (cond b x y) P
choice_if P true x y f g = f refl
choice_if P false x y f g = g refl

-- of one after another
abbrev and_then : {A B E : Type 0} → Result A E → (A → Result B E) → Result B E
and_then (Ok x) f = f x
and_then (Err k) f = Err k

pub then_if : {A B E : Type 0} (Q : B → Type 0) (r : Result A E) (f : A → Result B E) → IfOk r (λ x. IfOk (f x) Q) → IfOk (and_then r f) Q
then_if Q (Ok x) f h = h
then_if Q (Err k) f h = tt

pub bind_if : {A B E : Type 0} (P : A → Type 0) (Q : B → Type 0) (r : Result A E) (f : A → Result B E) → IfOk r P → ((x : A) → P x → IfOk (f x) Q) → IfOk (and_then r f) Q
bind_if P Q (Ok x) f p q = q x p
bind_if P Q (Err k) f p q = tt

-- of what comes after any
pub after_if : {A B E : Type 0} (Q : B → Type 0) (r : Result A E) (f : A → Result B E) → ((x : A) → IfOk (f x) Q) → IfOk (and_then r f) Q
after_if Q (Ok x) f h = h x
after_if Q (Err k) f h = tt

-- of two at once
pub both_if : {A B : Type 0} (P : A → Type 0) (Q : B → Type 0) (p : Result A FaultKind) (q : Result B FaultKind) → IfOk p P → IfOk q Q → IfOk (both p q) (λ x. P x.0 × Q x.1)
both_if P Q (Ok a) (Ok b) h k = (h, k)
both_if P Q (Err j) (Ok b) h k = tt
both_if P Q (Err kinds.Operand) (Err l) h k = tt
both_if P Q p q h k = tt
