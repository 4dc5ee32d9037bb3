-- What is found first, or that nothing is.
use Rattle.std.proofs.Common.{◌≡◌, ℕ, Bool, true, false, if◌then◌else◌, is_some, refl, Option, None, Some}
use Rattle.history_checker.proofs.Common.{Fault, at_place, first_of}

-- where no first one of two is there neither is
pub first_nothing : {A : Type 0} (f g : Option A) → first_of f g ≡ None → (f ≡ None) × (g ≡ None)
first_nothing None g e = (refl, e)
first_nothing (Some x) g e = absurd (cc)

-- where nothing is found the test that finds something failed, and nothing is found later
pub passed_over : {A : Type 0} (b : Bool) (x : A) (later : Option A) → (if b then Some x else later) ≡ None → (b ≡ false) × (later ≡ None)
passed_over true x later e = absurd (cc)
passed_over false x later e = (refl, e)

-- or the test that keeps from that passed
pub passed : {A : Type 0} (b : Bool) (later : Option A) (x : A) → (if b then later else Some x) ≡ None → (b ≡ true) × (later ≡ None)
passed true later x e = (refl, e)
passed false later x e = absurd (cc)

pub none_of : {A : Type 0} (f : Option A) → is_some f ≡ false → f ≡ None
none_of None h = refl
none_of (Some x) h = absurd (cc)

pub place_none : (i : ℕ) (f : Option Fault) → at_place i f ≡ None → f ≡ None
place_none i None e = refl
place_none i (Some f) e = cc
