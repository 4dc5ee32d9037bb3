-- What was written of a text.
use Rattle.std.proofs.Common.{◌≡◌, ℕ, List, length, take, Option, Result, Ok, Err, sym, subst, is_ok}
use Rattle.itmsteps.proofs.Common.{Appends, Appends-kept, IsCut, Keeps, Writes}
use Rattle.std.proofs.Math.Seq.{take-length}

-- not all of it was written
pub cut_written : (o n : Option (List ℕ)) (text : List ℕ) → IsCut o n text → (k : ℕ) × Appends o n (take k text)
cut_written o n text (k, less, p) = (k, p)

-- all of it was, and was handed on, or not
pub flushed : {B E : Type 0} (u v w : Option (List ℕ)) (text : List ℕ) (r : Result B E) → Appends u v text → Keeps v w → Writes u w r text
flushed u v w text (Ok x) p k = Appends-kept u v w text p k
flushed u v w text (Err e) p k = (length text, subst (Appends u w) (sym (take-length text)) (Appends-kept u v w text p k))

-- whatever the error is
pub writes_as : {A B E F : Type 0} (o n : Option (List ℕ)) (text : List ℕ) (r : Result A E) (s : Result B F) → is_ok s ≡ is_ok r → Writes o n r text → Writes o n s text
writes_as o n text (Ok x) (Ok y) e p = p
writes_as o n text (Ok x) (Err y) e p = absurd (cc)
writes_as o n text (Err x) (Ok y) e p = absurd (cc)
writes_as o n text (Err x) (Err y) e p = p
