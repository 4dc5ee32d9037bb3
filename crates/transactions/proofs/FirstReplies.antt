-- What the first of some replies tells of the plain machine.
use Rattle.std.proofs.Common.{◌≡◌, ℕ, List, [], ◌∷◌, Option, None, Some, refl, sym, ap, subst}
use Rattle.transactions.proofs.Common.{Bytes, Refusal, Refused, Replied as Reply, State, after_unless, bytes_reply, reply_unless}

abbrev pub first_of : Reply → List Reply → Reply
first_of other [] = other
first_of other (r ∷ rs) = r

abbrev pub rest_of : List Reply → List Reply
rest_of [] = []
rest_of (r ∷ rs) = rs

abbrev bytes_in : Reply → List ℕ
bytes_in (Bytes value) = value.items
bytes_in r = []

abbrev pub Serves : Reply → Type 0
Serves (Refused refusal) = ⊥
Serves r = Unit {0}

-- a read that is answered with bytes read these, and leaves the state
pub read_by : (o : Option Refusal) (xs ys : List ℕ) (s : State) → bytes_reply xs ≡ reply_unless o (bytes_reply ys) → (ys ≡ xs) × (after_unless o s s ≡ s)
read_by None xs ys s e = (sym (ap bytes_in e), refl)
read_by (Some why) xs ys s e = absurd (subst Serves e tt)

-- a call that is answered as one that is not refused has its effect
pub done_by : (r : Reply) (o : Option Refusal) (s t : State) → Serves r → r ≡ reply_unless o r → after_unless o s t ≡ t
done_by r None s t serves e = refl
done_by r (Some why) s t serves e = absurd (subst Serves e serves)
