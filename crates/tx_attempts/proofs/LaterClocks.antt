-- Conflicts that a later clock has outrun too, and lists of them.
use Rattle.std.proofs.Common.{◌≡◌, ℕ, ◌*◌, ◌<◌, ◌≤◌, List, [], ◌∷◌, ◌++◌, arith}
use Rattle.tx_attempts.proofs.Common.{All-append, All-push, AreOutrun, Attempt, Conflict}

pub outrun_later : (early late : ℕ) → early ≤ late → (xs : List Attempt) → AreOutrun early xs → AreOutrun late xs
outrun_later early late on xs all k d inside conflict = let before = all k d inside conflict in omega arith

pub outrun_none : (clock : ℕ) → AreOutrun clock []
outrun_none clock k d inside = absurd (omega (arith, inside))

pub outrun_more : (clock : ℕ) (xs : List Attempt) (a : Attempt) → AreOutrun clock xs → (a.outcome ≡ Conflict → 2 * a.at < clock) → AreOutrun clock (xs ++ a ∷ [])
outrun_more clock xs a all one = All-push (λ (x : Attempt). x.outcome ≡ Conflict → 2 * x.at < clock) xs a all one

pub outrun_both : (clock : ℕ) (xs ys : List Attempt) → AreOutrun clock xs → AreOutrun clock ys → AreOutrun clock (xs ++ ys)
outrun_both clock xs ys all others = All-append (λ (x : Attempt). x.outcome ≡ Conflict → 2 * x.at < clock) xs ys all others
