-- How often inner blocks of attempts ran again, in lists of them.
use Rattle.std.proofs.Common.{ℕ, List, [], ◌∷◌, ◌++◌, ◌≤◌, length}
use Rattle.run_rules.proofs.Common.{Attempt}
use Rattle.tx_runs.specs.Restarts.{RestartAtMost}

pub few_both : (most : ℕ) (xs ys : List Attempt) → RestartAtMost most xs → RestartAtMost most ys → RestartAtMost most (xs ++ ys)
few_both most [] ys u v = v
few_both most (x ∷ xs) ys u v = (u.0, few_both most xs ys u.1 v)

pub few_more : (most : ℕ) (xs : List Attempt) (a : Attempt) → RestartAtMost most xs → length a.restarts ≤ most → RestartAtMost most (xs ++ a ∷ [])
few_more most xs a u few = few_both most xs (a ∷ []) u (few, tt)
