-- Each attempt of a player's run reads as many commits past its begin as it tells of blocks that ran again.
use Rattle.std.proofs.Common.{ℕ, List, [], ◌∷◌, ◌++◌, Option, None, Some}
use Rattle.tx_attempts.proofs.Common.{All-append, All-cons, All-nil, AreDisturbed, Attempt, Beginning, Between, IsDisturbed, IsRunOf, IsTryAt, Rules, after_try, begin_of}

module _ {P : Type 0} (rules : Rules P) (deepest n : ℕ) (memory : ℕ → List ℕ) where
  of_try : (b : Between P) (o : Option (Beginning P)) (a : Attempt) → IsTryAt rules deepest n memory b o a → IsDisturbed a
  of_try b None a t = absurd t
  of_try b (Some start) a t = t.3.no_older

  pub disturbed_run : (b : Option (Between P)) (xs : List Attempt) → IsRunOf rules deepest n memory b xs → AreDisturbed xs
  disturbed_run b [] h = All-nil IsDisturbed
  disturbed_run None (a ∷ rest) h = absurd h
  disturbed_run (Some b) (a ∷ rest) h =
      All-cons IsDisturbed a rest (of_try b (begin_of rules deepest b.player b.arena) a h.0) (disturbed_run (after_try rules deepest memory b (begin_of rules deepest b.player b.arena) a) rest h.1)

pub disturbed_none : AreDisturbed []
disturbed_none = All-nil IsDisturbed

pub disturbed_both : (xs ys : List Attempt) → AreDisturbed xs → AreDisturbed ys → AreDisturbed (xs ++ ys)
disturbed_both xs ys all others = All-append IsDisturbed xs ys all others
