-- Texts that a stream is given, with what its writer then holds, by computation.
use Rattle.std.proofs.Common.{refl, ℕ, List, [], ◌∷◌, None, Some, arith}
use Rattle.tx_history.proofs.Common.{Adds, Error, StreamState, common_steps}

abbrev good : List ℕ → StreamState
good bytes = record { written = Some bytes; fault = None }

abbrev failed : Error → List ℕ → StreamState
failed e bytes = record { written = Some bytes; fault = Some e }

written : Adds (good (1 ∷ [])) (good (1 ∷ 2 ∷ 3 ∷ [])) (2 ∷ 3 ∷ [])
unfolding Adds
written = refl

cut_after_a_byte : (e : Error) → Adds (good (1 ∷ [])) (failed e (1 ∷ 2 ∷ [])) (2 ∷ 3 ∷ [])
unfolding Adds
cut_after_a_byte e = (1, omega arith, refl)

lost : (e : Error) → Adds (failed e (1 ∷ 2 ∷ [])) (failed e (1 ∷ 2 ∷ [])) (4 ∷ [])
unfolding Adds
lost e = (refl, refl)

-- nothing may be left out where no write failed
left_out : Adds (good []) (good (2 ∷ [])) (2 ∷ 3 ∷ []) → ⊥
unfolding Adds
left_out p = grind (arith, common_steps, p)

-- and not all is there where one did
whole_and_failed : (e : Error) → Adds (good []) (failed e (2 ∷ [])) (2 ∷ []) → ⊥
unfolding Adds
whole_and_failed e p = grind (arith, common_steps, p.1, p.2)

written_after_a_failure : (e : Error) → Adds (failed e []) (failed e (4 ∷ [])) (4 ∷ []) → ⊥
unfolding Adds
written_after_a_failure e p = grind (arith, common_steps, p.1)

good_again : (e : Error) → Adds (failed e []) (good []) [] → ⊥
unfolding Adds
good_again e p = p
