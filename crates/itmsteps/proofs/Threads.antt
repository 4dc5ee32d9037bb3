-- The numbers of a program's threads.
use Rattle.std.proofs.Common.{◌≡◌, ℕ, ◌+◌, List, [], ◌∷◌, ◌++◌, sym, ap, ◌∙◌, arith}
use Rattle.itmsteps.proofs.Common.{range_with_len}
use Rattle.std.{proofs.lemmas.List.map-id, proofs.lemmas.List.FromFn.map-range_with_len_more}

-- one more
pub thread_more : (n : ℕ) (threads : List ℕ) → threads ≡ range_with_len 0 n → threads ++ n ∷ [] ≡ range_with_len 0 (n + 1)
thread_more n threads e =
    ap (λ (l : List ℕ). l ++ n ∷ []) (e ∙ sym (map-id (range_with_len 0 n)))
    ∙ sym (map-range_with_len_more (λ (k : ℕ). k) 0 n n (omega arith))
    ∙ map-id (range_with_len 0 (n + 1))
