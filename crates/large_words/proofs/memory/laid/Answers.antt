use Rattle.std.proofs.Common.{◌≡◌, ℕ, ◌+◌, List, [], ◌∷◌, ◌++◌, sym, ap, ◌∙◌, arith}
use Rattle.std.{specs.List.range_with_len, proofs.lemmas.List.map-id, proofs.lemmas.List.FromFn.map-range_with_len_more}
use Rattle.large_words.proofs.memory.laid.Goals as goal

-- one more number comes at the end
one_more : (n : ℕ) → range_with_len 0 (n + 1) ≡ range_with_len 0 n ++ n ∷ []
one_more n = sym (map-id (range_with_len 0 (n + 1))) ∙ map-range_with_len_more (λ (x : ℕ). x) 0 n n (omega arith) ∙ ap (λ (l : List ℕ). l ++ n ∷ []) (map-id (range_with_len 0 n))

pub loop-word-preserved : goal.loop-word-preserved
loop-word-preserved c =
    let word : ℕ = c.loop-word.word in
    c.in_ok-push-2.ensures.items ∙ ap (λ (l : List ℕ). l ++ word ∷ []) c.loop-word.invariant ∙ ap (λ (l : List ℕ). 0 ∷ l) (sym (one_more word))
