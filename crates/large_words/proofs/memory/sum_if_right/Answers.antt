use Rattle.std.proofs.Common.{◌≡◌, ℕ, ◌+◌, ◌-◌, ◌<◌, List, length, take, drop, sum, get_or, slice_index, ap, ◌∙◌, subst, sym, arith, length-drop, ◌⊎◌, inl, inr}
use Rattle.std.{proofs.lemmas.Grind.get_or_after_one, proofs.lemmas.List.Sums.sum_by_more}
use Rattle.large_words.specs.Layout.{added_to}
use Rattle.large_words.proofs.memory.sum_if_right.Goals as goal

-- the sum with one more word
sum_more : (cells : List ℕ) (word : ℕ) → word + 1 < length cells → sum (take (word + 1) (drop 1 cells)) ≡ sum (take word (drop 1 cells)) + slice_index cells (word + 1)
sum_more cells word within =
    let next : 1 + word ≡ word + 1 = omega arith in
    sum_by_more (λ (x : ℕ). x) (drop 1 cells) word 0 (omega (arith, length-drop 1 cells)) ∙ ap (λ (n : ℕ). sum (take word (drop 1 cells)) + n) (get_or_after_one cells word 0 ∙ ap (λ (i : ℕ). get_or cells i 0) next)

-- what holds of all words below one and of this one holds of one word more
one_more : (P : ℕ → Type 0) (n : ℕ) → ((k : ℕ) → k < n → P k) → P n → (k : ℕ) → k < n + 1 → P k
one_more P n below here k less = elim (split k n less) as (λ _. P k) [ inl l ↦ below k l | inr e ↦ subst P (sym e) here ]
  where
    split : (k n : ℕ) → k < n + 1 → (k < n) ⊎ (k ≡ n)
    split k n less = grind arith

pub loop-word-preserved : goal.loop-word-preserved
loop-word-preserved c =
    let cells : List ℕ = c.args.cells.now in
    let word : ℕ = c.loop-word.word in
    let before = c.loop-word.invariant in
    let is : slice_index cells (word + 1) ≡ word + added_to (length cells - 1) word = c.if-value-word.false ∙ ap (λ (n : ℕ). word + n) c.added_to.ensures.value in
    record {
      sum = ap (λ (n : ℕ). n + slice_index cells (word + 1)) before.sum ∙ sym (sum_more cells word (omega arith));
      few = omega (arith, c.if-value-word.false, c.added_to.ensures.few, before.few);
      right = one_more (λ (k : ℕ). slice_index cells (k + 1) ≡ k + added_to (length cells - 1) k) word before.right is;
    }
