-- The words and the memories that the commits left, once attempts have ended.
use Rattle.std.proofs.Common.{inl, inr, ◌≡◌, ℕ, ◌+◌, ◌/◌, ◌%◌, ◌≤◌, List, length, refl, sym, ap, subst, ◌∙◌, arith}
use Rattle.event_rules.proofs.Common.{AllFit, AreCounted, AreLaid, Cells, IsMemory, Rows, bytes_at, bytes_of, cases_eq, words_at, words_of, words_of-bytes_of}

module _ (deepest : ℕ) (base : List ℕ) (cells cells' : Cells) (r r' : Rows) (laid : AreLaid deepest base cells r) (counted : AreCounted cells'.clock r'.ended) (long : length cells'.words ≡ length cells.words)
    (still : (k : ℕ) → k ≤ cells.clock / 2 → bytes_at deepest base r'.ended k ≡ bytes_at deepest base r.ended k) where
  memory_still : (k : ℕ) → k ≤ cells.clock / 2 → IsMemory (length cells'.words) (words_at deepest base r'.ended k) × (bytes_of (words_at deepest base r'.ended k) ≡ bytes_at deepest base r'.ended k)
  memory_still k l =
      let f = laid.memories.fits k l in
      let e = still k l in
      (subst (λ (m : List ℕ). IsMemory (length cells'.words) (words_of m)) (sym e) (f.0 ∙ sym long, f.1), ap (λ (m : List ℕ). bytes_of (words_of m)) e ∙ (laid.memories.same k l ∙ sym e))

  -- no commit is done by the event
  pub laid_on : cells'.clock / 2 ≡ cells.clock / 2 → (cells'.clock % 2 ≡ 0 → cells' ≡ cells) → AreLaid deepest base cells' r'
  laid_on half even = record {
    counted = counted;
    memories = record { fits = λ k l. (memory_still k (omega (arith, half))).0; same = λ k l. (memory_still k (omega (arith, half))).1 };
    free = λ z.
        (let is = even z in
        ap (λ (c : Cells). c.words) is ∙ (laid.free (ap (λ (c : Cells). c.clock % 2) (sym is) ∙ z) ∙ (ap words_of (sym (still (cells.clock / 2) (let k : cells.clock / 2 ≤ cells.clock / 2 = omega arith in k)))
        ∙ ap (λ (n : ℕ). words_at deepest base r'.ended n) (sym half))));
  }

  -- one more is done, and its words are these
  pub laid_more : cells'.clock / 2 ≡ cells.clock / 2 + 1 → AllFit cells'.words → bytes_at deepest base r'.ended (cells.clock / 2 + 1) ≡ bytes_of cells'.words → AreLaid deepest base cells' r'
  laid_more half fit last =
      let words : words_at deepest base r'.ended (cells.clock / 2 + 1) ≡ cells'.words = ap words_of last ∙ words_of-bytes_of cells'.words fit in
      record {
        counted = counted;
        memories = record {
          fits = λ k l. elim (cases_eq k (cells.clock / 2 + 1)) [
            | inl is ↦ subst (IsMemory (length cells'.words)) (sym (ap (words_at deepest base r'.ended) is ∙ words)) (refl, fit)
            | inr apart ↦ (memory_still k (omega arith)).0
          ];
          same = λ k l. elim (cases_eq k (cells.clock / 2 + 1)) [
            | inl is ↦ ap (λ (j : ℕ). bytes_of (words_at deepest base r'.ended j)) is ∙ (ap bytes_of words ∙ (sym last ∙ ap (bytes_at deepest base r'.ended) (sym is)))
            | inr apart ↦ (memory_still k (omega arith)).1
          ];
        };
        free = λ z. sym words ∙ ap (λ (n : ℕ). words_at deepest base r'.ended n) (sym half);
      }

-- what is true of the ended attempts alone
pub laid_same : (deepest : ℕ) (base : List ℕ) (cells : Cells) (r r' : Rows) → r'.ended ≡ r.ended → AreLaid deepest base cells r → AreLaid deepest base cells r'
laid_same deepest base cells r r' same laid = subst (λ (rows : List _). AreLaid deepest base cells (record r' { ended = rows })) (sym same) (record { counted = laid.counted; memories = laid.memories; free = laid.free })
