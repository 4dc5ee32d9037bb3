-- The rows of a history, one after the other, are its text.
use Rattle.std.proofs.Common.{◌≡◌, List, [], ◌∷◌, ◌++◌, sym, ap, ◌∙◌, append-nil, append_assoc, flat_map}
use Rattle.tx_history.proofs.Common.{Attempt, History, attempt_lines, first_lines, history_text, last_line}
use Rattle.tx_history.specs.Rows.{AreRest, AreRowsOf, IsLastOf, IsStartOf, IsTriedOf, row_lines}
use Rattle.tx_history.specs.declared.parts.Row.{Row}
use Rattle.tx_history.specs.declared.parts.Row.TheVariants.{Start, Tried, Last}

start_lines : (h : History) (row : Row) → IsStartOf h row → row_lines row ≡ first_lines h.version h.memory
start_lines h (Start version memory) is = ap (λ v. first_lines v memory.now) is.0 ∙ ap (first_lines h.version) is.1
start_lines h row is = absurd is

tried_lines : (a : Attempt) (row : Row) → IsTriedOf a row → row_lines row ≡ attempt_lines a
tried_lines a (Tried attempt) is = ap attempt_lines is
tried_lines a row is = absurd is

end_line : (h : History) (row : Row) → IsLastOf h row → row_lines row ≡ last_line h.clock h.bytes
end_line h (Last clock bytes) is = ap (λ n. last_line n bytes.now) is.0 ∙ ap (last_line h.clock) is.1
end_line h row is = absurd is

rest_lines : (h : History) (attempts : List Attempt) (rows : List Row) → AreRest h attempts rows → flat_map row_lines rows ≡ flat_map attempt_lines attempts ++ last_line h.clock h.bytes
rest_lines h [] [] is = absurd is
rest_lines h (a ∷ attempts) [] is = absurd is
rest_lines h [] (row ∷ []) is = append-nil (row_lines row) ∙ end_line h row is
rest_lines h [] (row ∷ more ∷ rest) is = absurd is
rest_lines h (a ∷ attempts) (row ∷ rest) is =
    ap (λ l. l ++ flat_map row_lines rest) (tried_lines a row is.0) ∙ ap (λ l. attempt_lines a ++ l) (rest_lines h attempts rest is.1) ∙ sym (append_assoc (attempt_lines a) (flat_map attempt_lines attempts) (last_line h.clock h.bytes))

pub rows_lines : (h : History) (rows : List Row) → AreRowsOf h rows → flat_map row_lines rows ≡ history_text h
unfolding history_text
rows_lines h [] is = absurd is
rows_lines h (row ∷ rest) is =
    ap (λ l. l ++ flat_map row_lines rest) (start_lines h row is.0) ∙ ap (λ l. first_lines h.version h.memory ++ l) (rest_lines h h.attempts rest is.1)
    ∙ sym (append_assoc (first_lines h.version h.memory) (flat_map attempt_lines h.attempts) (last_line h.clock h.bytes))
