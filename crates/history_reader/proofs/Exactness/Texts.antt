-- A text that is read is the one spelling of its history.
use Rattle.std.proofs.Common.{◌≡◌, ℕ, ◌+◌, eqb, List, [], ◌∷◌, ◌++◌, length, Result, Ok, Err, refl, sym, ap, subst, ◌∙◌, arith, append_assoc}
use Rattle.history_reader.proofs.Common.{History, IfOk, IfOk-at_ok, IsHistory, Place, ReadKind, State, append-nil, bind_if, choice_if, end_of, eqb-true, history_text, in_line, initial, is_feed, join_with_byte, join_with_byte-slice_split, meaning, parts_say, read_of, slice_split, whole}
use Rattle.history_reader.specs.declared.fault.ReadKind.TheVariants as kinds
use Rattle.history_reader.specs.declared.state.Place.TheVariants as places
use Rattle.history_reader.{proofs.Exactness.States.so_far, proofs.Exactness.States.IsSoFar, proofs.Exactness.States.at_end, proofs.Exactness.Steps.line_exact}

-- a text is the spelling of this history, which a text can tell
abbrev Spells : List ℕ → History → Type 0
Spells t h = (history_text h ≡ t) × IsHistory h

in_line_if : {A : Type 0} (P : A → Type 0) (n : ℕ) (r : Result A ReadKind) → IfOk r P → IfOk (in_line n r) P
in_line_if P n (Ok x) h = h
in_line_if P n (Err k) h = tt

-- ## The end

whole_exact : (p : Place) (s : State) → IsSoFar p s → IfOk (whole p s) (Spells (so_far p s))
whole_exact (places.AtEnd clock) s k = (sym (at_end clock s), k)
whole_exact p s k = tt

empty : (xs : List ℕ) → length xs ≡ 0 → xs ≡ []
empty [] e = refl
empty (x ∷ xs) e = absurd (omega arith)

end_exact : (s : State) (rest : List ℕ) → IsSoFar s.place s → IfOk (end_of s rest) (Spells (so_far s.place s ++ rest))
unfolding end_of
end_exact s rest k =
    choice_if _ (eqb (length rest) 0) (whole s.place s) (Err kinds.Cut) (λ none.
    let same : so_far s.place s ≡ so_far s.place s ++ rest = sym (append-nil (so_far s.place s)) ∙ ap (λ (l : List ℕ). so_far s.place s ++ l) (sym (empty rest (eqb-true (length rest) 0 none))) in
    subst (λ (t : List ℕ). IfOk (whole s.place s) (Spells t)) same (whole_exact s.place s k)) (λ some. tt)

-- ## All lines

parts_exact : (s : State) (n : ℕ) (parts : List (List ℕ)) → IsSoFar s.place s → IfOk (parts_say s n parts) (Spells (so_far s.place s ++ join_with_byte 10 parts))
parts_exact s n [] k = in_line_if _ n (end_of s []) (end_exact s [] k)
parts_exact s n (rest ∷ []) k = in_line_if _ n (end_of s rest) (end_exact s rest k)
parts_exact s n (line ∷ part ∷ parts) k =
    bind_if _ _ (in_line n (meaning s line)) _ (in_line_if _ n (meaning s line) (line_exact s line k)) (λ t f.
    let later = join_with_byte 10 (part ∷ parts) in
    let same : so_far t.place t ++ later ≡ so_far s.place s ++ (line ++ 10 ∷ later) =
    ap (λ (l : List ℕ). l ++ later) f.text ∙ append_assoc (so_far s.place s) (line ++ 10 ∷ []) later ∙ ap (λ (l : List ℕ). so_far s.place s ++ l) (append_assoc line (10 ∷ []) later) in
    subst (λ (l : List ℕ). IfOk (parts_say t (n + 1) (part ∷ parts)) (Spells l)) same (parts_exact t (n + 1) (part ∷ parts) f.kept))

-- a text that is read is the one spelling of the history, and a text can tell that history
pub read_exact : (t : List ℕ) (h : History) → read_of t ≡ Ok h → (history_text h ≡ t) × IsHistory h
unfolding read_of
read_exact t h e =
    IfOk-at_ok (Spells t) e (subst (λ (l : List ℕ). IfOk (read_of t) (Spells l)) (join_with_byte-slice_split 10 t) (parts_exact initial 1 (slice_split is_feed t) (refl, refl, (refl, refl, refl))))
