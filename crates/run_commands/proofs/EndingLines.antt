-- The lines of threads that fell short, one after the other.
use Rattle.std.proofs.Common.{◌≡◌, ℕ, ◌+◌, ◌<◌, ◌≤◌, List, [], ◌∷◌, ◌++◌, length, take, drop, get_or, Option, sym, ap, subst, ◌∙◌, arith, append_assoc, append-nil, drop-cons, add-one}
use Rattle.run_commands.proofs.Common.{Appends, Appends-nil, Appends-trans, End, IsCut, common_steps, cut_short, ending_line, ending_lines, length-take, take-append-drop, take_more}

lines_append : (thread : ℕ) (xs ys : List (Option End)) → ending_lines thread (xs ++ ys) ≡ ending_lines thread xs ++ ending_lines (thread + length xs) ys
lines_append thread [] ys = ap (λ (n : ℕ). ending_lines n ys) (omega arith)
lines_append thread (x ∷ xs) ys =
    ap (λ (l : List ℕ). ending_line thread x ++ l) (lines_append (thread + 1) xs ys ∙ ap (λ (n : ℕ). ending_lines (thread + 1) xs ++ ending_lines n ys) (omega arith))
    ∙ sym (append_assoc (ending_line thread x) (ending_lines (thread + 1) xs) (ending_lines (thread + length (x ∷ xs)) ys))

-- the lines from the i-th thread on
lines_from : (es : List (Option End)) (i : ℕ) → i ≤ length es → ending_lines 0 es ≡ ending_lines 0 (take i es) ++ ending_lines i (drop i es)
lines_from es i h =
    ap (ending_lines 0) (sym (take-append-drop i es)) ∙ lines_append 0 (take i es) (drop i es)
    ∙ ap (λ (n : ℕ). ending_lines 0 (take i es) ++ ending_lines n (drop i es)) (omega (arith, length-take i es))

pub no_lines : (a : Option (List ℕ)) (es : List (Option End)) → Appends a a (ending_lines 0 (take 0 es))
no_lines a es = Appends-nil a

-- one line more
pub more_lines : (a b c : Option (List ℕ)) (es : List (Option End)) (i : ℕ) (d : Option End) → i < length es
    → Appends a b (ending_lines 0 (take i es)) → Appends b c (ending_line i (get_or es i d)) → Appends a c (ending_lines 0 (take (i + 1) es))
more_lines a b c es i d h p q =
    let last : ending_lines i (get_or es i d ∷ []) ≡ ending_line i (get_or es i d) = append-nil (ending_line i (get_or es i d)) in
    let front : ending_lines 0 (take (i + 1) es) ≡ ending_lines 0 (take i es) ++ ending_line i (get_or es i d) =
    ap (ending_lines 0) (take_more es i d h) ∙ lines_append 0 (take i es) (get_or es i d ∷ [])
    ∙ ap (λ (n : ℕ). ending_lines 0 (take i es) ++ ending_lines n (get_or es i d ∷ [])) (omega (arith, length-take i es))
    ∙ ap (λ (l : List ℕ). ending_lines 0 (take i es) ++ l) last in
    subst (Appends a c) (sym front) (Appends-trans a b c _ _ p q)

-- a line that failed
pub lines_stop : (a b c : Option (List ℕ)) (es : List (Option End)) (i : ℕ) (d : Option End) → i < length es
    → Appends a b (ending_lines 0 (take i es)) → IsCut b c (ending_line i (get_or es i d)) → IsCut a c (ending_lines 0 es)
lines_stop a b c es i d h p q =
    let next : drop i es ≡ get_or es i d ∷ drop (i + 1) es = rw add-one (drop-cons es i d h) in
    cut_short a b c (ending_lines 0 (take i es)) (ending_line i (get_or es i d)) (ending_lines (i + 1) (drop (i + 1) es)) (ending_lines 0 es) p q
    (lines_from es i (omega arith) ∙ ap (λ (l : List (Option End)). ending_lines 0 (take i es) ++ ending_lines i l) next)

pub all_lines : (a b : Option (List ℕ)) (es : List (Option End)) (i : ℕ) → length es ≤ i → Appends a b (ending_lines 0 (take i es)) → Appends a b (ending_lines 0 es)
all_lines a b es i h p = let past : take i es ≡ es = grind (arith, common_steps) in subst (λ (l : List (Option End)). Appends a b (ending_lines 0 l)) past p
