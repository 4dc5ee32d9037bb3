-- Which line memory is refused to.
use Rattle.std.proofs.Common.{◌≡◌, ℕ, zero, suc, ◌+◌, ◌≤◌, List, [], ◌∷◌, ◌++◌, length, take, drop, Some, Result, Ok, Err, refl, sym, ap, ◌∙◌, arith, slice_get}
use Rattle.script_asm.proofs.Common.{Adds, AsmFault, MAX_TEXT, RunsOut, State, drop-drop, drop-nil, drop-take, initial, length-drop, length-take, lines, lines_say, meaning, take-append-drop, take-take, ◌>>=◌}

bound_ok : (r : Result State AsmFault) → (r >>= λ t. Ok t) ≡ r
bound_ok (Ok t) = refl
bound_ok (Err f) = refl

bound_then : (r : Result State AsmFault) (f g h : State → Result State AsmFault) → ((t : State) → f t ≡ (g t >>= h)) → (r >>= f) ≡ ((r >>= g) >>= h)
bound_then (Ok t) f g h e = e t
bound_then (Err x) f g h e = refl

-- the lines up to one, and that one
said_then : (s : State) (n : ℕ) (xs : List (List ℕ)) (y : List ℕ) → lines_say s n (xs ++ y ∷ []) ≡ (lines_say s n xs >>= λ t. meaning t (n + length xs) y)
said_then s n [] y = bound_ok (meaning s n y) ∙ ap (λ (m : ℕ). meaning s m y) (omega arith)
said_then s n (x ∷ xs) y =
    bound_then (meaning s n x) (λ t. lines_say t (n + 1) (xs ++ y ∷ [])) (λ t. lines_say t (n + 1) xs) (λ t. meaning t (n + length (x ∷ xs)) y)
    (λ t. said_then t (n + 1) xs y ∙ ap (λ (m : ℕ). lines_say t (n + 1) xs >>= λ u. meaning u m y) (omega arith))

next_take : (ls : List (List ℕ)) (k : ℕ) (y : List ℕ) (more : List (List ℕ)) → drop k ls ≡ y ∷ more → take (k + 1) ls ≡ take k ls ++ y ∷ []
next_take ls k y more e =
    let cut : take (k + 1) ls ≡ take k ls ++ take 1 (drop k ls) = sym (take-append-drop k (take (k + 1) ls)) ∙ rw (take-take k (k + 1) ls (omega arith), drop-take k 1 ls) refl in
    cut ∙ ap (λ (l : List (List ℕ)). take k ls ++ take 1 l) e

next_get : (ls : List (List ℕ)) (k : ℕ) (y : List ℕ) (more : List (List ℕ)) → drop k ls ≡ y ∷ more → slice_get ls k ≡ Some y
next_get [] k y more e = let none : [] ≡ y ∷ more = sym (drop-nil k) ∙ e in absurd cc
next_get (x ∷ xs) zero y more e = cc
next_get (x ∷ xs) (suc k) y more e = next_get xs k y more e

pub drop_on : (text : List ℕ) (k : ℕ) (y : List ℕ) (more : List (List ℕ)) → drop k (lines text) ≡ y ∷ more → drop (k + 1) (lines text) ≡ more
drop_on text k y more d = sym (drop-drop 1 k (lines text)) ∙ ap (drop 1) d

within : (ls : List (List ℕ)) (k : ℕ) (y : List ℕ) (more : List (List ℕ)) → drop k ls ≡ y ∷ more → length (take k ls) ≡ k
within ls k y more e =
    let longer : length (drop k ls) ≡ suc (length more) = ap length e in
    omega (arith, length-take k ls, length-drop k ls, longer)

pub read_on : (text : List ℕ) (k : ℕ) (s t : State) (y : List ℕ) (more : List (List ℕ)) → lines_say initial 1 (take k (lines text)) ≡ Ok s → drop k (lines text) ≡ y ∷ more → meaning s (k + 1) y ≡ Ok t → lines_say initial 1 (take (k + 1) (lines text)) ≡ Ok t
read_on text k s t y more e d m =
    let place : 1 + length (take k (lines text)) ≡ k + 1 = omega (arith, within (lines text) k y more d) in
    ap (lines_say initial 1) (next_take (lines text) k y more d) ∙ said_then initial 1 (take k (lines text)) y
    ∙ ap (λ (r : Result State AsmFault). r >>= λ u. meaning u (1 + length (take k (lines text))) y) e ∙ ap (λ (n : ℕ). meaning s n y) place ∙ m

pub runs_out : (text : List ℕ) (k : ℕ) (s : State) (y : List ℕ) (more : List (List ℕ)) → length text ≤ MAX_TEXT → lines_say initial 1 (take k (lines text)) ≡ Ok s → drop k (lines text) ≡ y ∷ more → Adds s (meaning s (k + 1) y) → RunsOut text (k + 1)
runs_out text k s y more fits e d a = (fits, k, s, y, refl, e, next_get (lines text) k y more d, a)
