-- Lines of fields say what their fields say, line by line.
use Rattle.std.proofs.Common.{◌≡◌, ℕ, ◌+◌, ◌==◌, if◌then◌else◌, List, [], ◌∷◌, ◌++◌, length, map, Result, Ok, Err, refl, ap, ◌∙◌, arith}
use Rattle.script_print.proofs.Common.{AllByRecursion, AsmFault, IsField, IsLine, State, allowed_again, code_again, fields_again, joined, joined_line, lines_say, meaning, number_fields, said, ◌>>=◌}

-- each line is of fields
abbrev pub AreFields : List (List (List ℕ)) → Type 0
AreFields ls = AllByRecursion (AllByRecursion IsField) ls

-- what the lines of these fields say from line n on
abbrev pub all_said : State → ℕ → List (List (List ℕ)) → Result State AsmFault
all_said s n [] = Ok s
all_said s n (fs ∷ more) = said s n fs >>= λ t. all_said t (n + 1) more

-- the line of a number, or none where it is the usual one
abbrev pub lines_unless : ℕ → List ℕ → ℕ → List (List (List ℕ))
lines_unless usual word k = if k == usual then [] else number_fields word k ∷ []

joined_says : (s : State) (n : ℕ) (fs : List (List ℕ)) → AllByRecursion IsField fs → meaning s n (joined fs) ≡ said s n fs
unfolding meaning
joined_says s n fs h = rw (code_again fs h, allowed_again fs h, fields_again fs h) refl

then_same : (r : Result State AsmFault) (f g : State → Result State AsmFault) → ((t : State) → f t ≡ g t) → (r >>= f) ≡ (r >>= g)
then_same (Ok t) f g h = h t
then_same (Err k) f g h = refl

pub lines_said : (ls : List (List (List ℕ))) (s : State) (n : ℕ) → AreFields ls → lines_say s n (map joined ls) ≡ all_said s n ls
lines_said [] s n h = refl
lines_said (fs ∷ more) s n h =
    ap (λ (r : Result State AsmFault). r >>= λ t. lines_say t (n + 1) (map joined more)) (joined_says s n fs h.0)
    ∙ then_same (said s n fs) (λ t. lines_say t (n + 1) (map joined more)) (λ t. all_said t (n + 1) more) (λ t. lines_said more t (n + 1) h.1)

pub lines_made : (ls : List (List (List ℕ))) → AreFields ls → AllByRecursion IsLine (map joined ls)
lines_made [] h = tt
lines_made (fs ∷ more) h = (joined_line fs h.0, lines_made more h.1)

-- ## Lines after lines

-- where a line is well, the others go on from what it left
pub said_next : (fs : List (List ℕ)) (more : List (List (List ℕ))) (s t : State) (n : ℕ) → said s n fs ≡ Ok t → all_said s n (fs ∷ more) ≡ all_said t (n + 1) more
said_next fs more s t n e = ap (λ (r : Result State AsmFault). r >>= λ u. all_said u (n + 1) more) e

then_ok : (r : Result State AsmFault) (f : State → Result State AsmFault) (u : State) → (r >>= f) ≡ Ok u → (t : State) × (r ≡ Ok t) × (f t ≡ Ok u)
then_ok (Ok t) f u e = (t, refl, e)
then_ok (Err k) f u e = absurd cc

-- and so where several are
pub said_on : (ls more : List (List (List ℕ))) (s t : State) (n : ℕ) → all_said s n ls ≡ Ok t → all_said s n (ls ++ more) ≡ all_said t (n + length ls) more
said_on [] more s t n e =
    let same : s ≡ t = cc in
    let place : n ≡ n + 0 = omega arith in
    ap (λ (u : State). all_said u n more) same ∙ ap (λ (k : ℕ). all_said t k more) place
said_on (fs ∷ ls) more s t n e =
    let first = then_ok (said s n fs) (λ u. all_said u (n + 1) ls) t e in
    let place : n + 1 + length ls ≡ n + length (fs ∷ ls) = omega arith in
    said_next fs (ls ++ more) s first.0 n first.1
    ∙ said_on ls more first.0 t (n + 1) first.2
    ∙ ap (λ (k : ℕ). all_said t k more) place
