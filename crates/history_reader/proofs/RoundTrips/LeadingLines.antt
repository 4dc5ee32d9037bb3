-- The lines of a text that lead from one state to another.
use Rattle.std.proofs.Common.{◌≡◌, ℕ, ◌+◌, List, ◌∷◌, ◌++◌, [], Ok, refl, sym, ap, subst, ◌∙◌, append_assoc, append-nil, flat_map}
use Rattle.history_reader.proofs.Common.{AllByRecursion, State, fields_line, is_feed, joined, joined_line, meaning, parts_say, placed, slice_split, slice_split_at}
use Rattle.history_reader.{proofs.RoundTrips.ReadLines.ahead_on, proofs.RoundTrips.Lines.says_again, proofs.RoundTrips.Spellings.AreFields}

-- what a text says from one state on, its rest says from the other on
abbrev pub Leads : State → State → List ℕ → List ℕ → Type 0
Leads s t text rest = (n : ℕ) → (m : ℕ) × (parts_say s n (slice_split is_feed text) ≡ parts_say t m (slice_split is_feed rest))

-- the same text leads to the same state
pub stays : (s t : State) (text : List ℕ) → s ≡ t → Leads s t text text
stays s t text e = λ n. (n, ap (λ (u : State). parts_say u n (slice_split is_feed text)) e)

-- one text leads to a state, and from there its rest leads on
pub leads_on : (s t u : State) (text more rest : List ℕ) → Leads s t text more → Leads t u more rest → Leads s u text rest
leads_on s t u text more rest p q = λ n. (
  (q (p n).0).0,
  (p n).1 ∙ (q (p n).0).1,
)

-- a line that is spelled as fields leads to what it says
pub line_leads : (s t : State) (fs : List (List ℕ)) (line rest : List ℕ) → line ≡ joined fs ++ 10 ∷ [] → AreFields fs → meaning s (joined fs) ≡ Ok t → Leads s t (line ++ rest) rest
line_leads s t fs line rest e h m =
    let text : line ++ rest ≡ joined fs ++ 10 ∷ rest = ap (λ (x : List ℕ). x ++ rest) e ∙ append_assoc (joined fs) (10 ∷ []) rest in
    let parts : slice_split is_feed (line ++ rest) ≡ joined fs ∷ slice_split is_feed rest = ap (slice_split is_feed) text ∙ slice_split_at is_feed (joined fs) 10 rest (joined_line fs h).0 refl in
    λ n. (n + 1, sym (ahead_on s t n (line ++ rest) rest (joined fs) (parts_say s n (slice_split is_feed (line ++ rest))) refl parts m))

-- where it is told by its fields, it leads to what they say where they stand
pub fields_lead : (s t : State) (word : List ℕ) (fs : List (List ℕ)) (line rest : List ℕ) → line ≡ joined (word ∷ fs) ++ 10 ∷ [] → meaning s (joined (word ∷ fs)) ≡ fields_line s (joined (word ∷ fs)) → AreFields (word ∷ fs)
    → placed s.place s word fs ≡ Ok t → Leads s t (line ++ rest) rest
fields_lead s t word fs line rest e m h says = line_leads s t (word ∷ fs) line rest e h (says_again s t word fs m h says)

-- the texts of some elements, each of which leads on from the state that those before it leave
pub all_lead : {A : Type 0} (spell : A → List ℕ) (Is : A → Type 0) (state : List A → State) → ((before : List A) (x : A) (rest : List ℕ) → Is x → Leads (state before) (state (before ++ x ∷ [])) (spell x ++ rest) rest)
    → (before xs : List A) (rest : List ℕ) → AllByRecursion Is xs → Leads (state before) (state (before ++ xs)) (flat_map spell xs ++ rest) rest
all_lead spell Is state each before [] rest h = stays (state before) (state (before ++ [])) rest (ap state (sym (append-nil before)))
all_lead {A} spell Is state each before (x ∷ xs) rest h =
    let after : List ℕ = flat_map spell xs ++ rest in
    subst (λ (all : List A). Leads (state before) (state all) (flat_map spell (x ∷ xs) ++ rest) rest) (append_assoc before (x ∷ []) xs)
    (subst (λ (text : List ℕ). Leads (state before) (state (before ++ x ∷ [] ++ xs)) text rest) (sym (append_assoc (spell x) (flat_map spell xs) rest))
    (leads_on (state before) (state (before ++ x ∷ [])) (state (before ++ x ∷ [] ++ xs)) (spell x ++ after) after rest (each before x after h.0) (all_lead spell Is state each (before ++ x ∷ []) xs rest h.1)))
