-- Properties, name by name.
use Rattle.std.proofs.Common.{◌≡◌, ℕ, ◌+◌, List, take, drop, Some, None, Result, Ok, Err, refl, sym, ap, ◌∙◌, position}
use Rattle.script_fields.proofs.Common.{FaultKind, Props, add_names, add_property, is_plus, property, slice_split, ◌>>=◌}
use Rattle.script_fields.proofs.FirstLines.{parts_first, parts_last}

-- the names of a text
abbrev add_text : Props → List ℕ → Result Props FaultKind
add_text p text = add_names p (slice_split is_plus text)

next : (p : Props) (text : List ℕ) (i : ℕ) → Some i ≡ position is_plus text
    → add_text p text ≡ (add_property p (property (take i text)) >>= λ q. add_text q (drop (i + 1) text))
next p text i e = ap (add_names p) (parts_first is_plus text i e)

abbrev after : Result Props FaultKind → List ℕ → Result Props FaultKind
after r text = r >>= λ q. add_text q text

pub name_added : (p q : Props) (text : List ℕ) (i : ℕ) → Some i ≡ position is_plus text
    → Ok q ≡ add_property p (property (take i text)) → add_text q (drop (i + 1) text) ≡ add_text p text
name_added p q text i e h = ap (λ (r : Result Props FaultKind). after r (drop (i + 1) text)) h ∙ sym (next p text i e)

pub name_refused : (p : Props) (k : FaultKind) (text : List ℕ) (i : ℕ) → Some i ≡ position is_plus text
    → Err k ≡ add_property p (property (take i text)) → add_text p text ≡ Err k
name_refused p k text i e h = next p text i e ∙ sym (ap (λ (r : Result Props FaultKind). after r (drop (i + 1) text)) h)

last_is : (r : Result Props FaultKind) → (r >>= λ q. Ok q) ≡ r
last_is (Ok q) = refl
last_is (Err k) = refl

pub name_last : (p : Props) (text : List ℕ) → None ≡ position is_plus text → add_text p text ≡ add_property p (property text)
name_last p text e = ap (add_names p) (parts_last is_plus text e) ∙ last_is (add_property p (property text))
