-- A text of the first two versions is read as it was before there were others.
use Rattle.std.proofs.Common.{◌≡◌, ℕ, ◌+◌, ◌<◌, Bool, true, false, List, [], ◌∷◌, ◌++◌, length, Result, Ok, Err, refl, sym, ap, ◌∙◌, arith, lit<, codes, All}
use Rattle.history_reader.proofs.Common.{IfOk-at_ok, ReadKind, State, bytes_eq-Decides, early_line, in_line, initial, is_feed, joined_line, meaning, parts_nonempty, parts_say, read_of, slice_split, slice_split_at}
use Rattle.history_reader.specs.declared.state.Place.TheVariants as places
use Rattle.history_reader.specs.EarlyVersions.{early_header, early_parts, early_texts, first_of, second_of}
use Rattle.history_reader.specs.Reading.{◌>>=◌}
use Rattle.history_reader.proofs.EarlyLines.{IsEarly, early, line_kept, line_same}

parts_same : (again : Bool) (s : State) (n : ℕ) (parts : List (List ℕ)) → IsEarly again s → parts_say s n parts ≡ early_parts again s n parts
parts_same again s n [] h = refl
parts_same again s n (rest ∷ []) h = refl
parts_same again s n (line ∷ part ∷ parts) h =
    ap (λ (r : Result State ReadKind). in_line n r >>= λ t. parts_say t (n + 1) (part ∷ parts)) (line_same again s line h)
    ∙ others (early_line again s line) refl (λ t k. parts_same again t (n + 1) (part ∷ parts) k)
  where
    others : (r : Result State ReadKind) → early_line again s line ≡ r → ((t : State) → IsEarly again t → parts_say t (n + 1) (part ∷ parts) ≡ early_parts again t (n + 1) (part ∷ parts))
        → (in_line n r >>= λ t. parts_say t (n + 1) (part ∷ parts)) ≡ (in_line n r >>= λ t. early_parts again t (n + 1) (part ∷ parts))
    others (Ok t) e f = f t (IfOk-at_ok (IsEarly again) e (line_kept again s line h))
    others (Err k) e f = refl

-- ## The two versions

-- a text whose first line is this name
read_so : (again : Bool) (name rest : List ℕ) → All (λ x. is_feed x ≡ false) name → meaning initial name ≡ Ok (record initial { place = places.AtMemory; version = early again })
    → parts_say initial 1 (slice_split is_feed (name ++ 10 ∷ rest)) ≡ early_texts name (early again) again (slice_split is_feed (name ++ 10 ∷ rest))
read_so again name rest unfed said =
    let parts : slice_split is_feed (name ++ 10 ∷ rest) ≡ name ∷ slice_split is_feed rest = slice_split_at is_feed name 10 rest unfed refl in
    ap (parts_say initial 1) parts ∙ started (slice_split is_feed rest) (parts_nonempty is_feed rest) ∙ ap (early_texts name (early again) again) (sym parts)
  where
    started : (parts : List (List ℕ)) → 0 < length parts → parts_say initial 1 (name ∷ parts) ≡ early_texts name (early again) again (name ∷ parts)
    started [] l = absurd (omega arith)
    started (part ∷ parts) l =
        let named : early_header name (early again) name ≡ Ok (record initial { place = places.AtMemory; version = early again }) = rw ((bytes_eq-Decides name name).1 refl) refl in
        ap (λ (r : Result State ReadKind). in_line 1 r >>= λ t. parts_say t 2 (part ∷ parts)) said
        ∙ parts_same again (record initial { place = places.AtMemory; version = early again }) 2 (part ∷ parts) (record { version = refl; place = tt })
        ∙ sym (ap (λ (r : Result State ReadKind). in_line 1 r >>= λ t. early_parts again t 2 (part ∷ parts)) named)

first_unfed : All (λ x. is_feed x ≡ false) (codes "itm-history 1")
first_unfed = (joined_line (codes "itm-history" ∷ codes "1" ∷ []) ((lit< tt, refl), ((lit< tt, refl), tt))).0

pub first_read : (rest : List ℕ) → read_of (codes "itm-history 1\n" ++ rest) ≡ first_of (codes "itm-history 1\n" ++ rest)
unfolding read_of first_of meaning
first_read rest = read_so false (codes "itm-history 1") rest first_unfed refl

second_unfed : All (λ x. is_feed x ≡ false) (codes "itm-history 2")
second_unfed = (joined_line (codes "itm-history" ∷ codes "2" ∷ []) ((lit< tt, refl), ((lit< tt, refl), tt))).0

pub second_read : (rest : List ℕ) → read_of (codes "itm-history 2\n" ++ rest) ≡ second_of (codes "itm-history 2\n" ++ rest)
unfolding read_of second_of meaning
second_read rest = read_so true (codes "itm-history 2") rest second_unfed refl
