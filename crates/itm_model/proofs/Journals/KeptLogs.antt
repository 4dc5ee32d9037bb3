-- Laws of logs of an arena, and of what is kept of it.
use Rattle.std.proofs.Common.{◌≡◌, ℕ, ◌+◌, ◌≤◌, List, [], ◌∷◌, ◌++◌, length, map, drop, refl, ap, sym, ◌∙◌, arith}
use Rattle.std.proofs.lemmas.List.{map-append}
use Rattle.itm_model.proofs.Common.{Logged, Old, also_kept, also_kept_more, also_kept_none, bytes_in, drop-append-le, kept_of, merged, slice, take-append-le}
use Rattle.itm_types.specs.OldBytes as olds
use Rattle.itm_types.proofs.OldBytes as laws

-- what an inner block logs is merged into what the one around it keeps
pub kept_of-append : (a : List ℕ) (xs ys : List Old) → kept_of a (xs ++ ys) ≡ merged (kept_of a xs) (kept_of a ys)
kept_of-append a xs ys = ap (olds.kept_of a) (map-append bytes_in xs ys) ∙ laws.kept_of-append a (map bytes_in xs) (map bytes_in ys)

-- ## Logs that follow one another

pub logged_none : (a : List ℕ) (p : ℕ) (os : List Old) → Logged a p 0 os os
logged_none a p os k h = (refl, sym (also_kept_none (kept_of a (drop k os)) a p))

pub logged_more : (a : List ℕ) (p m n : ℕ) (os os' os'' : List Old) → length os ≤ length os' → Logged a p m os os' → Logged a (p + m) n os' os'' → Logged a p (m + n) os os''
logged_more a p m n os os' os'' l f g k h =
    let x = f k h in
    let y = g k (omega (arith, h, l)) in
    (y.0 ∙ x.0, y.1 ∙ (ap (λ t. also_kept t a (p + m) n) x.1 ∙ also_kept_more (kept_of a (drop k os)) a p m n))

pub logged_one : (a : List ℕ) (p n : ℕ) (os : List Old) (o : Old) → p + n ≤ length a → o.place ≡ p → o.bytes.items ≡ slice a p n → Logged a p n os (os ++ o ∷ [])
logged_one a p n os o w e f k h =
    let part = map bytes_in (drop k os) in (
      take-append-le k os (o ∷ []) h,
      ap (olds.kept_of a) (ap (map bytes_in) (drop-append-le k os (o ∷ []) h) ∙ map-append bytes_in (drop k os) (o ∷ []))
          ∙ ((λ i. olds.kept_of a (part ++ record { place = e i; bytes = f i } ∷ [])) ∙ laws.kept_of-one a part p n w),
    )
