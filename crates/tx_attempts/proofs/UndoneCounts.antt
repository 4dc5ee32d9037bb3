-- How many actions the records of blocks that ran again tell of, record by record.
use Rattle.std.proofs.Common.{◌≡◌, ℕ, ◌+◌, ◌<◌, ◌≤◌, Bool, true, false, nat_lt, if◌then◌else◌, List, [], ◌∷◌, ◌++◌, drop, length, take, get_or, sym, ap, ◌∙◌, arith}
use Rattle.tx_attempts.proofs.Common.{Again, before, count_undone, le-ltb, lt-ltb, take-append-drop, take_more}
use Rattle.tx_attempts.proofs.KeptRecords.{before_both, before_early, before_late}

pub undone_both : (xs ys : List Again) → count_undone (xs ++ ys) ≡ count_undone xs + count_undone ys
undone_both [] ys = (let e : count_undone ys ≡ 0 + count_undone ys = omega arith in e)
undone_both (x ∷ xs) ys = (let e = undone_both xs ys in omega arith)

module _ (xs : List Again) where
  pub undone_few : (n : ℕ) → count_undone (take n xs) ≤ count_undone xs
  undone_few n = omega (arith, undone_both (take n xs) (drop n xs), ap count_undone (take-append-drop n xs))

  pub undone_next : (i : ℕ) (d : Again) → i < length xs → count_undone (take (i + 1) xs) ≡ count_undone (take i xs) + length (get_or xs i d).undone
  undone_next i d within = omega (arith, ap count_undone (take_more xs i d within), undone_both (take i xs) (get_or xs i d ∷ []))

  module _ (kept : ℕ) where
    pub before_few : (n : ℕ) → count_undone (before kept (take n xs)) ≤ count_undone (before kept xs)
    before_few n = omega (arith, undone_both (before kept (take n xs)) (before kept (drop n xs)), ap count_undone (before_both kept (take n xs) (drop n xs)), ap (λ (l : List Again). count_undone (before kept l)) (take-append-drop n xs))

    module _ (i : ℕ) (a : Again) (is : a ≡ get_or xs i a) (within : i < length xs) where
      one_more : take (i + 1) xs ≡ take i xs ++ a ∷ []
      one_more = take_more xs i a within ∙ ap (λ (x : Again). take i xs ++ x ∷ []) (sym is)

      pub next_early : a.kept < kept → count_undone (before kept (take (i + 1) xs)) ≡ count_undone (before kept (take i xs)) + length a.undone
      next_early l = omega (
        arith,
        ap (λ (l : List Again). count_undone (before kept l)) one_more,
        ap count_undone (before_early kept a (take i xs) (lt-ltb a.kept kept l)),
        undone_both (before kept (take i xs)) (a ∷ []),
      )

      pub next_late : kept ≤ a.kept → count_undone (before kept (take (i + 1) xs)) ≡ count_undone (before kept (take i xs))
      next_late l = ap (λ (l : List Again). count_undone (before kept l)) one_more ∙ ap count_undone (before_late kept a (take i xs) (le-ltb a.kept kept l))

-- those before so many calls tell of no more than all
pub before_no_more : (kept : ℕ) (xs : List Again) → count_undone (before kept xs) ≤ count_undone xs
before_no_more kept [] = omega arith
before_no_more kept (x ∷ xs) = (let rest = before_no_more kept xs in
    elim (nat_lt x.kept kept) as (λ (b : Bool). count_undone (if b then x ∷ before kept xs else before kept xs) ≤ count_undone (x ∷ xs)) [ true ↦ omega arith | false ↦ omega arith ])
