-- Stores and commits one after another.
use Rattle.std.proofs.Common.{◌≡◌, ℕ, ◌≤◌, List, [], ◌∷◌, ◌++◌, length, set, get_or, sym, refl, ap, ◌∙◌, length-set, take}
use Rattle.itm_types.{proofs.Elements.all_take, proofs.WordLists.fit-set}
use Rattle.shared_words.proofs.Common.{AllFit, CommitsFit, Stand, StartsWith, StoresFit, after, memory_at, stored, take-append-le}

pub stored_snoc : (m : List ℕ) (xs : List (ℕ × ℕ)) (x : ℕ × ℕ) → stored m (xs ++ x ∷ []) ≡ set (stored m xs) x.0 x.1
stored_snoc m [] x = refl
stored_snoc m (y ∷ ys) x = stored_snoc (set m y.0 y.1) ys x

pub after_snoc : (m : List ℕ) (h : List (List (ℕ × ℕ))) (c : List (ℕ × ℕ)) → after m (h ++ c ∷ []) ≡ stored (after m h) c
after_snoc m [] c = refl
after_snoc m (d ∷ ds) c = after_snoc (stored m d) ds c

pub length_stored : (m : List ℕ) (xs : List (ℕ × ℕ)) → length (stored m xs) ≡ length m
length_stored m [] = refl
length_stored m (x ∷ xs) = length_stored (set m x.0 x.1) xs ∙ length-set m x.0 x.1

pub length_after : (m : List ℕ) (h : List (List (ℕ × ℕ))) → length (after m h) ≡ length m
length_after m [] = refl
length_after m (c ∷ cs) = length_after (stored m c) cs ∙ length_stored m c

pub stand_snoc : (m : List ℕ) (xs : List (ℕ × ℕ)) (k n : ℕ) → Stand m xs → n ≡ get_or m k 0 → Stand m (xs ++ (k, n) ∷ [])
stand_snoc m [] k n s e = (sym e, tt)
stand_snoc m (x ∷ xs) k n s e = (s.0, stand_snoc m xs k n s.1 e)

-- the memory after the first k commits does not change as the history grows
pub memory_stays : (m : List ℕ) (h more : List (List (ℕ × ℕ))) (k : ℕ) → StartsWith more h → k ≤ length h → memory_at m more k ≡ memory_at m h k
memory_stays m h more k s l = ap (after m) (ap (take k) s.1 ∙ take-append-le k h s.0 l)

-- ## Values that fit

pub commits_take : (k : ℕ) (h : List (List (ℕ × ℕ))) → CommitsFit h → CommitsFit (take k h)
commits_take k h s = all_take StoresFit k h s

pub stored_fits : (m : List ℕ) (xs : List (ℕ × ℕ)) → AllFit m → StoresFit xs → AllFit (stored m xs)
stored_fits m [] f s = f
stored_fits m (x ∷ xs) f s = stored_fits (set m x.0 x.1) xs (fit-set m x.0 x.1 f s.0) s.1

pub after_fits : (m : List ℕ) (h : List (List (ℕ × ℕ))) → AllFit m → CommitsFit h → AllFit (after m h)
after_fits m [] f s = f
after_fits m (c ∷ cs) f s = after_fits (stored m c) cs (stored_fits m c f s.0) s.1
