-- Laws of the newest entry of a piece, and of the table that has it for each.
use Rattle.std.proofs.Common.{◌≡◌, inl, inr, ℕ, zero, suc, ◌+◌, ◌*◌, ◌<◌, ◌≤◌, Bool, true, false, cond, eqb, List, [], ◌∷◌, ◌++◌, length, get_or, set, take, drop, refl, ap, sym, subst, ◌∙◌, arith, append_assoc, length-append}
use Rattle.std.proofs.lemmas.Bool.Decides.{nat_tests}
use Rattle.itm_types.proofs.Elements.{all_append, all_at}
use Rattle.itm_model.proofs.Common.{Adds, AreAmong, AreLinked, AreNewest, ArePieces, AreWithin, IsCovered, IsIndexed, IsPiece, Old, append-nil, cond-false, cond-true, eq-eqb, eqb-true, get_or-set_other, get_or-set_same, length-set, ne_eqb, newest_in, piece_of, pieces_in, take_more, with_one_before}

-- ## The newest entry of a piece

newest_push : (os : List Old) (o : Old) (p : ℕ) → newest_in (os ++ o ∷ []) p ≡ cond (eqb (piece_of o) p) (suc (length os)) (newest_in os p)
newest_push [] o p = refl
newest_push (x ∷ os) o p = grind (arith, nat_tests, newest_push os o p)

pub newest_of_it : (os : List Old) (o : Old) (p : ℕ) → piece_of o ≡ p → newest_in (os ++ o ∷ []) p ≡ suc (length os)
newest_of_it os o p e = newest_push os o p ∙ cond-true (eqb (piece_of o) p) (suc (length os)) (newest_in os p) (eq-eqb (piece_of o) p e)

pub newest_of_another : (os : List Old) (o : Old) (p : ℕ) → (piece_of o ≡ p → ⊥) → newest_in (os ++ o ∷ []) p ≡ newest_in os p
newest_of_another os o p e = newest_push os o p ∙ cond-false (eqb (piece_of o) p) (suc (length os)) (newest_in os p) (ne_eqb (piece_of o) p e)

-- more entries
newest_more : (os more : List Old) (p : ℕ) → newest_in os p ≤ newest_in (os ++ more) p
newest_more [] more p = omega arith
newest_more (o ∷ os) more p = grind (arith, nat_tests, newest_more os more p)

-- ## Whole pieces

pub pieces_within : (n : ℕ) (os : List Old) → ArePieces n os → AreWithin n os
pieces_within n [] w = tt
pieces_within n (o ∷ os) w = (omega (arith, w.0.inside, w.0.whole), pieces_within n os w.1)

piece_among : (n c : ℕ) (o : Old) → c ≡ pieces_in n → IsPiece n o → piece_of o < c
piece_among n c o e w = omega (arith, e, w.start, w.inside)

pub pieces_among : (n c : ℕ) (os : List Old) → c ≡ pieces_in n → ArePieces n os → AreAmong c os
pieces_among n c [] e w = tt
pieces_among n c (o ∷ os) e w = (piece_among n c o e w.0, pieces_among n c os e w.1)

-- ## Links

pub linked_push : (before os : List Old) (o : Old) → AreLinked before os → o.earlier ≡ newest_in (before ++ os) (piece_of o) → AreLinked before (os ++ o ∷ [])
linked_push before [] o w e = (e ∙ ap (λ t. newest_in t (piece_of o)) (append-nil before), tt)
linked_push before (x ∷ os) o w e = (w.0, linked_push (before ++ x ∷ []) os o w.1 (e ∙ ap (λ t. newest_in t (piece_of o)) (sym (append_assoc before (x ∷ []) os))))

pub linked_take : (k : ℕ) (before os : List Old) → AreLinked before os → AreLinked before (take k os)
linked_take zero before os w = tt
linked_take (suc k) before [] w = tt
linked_take (suc k) before (o ∷ os) w = (w.0, linked_take k (before ++ o ∷ []) os w.1)

pub linked_drop : (k : ℕ) (before os : List Old) → AreLinked before os → AreLinked (before ++ take k os) (drop k os)
linked_drop zero before os w = subst (λ (t : List Old). AreLinked t os) (sym (append-nil before)) w
linked_drop (suc k) before [] w = tt
linked_drop (suc k) before (o ∷ os) w =
    subst (λ (t : List Old). AreLinked t (drop k os)) (append_assoc before (o ∷ []) (take k os)) (linked_drop k (before ++ o ∷ []) os w.1)

linked_at : (before os : List Old) (i : ℕ) (d : Old) → AreLinked before os → i < length os → (get_or os i d).earlier ≡ newest_in (before ++ take i os) (piece_of (get_or os i d))
linked_at before [] i d w h = absurd (omega (arith, h))
linked_at before (o ∷ os) zero d w h = w.0 ∙ ap (λ t. newest_in t (piece_of o)) (sym (append-nil before))
linked_at before (o ∷ os) (suc i) d w h =
    linked_at (before ++ o ∷ []) os i d w.1 (omega (arith, h)) ∙ ap (λ t. newest_in t (piece_of (get_or os i d))) (append_assoc before (o ∷ []) (take i os))

-- ## The table

-- an entry comes
pub newest_pushed : (os : List Old) (ns : List ℕ) (o : Old) → AreNewest os ns → piece_of o < length ns → AreNewest (os ++ o ∷ []) (set ns (piece_of o) (suc (length os)))
newest_pushed os ns o w h q l =
    grind (arith, nat_tests, newest_push os o q, w q, get_or-set_same ns (piece_of o) (suc (length os)) 0 h, get_or-set_other ns (piece_of o) q (suc (length os)) 0, length-set ns (piece_of o) (suc (length os)))

-- the last one is gone
newest_popped : (os : List Old) (ns : List ℕ) (o : Old) → AreNewest (os ++ o ∷ []) ns → o.earlier ≡ newest_in os (piece_of o) → piece_of o < length ns → AreNewest os (set ns (piece_of o) o.earlier)
newest_popped os ns o w e h q l =
    grind (arith, nat_tests, newest_push os o q, w q, get_or-set_same ns (piece_of o) o.earlier 0 h, get_or-set_other ns (piece_of o) q o.earlier 0, length-set ns (piece_of o) o.earlier)

-- the newest entry is forgotten
pub newest_forgotten : (os : List Old) (ns : List ℕ) (k : ℕ) (o : Old) → AreLinked [] os → AreAmong (length ns) os → k < length os → o ≡ get_or os k o → AreNewest (take (k + 1) os) ns → AreNewest (take k os) (set ns (piece_of o) o.earlier)
newest_forgotten os ns k o w a h e n =
    let more : take (k + 1) os ≡ take k os ++ o ∷ [] = take_more os k o h ∙ ap (λ (t : Old). take k os ++ t ∷ []) (sym e) in
    let link : o.earlier ≡ newest_in (take k os) (piece_of o) = subst (λ (t : Old). t.earlier ≡ newest_in (take k os) (piece_of t)) (sym e) (linked_at [] os k o w h) in
    let among : piece_of o < length ns = subst (λ (t : Old). piece_of t < length ns) (sym e) (all_at (λ t. piece_of t < length ns) os k o a h) in
    newest_popped (take k os) ns o (subst (λ (t : List Old). AreNewest t ns) more n) link among

pub indexed_push : (n : ℕ) (os : List Old) (ns : List ℕ) (o : Old) → IsIndexed n os ns → IsPiece n o → o.earlier ≡ newest_in os (piece_of o) → IsIndexed n (os ++ o ∷ []) (set ns (piece_of o) (suc (length os)))
indexed_push n os ns o x w e = record {
  pieces = all_append (IsPiece n) os (o ∷ []) x.pieces (w, tt);
  linked = linked_push [] os o x.linked e;
  table = newest_pushed os ns o x.table (piece_among n (length ns) o x.count w);
  count = length-set ns (piece_of o) (suc (length os)) ∙ x.count;
}

-- ## First entries

pub adds_none : (top : ℕ) (os : List Old) → Adds top os os
adds_none top os = ([], sym (append-nil os), tt)

pub adds_more : (top : ℕ) (a b c : List Old) → Adds top a b → Adds top b c → Adds top a c
adds_more top a b c x y = (
  x.0 ++ y.0,
  y.1 ∙ (ap (λ t. t ++ y.0) x.1 ∙ append_assoc a x.0 y.0),
  all_append _ x.0 y.0 x.2 y.2,
)

pub adds_longer : (top : ℕ) (a b : List Old) → Adds top a b → length a ≤ length b
adds_longer top a b x = omega (arith, ap (length {A = Old}) x.1, length-append a x.0)

pub adds_newest : (top : ℕ) (a b : List Old) (p : ℕ) → Adds top a b → newest_in a p ≤ newest_in b p
adds_newest top a b p x = subst (λ (t : List Old). newest_in a p ≤ newest_in t p) (sym x.1) (newest_more a x.0 p)

-- ## The bytes of a piece that has an entry

covered_zero : (size top : ℕ) (o : Old) (os : List Old) (p i : ℕ) (b : Bool) → IsPiece size o → eqb (piece_of o) p ≡ b → top < with_one_before zero b → 32 * p ≤ i → i < 32 * p + 32 → i < size
    → IsCovered (drop top (o ∷ os)) i
covered_zero size zero o os p i true w e h l m s =
    let same : piece_of o ≡ p = eqb-true (piece_of o) p e in
    inl (omega (arith, w.start, same, l), omega (arith, w.start, w.whole, same, m, s))
covered_zero size (suc top) o os p i true w e h l m s = absurd (omega (arith, h))
covered_zero size top o os p i false w e h l m s = absurd (omega (arith, h))

covered_cons : (size top : ℕ) (o : Old) (os : List Old) (p i n : ℕ) → IsPiece size o → newest_in os p ≡ n → top < with_one_before n (eqb (piece_of o) p) → 32 * p ≤ i → i < 32 * p + 32 → i < size
    → ((t : ℕ) → t < newest_in os p → IsCovered (drop t os) i) → IsCovered (drop top (o ∷ os)) i
covered_cons size top o os p i zero w e h l m s rest = covered_zero size top o os p i (eqb (piece_of o) p) w refl h l m s
covered_cons size zero o os p i (suc n) w e h l m s rest = inr (rest 0 (omega (arith, e)))
covered_cons size (suc top) o os p i (suc n) w e h l m s rest = rest top (omega (arith, e, h))

pub newest_covers : (size top : ℕ) (os : List Old) (p i : ℕ) → ArePieces size os → top < newest_in os p → 32 * p ≤ i → i < 32 * p + 32 → i < size → IsCovered (drop top os) i
newest_covers size top [] p i w h l m s = absurd (omega (arith, h))
newest_covers size top (o ∷ os) p i w h l m s = covered_cons size top o os p i (newest_in os p) w.0 refl h l m s (λ t k. newest_covers size t os p i w.1 k l m s)

covered_all : (k : ℕ) (os : List Old) (i : ℕ) → IsCovered (drop k os) i → IsCovered os i
covered_all zero os i c = c
covered_all (suc k) [] i c = c
covered_all (suc k) (o ∷ os) i c = inr (covered_all k os i c)

pub covered_drop : (k top : ℕ) (os : List Old) (i : ℕ) → k ≤ top → IsCovered (drop top os) i → IsCovered (drop k os) i
covered_drop zero top os i h c = covered_all top os i c
covered_drop (suc k) zero os i h c = absurd (omega (arith, h))
covered_drop (suc k) (suc top) [] i h c = c
covered_drop (suc k) (suc top) (o ∷ os) i h c = covered_drop k top os i (omega (arith, h)) c
