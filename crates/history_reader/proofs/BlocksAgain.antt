-- Blocks that ran again among calls: where they stand once one more call or block is told, and their lines.
use Rattle.std.proofs.Common.{◌≡◌, ℕ, zero, suc, ◌+◌, ◌-◌, ◌<◌, ◌≤◌, List, [], ◌∷◌, ◌++◌, length, take, drop, Option, None, Some, refl, sym, ap, subst, ◌∙◌, arith, append_assoc, append-nil, length-drop, zero-add, All}
use Rattle.history_reader.proofs.Common.{Again, All-pop, All-push, AreAgain, CallRecord, IsAgain, IsInnerBegin, IsTold, IsUndone, Ran, again_lines, call_line, call_lines, drop-append-le, drop_all, flat_map, restart_line, slice_get, slice_get_within, take-append-le, take_all, undone_line, with_undone}
use Rattle.std.proofs.lemmas.Grind.{flat_map-append}

-- ## By the calls up to their begins

-- each is told after so many calls or more, in order, and after so many at most
abbrev pub AreBetween : ℕ → ℕ → List Again → Type 0
AreBetween from to [] = Unit {0}
AreBetween from to (a ∷ rest) = (from ≤ a.kept) × (a.kept ≤ to) × AreBetween a.kept to rest

begin_within : (calls : List CallRecord) (place : ℕ) (o : Option CallRecord) → slice_get calls place ≡ o → IsInnerBegin o → place < length calls
begin_within calls place None e b = absurd b
begin_within calls place (Some x) e b = slice_get_within calls place x e

-- the calls up to a block's begin are there
pub kept_within : (size : ℕ) (calls : List CallRecord) (a : Again) → IsAgain size calls a → a.kept ≤ length calls
kept_within size calls a h = (let l = begin_within calls h.place (slice_get calls h.place) refl h.begins in omega (arith, h.kept))

pub between_of : (size from : ℕ) (calls : List CallRecord) (rs : List Again) → AreAgain size from calls rs → AreBetween from (length calls) rs
between_of size from calls [] h = tt
between_of size from calls (a ∷ rest) h = (omega (arith, h.1), kept_within size calls a h.0, between_of size a.kept calls rest h.2)

-- ## One more call, or one more block

got_before : (xs : List CallRecord) (e : CallRecord) (i : ℕ) → i < length xs → slice_get (xs ++ e ∷ []) i ≡ slice_get xs i
got_before [] e i l = absurd (omega arith)
got_before (x ∷ xs) e zero l = refl
got_before (x ∷ xs) e (suc i) l = got_before xs e i (omega (arith, l))

pub got_last : (xs : List CallRecord) (e : CallRecord) → slice_get (xs ++ e ∷ []) (length xs) ≡ Some e
got_last [] e = refl
got_last (x ∷ xs) e = got_last xs e

again_stays : (size : ℕ) (calls : List CallRecord) (e : CallRecord) (a : Again) → IsAgain size calls a → IsAgain size (calls ++ e ∷ []) a
again_stays size calls e a h = record {
  place = h.place;
  kept = h.kept;
  begins = subst IsInnerBegin (sym (got_before calls e h.place (begin_within calls h.place (slice_get calls h.place) refl h.begins))) h.begins;
  arena = h.arena;
}

pub again_more : (size from : ℕ) (calls : List CallRecord) (e : CallRecord) (rs : List Again) → AreAgain size from calls rs → AreAgain size from (calls ++ e ∷ []) rs
again_more size from calls e [] h = tt
again_more size from calls e (a ∷ rest) h = (again_stays size calls e a h.0, h.1, again_more size a.kept calls e rest h.2)

pub again_push : (size from to : ℕ) (calls : List CallRecord) (rs : List Again) (a : Again) → AreAgain size from calls rs → AreBetween from to rs → from < suc to → suc to ≡ a.kept → IsAgain size calls a → AreAgain size from calls (rs ++ a ∷ [])
again_push size from to calls [] a h b l e i = (i, omega (arith, l, e), tt)
again_push size from to calls (x ∷ rest) a h b l e i = (h.0, h.1, again_push size x.kept to calls rest a h.2 b.2 (omega (arith, b.1)) e i)

-- the actions of the last block are looked at by none of these
abbrev pub also : Again → Ran → Again
also a r = record a { undone = a.undone ++ r ∷ [] }

pub again_also : (size from : ℕ) (calls : List CallRecord) (rs : List Again) (a : Again) (r : Ran) → AreAgain size from calls (rs ++ a ∷ []) → AreAgain size from calls (rs ++ also a r ∷ [])
again_also size from calls [] a r h = (record { place = h.0.place; kept = h.0.kept; begins = h.0.begins; arena = h.0.arena }, h.1, tt)
again_also size from calls (x ∷ rest) a r h = (h.0, h.1, again_also size x.kept calls rest a r h.2)

between_also : (from to : ℕ) (rs : List Again) (a : Again) → AreBetween from to (rs ++ a ∷ []) → AreBetween from to rs
between_also from to [] a h = tt
between_also from to (x ∷ rest) a h = (h.0, h.1, between_also x.kept to rest a h.2)

-- those before the last one
pub between_first : (size from : ℕ) (calls : List CallRecord) (rs : List Again) (a : Again) → AreAgain size from calls (rs ++ a ∷ []) → AreBetween from (length calls) rs
between_first size from calls rs a h = between_also from (length calls) rs a (between_of size from calls (rs ++ a ∷ []) h)

-- one more action is one that a text can tell
pub told_also : (rs : List Again) (a : Again) (r : Ran) → All IsTold (rs ++ a ∷ []) → IsUndone r → All IsTold (rs ++ also a r ∷ [])
told_also rs a r h u =
    let p = All-pop IsTold (rs ++ a ∷ []) rs (Some a) refl h in
    All-push IsTold rs (also a r) p.0 (p.1.0, All-push IsUndone a.undone r p.1.1 u)

pub undone_is : (rs : List Again) (a : Again) (r : Ran) → with_undone (rs ++ a ∷ []) r ≡ rs ++ also a r ∷ []
undone_is [] a r = refl
undone_is (x ∷ []) a r = refl
undone_is (x ∷ y ∷ rest) a r = ap (λ (l : List Again). x ∷ l) (undone_is (y ∷ rest) a r)

-- ## Their lines

joined_front : (a b c d : List ℕ) → (a ++ b) ++ (c ++ d) ≡ ((a ++ b) ++ c) ++ d
joined_front a b c d = simp append_assoc

-- one more call stands behind all of them
lines_call : (n : ℕ) (calls : List CallRecord) (e : CallRecord) (rs : List Again) → AreBetween n (n + length calls) rs → call_lines n (calls ++ e ∷ []) rs ≡ call_lines n calls rs ++ call_line e
lines_call n calls e [] b = flat_map-append call_line calls (e ∷ []) ∙ ap (λ (l : List ℕ). flat_map call_line calls ++ l) (append-nil (call_line e))
lines_call n calls e (a ∷ rest) b =
    let m = a.kept - n in
    let few : m ≤ length calls = omega (arith, b.1) in
    let left : a.kept + length (drop m calls) ≡ n + length calls = omega (arith, length-drop m calls, b.0, b.1) in
    let later : call_lines a.kept (drop m calls ++ e ∷ []) rest ≡ call_lines a.kept (drop m calls) rest ++ call_line e =
    lines_call a.kept (drop m calls) e rest (subst (λ (t : ℕ). AreBetween a.kept t rest) (sym left) b.2) in
    (λ i. flat_map call_line (take-append-le m calls (e ∷ []) few i) ++ again_lines a ++ call_lines a.kept (drop-append-le m calls (e ∷ []) few i) rest)
    ∙ ap (λ (l : List ℕ). flat_map call_line (take m calls) ++ again_lines a ++ l) later
    ∙ joined_front (flat_map call_line (take m calls)) (again_lines a) (call_lines a.kept (drop m calls) rest) (call_line e)

-- and so does one more block that ran again, whose begin is the last call
lines_again : (n : ℕ) (calls : List CallRecord) (rs : List Again) (a : Again) → AreBetween n (n + length calls) rs → a.kept ≡ n + length calls → call_lines n calls (rs ++ a ∷ []) ≡ call_lines n calls rs ++ again_lines a
lines_again n calls [] a b k =
    let all : length calls ≤ a.kept - n = omega (arith, k) in
    (λ i. flat_map call_line (take_all (a.kept - n) calls all i) ++ again_lines a ++ flat_map call_line (drop_all (a.kept - n) calls all i))
    ∙ append-nil (flat_map call_line calls ++ again_lines a)
lines_again n calls (x ∷ rest) a b k =
    let m = x.kept - n in
    let left : x.kept + length (drop m calls) ≡ n + length calls = omega (arith, length-drop m calls, b.0, b.1) in
    let later = lines_again x.kept (drop m calls) rest a (subst (λ (t : ℕ). AreBetween x.kept t rest) (sym left) b.2) (k ∙ sym left) in
    ap (λ (l : List ℕ). flat_map call_line (take m calls) ++ again_lines x ++ l) later
    ∙ joined_front (flat_map call_line (take m calls)) (again_lines x) (call_lines x.kept (drop m calls) rest) (again_lines a)

-- of all calls of an attempt
pub whole_call : (calls : List CallRecord) (e : CallRecord) (rs : List Again) → AreBetween 0 (length calls) rs → call_lines 0 (calls ++ e ∷ []) rs ≡ call_lines 0 calls rs ++ call_line e
whole_call calls e rs b = lines_call 0 calls e rs (subst (λ (t : ℕ). AreBetween 0 t rs) (sym (zero-add (length calls))) b)

pub whole_again : (calls : List CallRecord) (rs : List Again) (a : Again) → AreBetween 0 (length calls) rs → a.kept ≡ length calls → call_lines 0 calls (rs ++ a ∷ []) ≡ call_lines 0 calls rs ++ again_lines a
whole_again calls rs a b k = lines_again 0 calls rs a (subst (λ (t : ℕ). AreBetween 0 t rs) (sym (zero-add (length calls))) b) (k ∙ sym (zero-add (length calls)))

-- its lines, with one more action
pub lines_also : (a : Again) (r : Ran) → again_lines (also a r) ≡ again_lines a ++ undone_line r
unfolding again_lines
lines_also a r =
    ap (λ (l : List ℕ). restart_line a.arena ++ l) (flat_map-append undone_line a.undone (r ∷ []) ∙ ap (λ (l : List ℕ). flat_map undone_line a.undone ++ l) (append-nil (undone_line r)))
    ∙ sym (append_assoc (restart_line a.arena) (flat_map undone_line a.undone) (undone_line r))
