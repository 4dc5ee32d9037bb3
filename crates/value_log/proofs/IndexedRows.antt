-- An index as rows join, and what it finds.
use Rattle.std.proofs.Common.{map, Bool, true, if◌then◌else◌, eqb, ◌^◌, ◌≡◌, ◌≢◌, ◌⊎◌, ℕ, zero, suc, ◌==◌, ◌<◌, ◌≤◌, false, List, [], ◌∷◌, ◌++◌, Some, None, length, take, slice_get, slice_set, ◌-◌, refl, sym, ap, subst, ◌∙◌, inl, inr, arith}
use Rattle.std.proofs.lemmas.Bool.Decides.{nat_tests}
use Rattle.value_log.proofs.Common.{AllBelow, AreHeads, AreLinks, AreSingle, FallsTo, IsIndex, IsLast, LogRow, length-append, length-map, length-set, length_push, same_Some, slice_get_within, slot_of, take_all, value_of}
use Rattle.std.specs.List.{list_any, AllByRecursion, IsDistinct}
use Rattle.std.proofs.lemmas.Bool.{cases_Bool, eqb-true, eqb-false}
use Rattle.std.proofs.lemmas.Map.Keys.{IsDistinct-cons}
use Rattle.std.proofs.lemmas.Map.Steps.{length-le_from_distinct_below}
use Rattle.itm_types.proofs.Words.{slice_get-set_same, slice_get-set_other, slice_get-push}

-- ## Rows by place

-- a word that has no value has no row
other_at : (rows : List LogRow) (word i : ℕ) (x : LogRow) → value_of word rows ≡ None → slice_get rows i ≡ Some x → (x.word == word) ≡ false
other_at [] word i x none e = absurd (cc)
other_at (y ∷ ys) word zero x none e = grind (arith, nat_tests)
other_at (y ∷ ys) word (suc i) x none e = grind (arith, nat_tests, other_at ys word i x)

-- in a log the word of each row has that row's value
pub value_at : (rows : List LogRow) (n : ℕ) (x : LogRow) → AreSingle rows → slice_get rows n ≡ Some x → value_of x.word rows ≡ Some x.value
value_at [] n x s e = absurd (cc)
value_at (y ∷ ys) zero x s e = grind (arith, nat_tests)
value_at (y ∷ ys) (suc n) x s e = grind (arith, nat_tests, other_at ys y.word n x s.0 e, value_at ys n x s.1 e)

-- and a word that no row has has none
pub no_value : (rows : List LogRow) (word : ℕ) → ((i : ℕ) (x : LogRow) → slice_get rows i ≡ Some x → x.word ≢ word) → value_of word rows ≡ None
no_value [] word none = refl
no_value (y ∷ ys) word none = grind (arith, nat_tests, none 0 y refl, no_value ys word (λ i. none (suc i)))

-- ## How many rows there are

words_of : List LogRow → List ℕ
words_of rows = map (λ (r : LogRow). r.word) rows

-- of each word that a memory can have there is one at most, so a place is a number of 32 bits
pub few_rows : (rows : List LogRow) → AreSingle rows → AllBelow rows → length rows < 2 ^ 32
unfolding words_of IsDistinct
few_rows rows single below =
    let at_most : length (words_of rows) ≤ 2 ^ 32 - 1 = length-le_from_distinct_below (words_of rows) (2 ^ 32 - 1) (distinct rows single) (λ q h. within rows q below h) in
    omega (arith, at_most, length-map rows (λ (r : LogRow). r.word))
  where
    apart : (rows : List LogRow) (word : ℕ) → value_of word rows ≡ None → AllByRecursion (λ y. eqb word y ≡ false) (map (λ (r : LogRow). r.word) rows)
    apart [] word e = tt
    apart (y ∷ ys) word e = (grind (arith, nat_tests), apart ys word (grind (arith, nat_tests)))

    distinct : (rows : List LogRow) → AreSingle rows → IsDistinct eqb (map (λ (r : LogRow). r.word) rows)
    distinct [] s = tt
    distinct (r ∷ rs) s = IsDistinct-cons eqb r.word (map (λ (r : LogRow). r.word) rs) (apart rs r.word s.0) (distinct rs s.1)

    within : (rows : List LogRow) (q : ℕ) → AllBelow rows → list_any (eqb q) (map (λ (r : LogRow). r.word) rows) ≡ true → q < 2 ^ 32 - 1
    within [] q b h = absurd (cc)
    within (y ∷ ys) q b h = grind (arith, nat_tests, within ys q b.1, b.0)

-- ## Which rows fall to a slot

got_left : {X : Type 0} (xs more : List X) (i : ℕ) → i < length xs → slice_get (xs ++ more) i ≡ slice_get xs i
got_left [] more i l = absurd (omega arith)
got_left (x ∷ xs) more zero l = refl
got_left (x ∷ xs) more (suc i) l = got_left xs more i (omega arith)

got_last : (rows : List LogRow) (r : LogRow) → slice_get (rows ++ r ∷ []) (length rows) ≡ Some r
got_last [] r = refl
got_last (y ∷ ys) r = got_last ys r

module _ (slots : ℕ) (rows : List LogRow) (r : LogRow) where
  falls_more : (slot i : ℕ) → FallsTo slots rows slot i → FallsTo slots (rows ++ r ∷ []) slot i
  falls_more slot i f = (f.0, got_left rows (r ∷ []) i (slice_get_within rows i f.0 f.1) ∙ f.1, f.2)

  falls_push : (slot i : ℕ) → FallsTo slots (rows ++ r ∷ []) slot i → FallsTo slots rows slot i ⊎ ((i ≡ length rows) × (slot_of slots r.word ≡ slot))
  falls_push slot i f = elim (slice_get-push rows r i f.0 f.1) [
    | inl there ↦ inl (f.0, there, f.2)
    | inr last ↦ inr (last.0, subst (λ (x : LogRow). slot_of slots x.word ≡ slot) (sym last.1) f.2)
  ]

  -- a row that joins behind the end changes nothing before it
  last_more : (slot end place : ℕ) → end ≤ length rows → IsLast slots rows slot end place → IsLast slots (rows ++ r ∷ []) slot end place
  last_more slot end place l is i below f = elim (falls_push slot i f) [
    | inl there ↦ (let at = is i below there in (at.0, at.1, falls_more slot place at.2))
    | inr last ↦ (let same = last.0 in absurd (omega (arith, l, below, same)))
  ]

  -- one that falls to another slot changes nothing
  last_other : (slot place : ℕ) → slot_of slots r.word ≢ slot → IsLast slots rows slot (length rows) place → IsLast slots (rows ++ r ∷ []) slot (length (rows ++ r ∷ [])) place
  last_other slot place other is i below f = elim (falls_push slot i f) [
    | inl there ↦ (let at = is i (slice_get_within rows i there.0 there.1) there in (at.0, subst (λ (n : ℕ). place < n) (sym (length_push rows r)) (omega (arith, at.1)), falls_more slot place at.2))
    | inr last ↦ absurd (other last.1)
  ]

  -- and it is itself the last one of its own
  last_own : (slot : ℕ) → slot_of slots r.word ≡ slot → IsLast slots (rows ++ r ∷ []) slot (length (rows ++ r ∷ [])) (length rows)
  last_own slot own i below f = (let long = length_push rows r in (omega (arith, below, long), omega (arith, long), (r, got_last rows r, own)))

-- ## The index

module _ (last before : List ℕ) (rows : List LogRow) (r : LogRow) (old : ℕ) where
  pub index_push : slice_get last (slot_of (length last) r.word) ≡ Some old → length rows < length before → IsIndex last before rows
      → IsIndex (slice_set last (slot_of (length last) r.word) (length rows)) (slice_set before (length rows) old) (rows ++ r ∷ [])
  index_push there room is = record { within = omega (arith, room, length_push rows r, length-set before (length rows) old); heads = subst (λ (n : ℕ). AreHeads n new_last (rows ++ r ∷ [])) (sym size) heads; links = subst (λ (n : ℕ). AreLinks n new_before (rows ++ r ∷ [])) (sym size) links }
    where
      own : ℕ
      own = slot_of (length last) r.word

      new_last : List ℕ
      new_last = slice_set last own (length rows)

      new_before : List ℕ
      new_before = slice_set before (length rows) old

      size : length new_last ≡ length last
      size = length-set last own (length rows)

      heads : AreHeads (length last) new_last (rows ++ r ∷ [])
      heads s p e = elim (cases_Bool (own == s)) [
        | inl same ↦ (
            let here = eqb-true own s same in
            let place : p ≡ length rows = same_Some p (length rows) (sym e ∙ (ap (slice_get new_last) (sym here) ∙ slice_get-set_same last own (length rows) (slice_get_within last own old there))) in
            subst (λ (n : ℕ). IsLast (length last) (rows ++ r ∷ []) s (length (rows ++ r ∷ [])) n) (sym place) (last_own (length last) rows r s here))
        | inr other ↦ (
            let apart = eqb-false own s other in
            last_other (length last) rows r s p apart (is.heads s p (sym (slice_get-set_other last own s (length rows) apart) ∙ e)))
      ]

      links : AreLinks (length last) new_before (rows ++ r ∷ [])
      links i p x e h = elim (slice_get-push rows r i x e) [
        | inl before_it ↦ (
            let within = slice_get_within rows i x before_it in
            last_more (length last) rows r (slot_of (length last) x.word) i p (omega (arith, within))
            (is.links i p x before_it (sym (slice_get-set_other before (length rows) i old (λ same. omega (arith, within, same))) ∙ h)))
        | inr it ↦ (
            let place : p ≡ old = same_Some p old (sym h ∙ (ap (slice_get new_before) it.0 ∙ slice_get-set_same before (length rows) old room)) in
            subst (λ (n : ℕ). IsLast (length last) (rows ++ r ∷ []) (slot_of (length last) x.word) i n) (sym place)
            (subst (λ (n : ℕ). IsLast (length last) (rows ++ r ∷ []) (slot_of (length last) x.word) n old) (sym it.0)
            (subst (λ (z : LogRow). IsLast (length last) (rows ++ r ∷ []) (slot_of (length last) z.word) (length rows) old) it.1
            (last_more (length last) rows r own (length rows) old (omega arith) (is.heads own old there)))))
      ]

-- links of more places change nothing
pub index_longer : (last before more : List ℕ) (rows : List LogRow) → IsIndex last before rows → IsIndex last (before ++ more) rows
index_longer last before more rows is = record { within = omega (arith, is.within, length-append before more); heads = is.heads; links = λ i place r e h. is.links i place r e (sym (got_left before more i (omega (arith, slice_get_within rows i r e, is.within))) ∙ h) }

pub index_resized : (ok : Bool) (last before more : List ℕ) (rows : List LogRow) (n : ℕ) → length before ≤ n → IsIndex last before rows
    → IsIndex last (if ok then take n before ++ more else before) rows
index_resized true last before more rows n long is = subst (λ (b : List ℕ). IsIndex last (b ++ more) rows) (sym (take_all n before long)) (index_longer last before more rows is)
index_resized false last before more rows n long is = is

-- ## What it finds

-- the word's row, if it has one, stands before the end
abbrev pub StandsBefore : List LogRow → ℕ → ℕ → Type 0
StandsBefore rows word end = (i : ℕ) (x : LogRow) → slice_get rows i ≡ Some x → x.word ≡ word → i < end

pub stands_before : (rows : List LogRow) (word : ℕ) → StandsBefore rows word (length rows)
stands_before rows word i x e same = slice_get_within rows i x e

module _ (slots : ℕ) (rows : List LogRow) (word end place : ℕ) (is : IsLast slots rows (slot_of slots word) end place) (stands : StandsBefore rows word end) where
  -- where its row is, the place is not before it
  not_past : (i : ℕ) (x : LogRow) → slice_get rows i ≡ Some x → x.word ≡ word → (i ≤ place) × (place < end) × FallsTo slots rows (slot_of slots word) place
  not_past i x e same = is i (stands i x e same) (x, e, ap (slot_of slots) same)

  pub none_at_end : end ≤ place → value_of word rows ≡ None
  none_at_end l = no_value rows word (λ i x e same. (let at = not_past i x e same in omega (arith, l, at.1)))

  module _ (r : LogRow) (here : slice_get rows place ≡ Some r) where
    pub none_past_chain : slot_of slots r.word ≢ slot_of slots word → value_of word rows ≡ None
    none_past_chain other = no_value rows word (λ i x e same. (
        let at = not_past i x e same in
        let row = same_Some at.2.0 r (sym at.2.1 ∙ here) in
        other (subst (λ (z : LogRow). slot_of slots z.word ≡ slot_of slots word) row at.2.2)))

    pub still_before : r.word ≢ word → StandsBefore rows word place
    still_before other i x e same =
        let at = not_past i x e same in
        elim (cases_Bool (i == place)) [
          | inl here' ↦ (let row = same_Some x r (sym e ∙ (ap (slice_get rows) (eqb-true i place here') ∙ here)) in absurd (other (ap (λ (z : LogRow). z.word) (sym row) ∙ same)))
          | inr apart ↦ (let ne = eqb-false i place apart in omega (arith, at.0, ne))
        ]
