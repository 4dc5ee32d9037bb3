-- Rows of which an index has the places: what their list and the index become where a row comes, goes or changes.
use Rattle.std.proofs.Common.{◌≡◌, ◌<◌, ◌≤◌, ◌+◌, ℕ, zero, suc, ◌^◌, min, List, [], ◌∷◌, ◌++◌, length, take, ◌==◌, false, get_or, length-take-le, nat_eq, Bool, cond, position, Option, Some, None, slice_get, slice_set, refl, sym, ap, ◌∙◌, ◌⊎◌, inl, inr, arith, subst, IfNone, IfSome}
use Rattle.itm_types.proofs.Words.{slice_get-push}
use Rattle.std.{proofs.lemmas.List.take_more_set, proofs.lemmas.List.Quantifiers.position-Some, proofs.lemmas.Map.Keys.apart_from_distinct}
use Rattle.write_set.proofs.Common.{AreHeld, AreRows, Index, IsDistinct, IsFirst, Puts, Row, cases_Bool, eq-eqb, eqb-false, eqb-true, get_or_from_slice_get, keys_of, length_push, lookup, ne_eqb, place_in, row, same_Some, set_row, slice_get-get_or, slice_get_within, values_of, length-take}
use Rattle.indexmap.proofs.MapLemmas.{Missing-position}
use Rattle.write_set.proofs.Overlays.{AreRows-push, AreRows-take}
use Rattle.write_set.proofs.Places.{indexed, none_before, other_at, place_of_found, AreRows-set_row}

-- ## The list

pub got_within : (list : List Row) (place : ℕ) (r d : Row) → place < length list → r ≡ get_or list place d → slice_get list place ≡ Some r
got_within list place r d within is = slice_get-get_or list place d within ∙ ap Some (sym is)

-- a row in the place of one of the same word
set_of : (list : List Row) (place : ℕ) (r x : Row) → slice_get list place ≡ Some r → r.word ≡ x.word → slice_set list place x ≡ set_row list place x.mask x.value
set_of [] place r x e same = absurd (cc)
set_of (y ∷ ys) zero r x e same =
    let word : x.word ≡ y.word = sym same ∙ ap (λ (r : Row). r.word) (sym (same_Some y r e)) in
    (λ i. row (word i) x.mask x.value ∷ ys)
set_of (y ∷ ys) (suc place) r x e same = ap (λ (list : List Row). y ∷ list) (set_of ys place r x e same)

take-set_row : (n : ℕ) (list : List Row) (place mask value : ℕ) → take n (set_row list place mask value) ≡ set_row (take n list) place mask value
take-set_row zero list place mask value = refl
take-set_row (suc n) [] place mask value = refl
take-set_row (suc n) (y ∷ ys) zero mask value = refl
take-set_row (suc n) (y ∷ ys) (suc place) mask value = ap (λ (list : List Row). y ∷ list) (take-set_row n ys place mask value)

length-set_row : (list : List Row) (place mask value : ℕ) → length (set_row list place mask value) ≡ length list
length-set_row [] place mask value = refl
length-set_row (y ∷ ys) zero mask value = refl
length-set_row (y ∷ ys) (suc place) mask value = ap suc (length-set_row ys place mask value)

got-set_row : (list : List Row) (place mask value i : ℕ) (x : Row) → slice_get (set_row list place mask value) i ≡ Some x → (r : Row) × (slice_get list i ≡ Some r) × (r.word ≡ x.word)
got-set_row [] place mask value i x e = absurd (cc)
got-set_row (y ∷ ys) zero mask value zero x e = (y, refl, ap (λ (r : Row). r.word) (same_Some (row y.word mask value) x e))
got-set_row (y ∷ ys) zero mask value (suc i) x e = (x, e, refl)
got-set_row (y ∷ ys) (suc place) mask value zero x e = (x, e, refl)
got-set_row (y ∷ ys) (suc place) mask value (suc i) x e = got-set_row ys place mask value i x e

-- a row that comes again, in its place
pub rows_again : (list : List Row) (n : ℕ) (r x : Row) → slice_get list n ≡ Some r → take (n + 1) (slice_set list n x) ≡ take n list ++ x ∷ []
rows_again list n r x e = take_more_set list n x (slice_get_within list n r e)

slice_get-take : (n : ℕ) (list : List Row) (i : ℕ) → i < n → slice_get (take n list) i ≡ slice_get list i
slice_get-take zero list i l = absurd (omega (arith, l))
slice_get-take (suc n) [] i l = refl
slice_get-take (suc n) (y ∷ ys) zero l = refl
slice_get-take (suc n) (y ∷ ys) (suc i) l = slice_get-take n ys i (omega (arith, l))

got_below : (n : ℕ) (list : List Row) (i : ℕ) (x : Row) → slice_get (take n list) i ≡ Some x → i < n
got_below n list i x e = (let within = slice_get_within (take n list) i x e in omega (arith, within, length-take n list))

got_cut : (n : ℕ) (list : List Row) (i : ℕ) (x : Row) → slice_get (take n list) i ≡ Some x → slice_get list i ≡ Some x
got_cut n list i x e = sym (slice_get-take n list i (got_below n list i x e)) ∙ e

-- ## The index

pub got_both : (index : Index) (at word place : ℕ) → slice_get (keys_of index) at ≡ Some word → slice_get (values_of index) at ≡ Some place → slice_get index at ≡ Some (word, place)
got_both [] at word place k v = absurd (cc)
got_both (x ∷ index) zero word place k v = ap Some (λ i. (same_Some x.0 word k i, same_Some x.1 place v i))
got_both (x ∷ index) (suc at) word place k v = got_both index at word place k v

distinct_tail : (x : ℕ × ℕ) (index : Index) → IsDistinct nat_eq (keys_of (x ∷ index)) → IsDistinct nat_eq (keys_of index)
unfolding IsDistinct
distinct_tail x index distinct = distinct.1

-- what it tells of the word that it has at a place of its own
pub told_at : (index : Index) (at word place : ℕ) → IsDistinct nat_eq (keys_of index) → slice_get (keys_of index) at ≡ Some word → slice_get (values_of index) at ≡ Some place → place_in index word ≡ Some place
told_at [] at word place distinct k v = absurd (cc)
told_at (x ∷ index) zero word place distinct k v =
    ap (λ (b : Bool). cond b (Some x.1) (place_in index word)) (ap (nat_eq word) (same_Some x.0 word k) ∙ eq-eqb word word refl) ∙ v
told_at (x ∷ index) (suc at) word place distinct k v =
    let apart = apart_from_distinct nat_eq (keys_of (x ∷ index)) 0 (suc at) 0 distinct (omega arith) (slice_get_within (keys_of (x ∷ index)) (suc at) word k) in
    let word_is : get_or (keys_of (x ∷ index)) (suc at) 0 ≡ word = get_or_from_slice_get (keys_of (x ∷ index)) (suc at) word 0 k in
    let other : nat_eq word x.0 ≡ false = ne_eqb word x.0 (λ s. eqb-false x.0 (get_or (keys_of (x ∷ index)) (suc at) 0) apart (sym s ∙ sym word_is)) in
    ap (λ (b : Bool). cond b (Some x.1) (place_in index word)) other ∙ told_at index at word place (distinct_tail x index distinct) k v

-- where a word is found it stands
pub found_at : (words : List ℕ) (word at : ℕ) → Some at ≡ position (nat_eq word) words → slice_get words at ≡ Some word
found_at words word at found =
    let is = position-Some (nat_eq word) words at 0 (sym found) in
    slice_get-get_or words at 0 is.0 ∙ ap Some (sym (eqb-true word (get_or words at 0) is.1))

pub found_here : (words : List ℕ) (word : ℕ) (o : Option ℕ) → o ≡ position (nat_eq word) words → IfSome o (λ at. slice_get words at ≡ Some word)
found_here words word None e = tt
found_here words word (Some at) e = found_at words word at e

-- of a word that it does not have it tells nothing
none_of : (index : Index) (word : ℕ) → position (nat_eq word) (keys_of index) ≡ None → place_in index word ≡ None
none_of index word none = (Missing-position (nat_eq word) index none).value

module _ (list : List Row) (len : ℕ) (index : Index) (told : ℕ) (is : AreHeld list len index told) where
  pub front : AreRows (take len list)
  front = AreRows-take len list is.are

  pub count : length (take len list) ≡ len
  count = length-take-le len list is.within

  -- the row behind the last one has a word that has no row
  pub none_behind : (r : Row) → slice_get list len ≡ Some r → lookup r.word (take len list) ≡ None
  none_behind r e = none_before list len r is.are.apart e

  -- a row that is written
  pub held-set : (place mask value : ℕ) (r : Row) → slice_get list place ≡ Some r → mask < 2 ^ 64 → value < 2 ^ 64
      → AreHeld (slice_set list place (row r.word mask value)) len index told × (take len (slice_set list place (row r.word mask value)) ≡ set_row (take len list) place mask value)
  held-set place mask value r e m v =
      let set : slice_set list place (row r.word mask value) ≡ set_row list place mask value = set_of list place r (row r.word mask value) e refl in (
        subst (λ (list : List Row). AreHeld list len index told) (sym set) (record {
          are = AreRows-set_row list place mask value m v is.are;
          within = omega (arith, is.within, length-set_row list place mask value);
          tells = λ i x l got. (let was = got-set_row list place mask value i x got in ap (place_in index) (sym was.2) ∙ is.tells i was.0 l was.1);
          many = is.many;
          distinct = is.distinct;
        }),
        ap (take len) set ∙ take-set_row len list place mask value,
      )

  -- a row that comes again
  pub held-again : (r x : Row) → slice_get list len ≡ Some r → r.word ≡ x.word → x.mask < 2 ^ 64 → x.value < 2 ^ 64 → (len < 8) ⊎ (len < told)
      → AreHeld (slice_set list len x) (len + 1) index told
  held-again r x e same m v may =
      let within = slice_get_within list len r e in
      let set : slice_set list len x ≡ set_row list len x.mask x.value = set_of list len r x e same in
      subst (λ (list : List Row). AreHeld list (len + 1) index told) (sym set) (record {
        are = AreRows-set_row list len x.mask x.value m v is.are;
        within = omega (arith, within, length-set_row list len x.mask x.value);
        tells = λ i y l got. (let was = got-set_row list len x.mask x.value i y got in ap (place_in index) (sym was.2) ∙ is.tells i was.0 l was.1);
        many = λ l. elim may [
          | inl few ↦ absurd (omega (arith, few, l))
          | inr known ↦ omega (arith, known)
        ];
        distinct = is.distinct;
      })

  joined : (x : Row) → length (take len list ++ x ∷ []) ≡ len + 1
  joined x = omega (arith, length_push (take len list) x, count)

  -- the list with one that may join: what the index tells of those before it is as it was
  pub held-behind : (x : Row) (n : ℕ) → lookup x.word (take len list) ≡ None → x.mask < 2 ^ 64 → x.value < 2 ^ 64 → n ≤ told → n ≤ len → (8 < len → len ≤ n)
      → AreHeld (take len list ++ x ∷ []) len index n
  held-behind x n none m v fewer below many = record {
    are = AreRows-push (take len list) x front none m v;
    within = omega (arith, joined x);
    tells = λ i y l got. elim (slice_get-push (take len list) x i y got) [
      | inl there ↦ is.tells i y (omega (arith, l, fewer)) (got_cut len list i y there)
      | inr last ↦ (let end = last.0 in absurd (omega (arith, end, l, below, count)))
    ];
    many = many;
    distinct = is.distinct;
  }

  -- a row that joins few
  pub held-push : (x : Row) → lookup x.word (take len list) ≡ None → x.mask < 2 ^ 64 → x.value < 2 ^ 64 → len < 8 → AreHeld (take len list ++ x ∷ []) (len + 1) index (min told len)
  held-push x none m v few =
      let b = held-behind x (min told len) none m v (omega arith) (omega arith) (λ l. absurd (omega (arith, few, l))) in
      record { are = b.are; within = omega (arith, joined x); tells = b.tells; many = λ l. absurd (omega (arith, few, l)); distinct = is.distinct }

  -- a row that joins, and whose place the index tells from now on
  pub held-put : (x : Row) (new : Index) → lookup x.word (take len list) ≡ None → x.mask < 2 ^ 64 → x.value < 2 ^ 64 → len ≤ told → Puts index new x.word len
      → AreHeld (take len list ++ x ∷ []) (len + 1) new (len + 1)
  held-put x new none m v all puts = record {
    are = AreRows-push (take len list) x front none m v;
    within = omega (arith, joined x);
    tells = λ i y l got. elim (slice_get-push (take len list) x i y got) [
      | inl there ↦
          (let other : nat_eq x.word y.word ≡ false = ne_eqb x.word y.word (λ s. eqb-false y.word x.word (other_at (take len list) x.word i y none there) (sym s)) in
          let below = got_below len list i y there in
          puts.others y.word other ∙ is.tells i y (omega (arith, below, all)) (got_cut len list i y there))
      | inr last ↦ ap (place_in new) (ap (λ (r : Row). r.word) (sym last.1)) ∙ (puts.here ∙ ap Some (sym count ∙ sym last.0))
    ];
    many = λ l. omega arith;
    distinct = puts.distinct;
  }

  -- the index tells the place of one row more
  pub held-next : (x : Row) (new : Index) → slice_get list told ≡ Some x → Puts index new x.word told → AreHeld list len new (told + 1)
  held-next x new here puts = record {
    are = is.are;
    within = is.within;
    tells = λ i y l got. elim (cases_Bool (i == told)) [
      | inl last ↦
          (let end : i ≡ told = eqb-true i told last in
          let same : y ≡ x = same_Some y x (sym got ∙ (ap (slice_get list) end ∙ here)) in
          ap (place_in new) (ap (λ (r : Row). r.word) same) ∙ (puts.here ∙ ap Some (sym end)))
      | inr before ↦
          (let apart : i ≡ told → ⊥ = eqb-false i told before in
          let below : i < told = grind (arith, l, apart) in
          let none = none_before list told x is.are.apart here in
          let other : nat_eq x.word y.word ≡ false = ne_eqb x.word y.word (λ s. eqb-false y.word x.word (other_at (take told list) x.word i y none (slice_get-take told list i below ∙ got)) (sym s)) in
          puts.others y.word other ∙ is.tells i y below got)
    ];
    many = λ l. (let many = is.many l in omega (arith, many));
    distinct = puts.distinct;
  }

  -- where the index tells a place at which the word's row stands, that is it
  pub first_at : (word place : ℕ) (r : Row) → place < len → slice_get list place ≡ Some r → r.word ≡ word → IsFirst (take len list) word place
  first_at word place r l e same = indexed (take len list) word place r front.apart (slice_get-take len list place l ∙ e) same

  -- a word has no row where there are more rows than few and the index tells another place, or none
  pub none_told : (word : ℕ) → 8 < len → ((place : ℕ) (r : Row) → place < len → slice_get list place ≡ Some r → r.word ≡ word → place_in index word ≡ Some place → ⊥) → lookup word (take len list) ≡ None
  none_told word many not = through (lookup word (take len list)) refl
    where
      through : (o : Option Row) → lookup word (take len list) ≡ o → lookup word (take len list) ≡ None
      through None e = e
      through (Some r) e =
          let found = place_of_found (take len list) word r e in
          let below = got_below len list found.0 r found.1 in
          let got = got_cut len list found.0 r found.1 in
          let all = is.many many in
          absurd (not found.0 r below got found.2 (ap (place_in index) (sym found.2) ∙ is.tells found.0 r (omega (arith, below, all)) got))

  -- a word that the index does not have has no row where there are more rows than few
  pub none_here : (word : ℕ) (o : Option ℕ) → o ≡ position (nat_eq word) (keys_of index) → IfNone o (8 < length (take len list) → lookup word (take len list) ≡ None)
  none_here word (Some at) e = tt
  none_here word None e = λ many. none_told word (omega (arith, many, count))
      (λ place r below got same told. (let none = none_of index word (sym e) in absurd (cc)))
