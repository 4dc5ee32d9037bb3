-- What a writer has of the lines of events, one after another.
use Rattle.std.proofs.Common.{◌≡◌, inl, inr, ℕ, ◌+◌, ◌≤◌, List, [], ◌∷◌, ◌++◌, length, take, Option, Result, Ok, Err, refl, sym, ap, subst, ◌∙◌, append-nil, append_assoc, arith}
use Rattle.step_table.proofs.Common.{Appends, Appends-kept, Appends-trans, IsCut, Keeps, Puts, Row, View, World, came_of, flat_map-append, head_text, length-append, line_of, line_text, lines_text, table_text}
use Rattle.std.proofs.Math.Seq.{take-append-add, take-length}
use Rattle.step_table.specs.Shown.{Shows, StopsAt}

module _ (view : View) where
  lines_both : (xs ys : List Row) → lines_text view (xs ++ ys) ≡ lines_text view xs ++ lines_text view ys
  lines_both xs ys = flat_map-append (line_text view) xs ys

  got_both : (u v w : Option (List ℕ)) (xs ys : List Row) → Appends u v (lines_text view xs) → Appends v w (lines_text view ys) → Appends u w (lines_text view (xs ++ ys))
  got_both u v w xs ys p q = subst (Appends u w) (sym (lines_both xs ys)) (Appends-trans u v w _ _ p q)

  -- a beginning of the lines of the later ones
  got_cut : (u v w : Option (List ℕ)) (xs ys : List Row) (n : ℕ) → Appends u v (lines_text view xs) → Appends v w (take n (lines_text view ys)) → Appends u w (take (length (lines_text view xs) + n) (lines_text view (xs ++ ys)))
  got_cut u v w xs ys n p q =
      let front : take (length (lines_text view xs) + n) (lines_text view (xs ++ ys)) ≡ lines_text view xs ++ take n (lines_text view ys) =
      ap (take (length (lines_text view xs) + n)) (lines_both xs ys) ∙ take-append-add (lines_text view xs) (lines_text view ys) n in
      subst (Appends u w) (sym front) (Appends-trans u v w _ _ p q)

-- ## Where the events stop

-- a list is empty, or has a last one
one_more : (row : Row) (rows : List Row) → StopsAt (λ front. []) rows 0 → StopsAt (λ front. []) (row ∷ rows) 0
one_more row rows (inl none) = inr ([], row, ap (λ (l : List Row). row ∷ l) none, omega arith)
one_more row rows (inr (front, last, is, low)) = inr (row ∷ front, last, ap (λ (l : List Row). row ∷ l) is, omega arith)

last_of : (rows : List Row) → StopsAt (λ front. []) rows 0
last_of [] = inl refl
last_of (row ∷ rows) = one_more row rows (last_of rows)

module _ (view : View) where
  lines_front : (front : List Row) (last : Row) → length (lines_text view front) ≤ length (lines_text view (front ++ last ∷ []))
  lines_front front last =
      let both = ap (λ (l : List ℕ). length l) (lines_both view front (last ∷ [])) ∙ length-append (lines_text view front) (lines_text view (last ∷ [])) in omega (arith, both)

  stops_so : (rows : List Row) (n : ℕ) → length (lines_text view rows) ≤ n → StopsAt (λ front. []) rows 0 → StopsAt (lines_text view) rows n
  stops_so rows n le (inl none) = inl none
  stops_so rows n le (inr (front, last, is, low)) =
      let most = lines_front front last in let all = ap (λ (l : List Row). length (lines_text view l)) is in inr (front, last, is, omega (arith, le, most, all))

  -- with all their lines they stop there, and with more yet
  stops_whole : (rows : List Row) (n : ℕ) → length (lines_text view rows) ≤ n → StopsAt (lines_text view) rows n
  stops_whole rows n le = stops_so rows n le (last_of rows)

  -- later ones stop where they did, behind the lines of those before them
  stops_later : (xs ys : List Row) (n : ℕ) → StopsAt (lines_text view) ys n → StopsAt (lines_text view) (xs ++ ys) (length (lines_text view xs) + n)
  stops_later xs ys n (inl none) =
      let all : xs ++ ys ≡ xs = ap (λ (l : List Row). xs ++ l) none ∙ append-nil xs in
      subst (λ (l : List Row). StopsAt (lines_text view) l (length (lines_text view xs) + n)) (sym all) (stops_whole xs (length (lines_text view xs) + n) (omega arith))
  stops_later xs ys n (inr (front, last, is, le)) =
      let both = ap (λ (l : List ℕ). length l) (lines_both view xs front) ∙ length-append (lines_text view xs) (lines_text view front) in
      inr (xs ++ front, last, ap (λ (l : List Row). xs ++ l) is ∙ sym (append_assoc xs front (last ∷ [])), omega (arith, both, le))

  -- the head stands before the lines
  stops_headed : (rows : List Row) (n : ℕ) → StopsAt (lines_text view) rows n → StopsAt (table_text view) rows (length (head_text view) + n)
  stops_headed rows n (inl none) = inl none
  stops_headed rows n (inr (front, last, is, le)) =
      let both = length-append (head_text view) (lines_text view front) in inr (front, last, is, omega (arith, both, le))

  -- with its whole text a table stops
  pub stops_table : (rows : List Row) → StopsAt (table_text view) rows (length (table_text view rows))
  stops_table rows =
      subst (StopsAt (table_text view) rows) (sym (length-append (head_text view) (lines_text view rows)))
      (stops_headed rows (length (lines_text view rows)) (stops_whole rows (length (lines_text view rows)) (omega arith)))

-- ## Events and their lines

-- the lines of events that lead from the one world to the other are written
abbrev pub Written : {P : Type 0} → View → (World P → List Row → World P → Type 0) → World P → World P → Option (List ℕ) → Option (List ℕ) → Type 0
Written view R a b u v = (rows : List Row) × R a rows b × Appends u v (lines_text view rows)

-- a beginning of them is, and no event was taken beyond it
abbrev pub Begun : {P : Type 0} → View → (World P → List Row → World P → Type 0) → World P → World P → Option (List ℕ) → Option (List ℕ) → Type 0
Begun view R a b u v = (rows : List Row) × (n : ℕ) × R a rows b × StopsAt (lines_text view) rows n × Appends u v (take n (lines_text view rows))

module _ {P : Type 0} (view : View) (R S T : World P → List Row → World P → Type 0) (a b c : World P) (u v w : Option (List ℕ)) where
  -- some events, and then some more
  pub written_on : ((xs ys : List Row) → R a xs b → S b ys c → T a (xs ++ ys) c) → Written view R a b u v → Written view S b c v w → Written view T a c u w
  written_on join (xs, r, p) (ys, s, q) = (xs ++ ys, join xs ys r s, got_both view u v w xs ys p q)

  -- a write failed within those
  pub written_begun : ((xs ys : List Row) → R a xs b → S b ys c → T a (xs ++ ys) c) → Written view R a b u v → Begun view S b c v w → Begun view T a c u w
  written_begun join (xs, r, p) (ys, n, s, stops, q) = (xs ++ ys, length (lines_text view xs) + n, join xs ys r s, stops_later view xs ys n stops, got_cut view u v w xs ys n p q)

module _ {P : Type 0} (view : View) (R : World P → List Row → World P → Type 0) (a b : World P) (row : Row) (u v : Option (List ℕ)) (all : R a (row ∷ []) b) where
  -- the line of one event, of which this came
  pub written_one : (came : List ℕ) → came ≡ came_of row → Appends u v (line_of view row.event came) → Written view R a b u v
  written_one came is p = (row ∷ [], all, subst (Appends u v) (ap (line_of view row.event) is ∙ sym (append-nil (line_text view row))) p)

  -- a part of it
  pub begun_one : (came : List ℕ) → came ≡ came_of row → IsCut u v (line_of view row.event came) → Begun view R a b u v
  begun_one came is (n, h, p) = (row ∷ [], n, all, inr ([], row, refl, omega arith), subst (λ (l : List ℕ). Appends u v (take n l)) (ap (line_of view row.event) is ∙ sym (append-nil (line_text view row))) p)

-- ## The head

module _ {P : Type 0} (view : View) (R R' : World P → List Row → World P → Type 0) (a b : World P) (u v w : Option (List ℕ)) where
  -- the lines stand behind the head
  pub shows_table : {A E : Type 0} (r : Result A E) → Appends u v (head_text view) → Shows R R' (lines_text view) a b v w r → Shows R R' (table_text view) a b u w r
  shows_table (Ok x) p (rows, all, q) = (rows, all, Appends-trans u v w _ _ p q)
  shows_table (Err e) p (rows, n, first, stops, q) =
      (rows, length (head_text view) + n, first, stops_headed view rows n stops, subst (Appends u w) (sym (take-append-add (head_text view) (lines_text view rows) n)) (Appends-trans u v w _ _ p q))

-- a part of the head
pub begun_head : {P : Type 0} (view : View) (R : World P → List Row → World P → Type 0) (a : World P) (u v : Option (List ℕ)) → R a [] a → IsCut u v (head_text view)
    → (rows : List Row) × (n : ℕ) × R a rows a × StopsAt (table_text view) rows n × Appends u v (take n (table_text view rows))
begun_head view R a u v first (n, h, p) = ([], n, first, inl refl, subst (λ (l : List ℕ). Appends u v (take n l)) (sym (append-nil (head_text view))) p)

-- ## Texts one after another

pub puts_then : {B F : Type 0} (u v w : Option (List ℕ)) (x y : List ℕ) (r : Result B F) → Appends u v x → Puts v w r y → Puts u w r (x ++ y)
puts_then u v w x y (Ok z) p q = Appends-trans u v w x y p q
puts_then u v w x y (Err e) p (n, h, q) =
    (length x + n, omega (arith, h, length-append x y), subst (Appends u w) (sym (take-append-add x y n)) (Appends-trans u v w _ _ p q))

-- the handing on of a whole table
pub shows_flushed : {P A B E : Type 0} (R R' : World P → List Row → World P → Type 0) (view : View) (a b : World P) (u v w : Option (List ℕ)) (x : B) (r : Result A E)
    → ((rows : List Row) → R a rows b → R' a rows b) → Shows {A = B} {E = E} R R' (table_text view) a b u v (Ok x) → Keeps v w → Shows R R' (table_text view) a b u w r
shows_flushed R R' view a b u v w x (Ok y) whole (rows, all, p) k = (rows, all, Appends-kept u v w (table_text view rows) p k)
shows_flushed R R' view a b u v w x (Err e) whole (rows, all, p) k =
    (rows, length (table_text view rows), whole rows all, stops_table view rows, subst (Appends u w) (sym (take-length (table_text view rows))) (Appends-kept u v w (table_text view rows) p k))
