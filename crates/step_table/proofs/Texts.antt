-- Texts that are written one after another.
use Rattle.std.proofs.Common.{◌≡◌, ℕ, ◌+◌, ◌-◌, ◌<◌, ◌≤◌, Bool, true, List, [], ◌∷◌, ◌++◌, length, take, drop, get_or, Option, Some, Result, refl, sym, ap, subst, ◌∙◌, arith, append-nil, append_assoc, drop-cons, add-one, decimal, flat_map, if◌then◌else◌, IsErr, Ok, Err}
use Rattle.step_table.proofs.Common.{Appends, Appends-nil, Appends-trans, Event, IsCut, Puts, View, back_text, blanks_beside, column_text, common_steps, cut_short, event_text, flat_map-append, front_text, length-append, line_of, number_text, shows, take-append-drop}
use Rattle.step_table.proofs.ShownRows.{puts_then}

-- ## Those of a list

module _ {A : Type 0} (text : A → List ℕ) where
  pub no_texts : (a : Option (List ℕ)) (xs : List A) → Appends a a (flat_map text (take 0 xs))
  no_texts a xs = Appends-nil a

  pub more_texts : (a b c : Option (List ℕ)) (xs : List A) (i : ℕ) (d : A) → i < length xs
      → Appends a b (flat_map text (take i xs)) → Appends b c (text (get_or xs i d)) → Appends a c (flat_map text (take (i + 1) xs))
  more_texts a b c xs i d h p q =
      let e : flat_map text (take (i + 1) xs) ≡ flat_map text (take i xs) ++ text (get_or xs i d) = grind (arith, common_steps) in
      subst (Appends a c) (sym e) (Appends-trans a b c _ _ p q)

  -- one that failed
  pub texts_stop : (a b c : Option (List ℕ)) (xs : List A) (i : ℕ) (d : A) → i < length xs
      → Appends a b (flat_map text (take i xs)) → IsCut b c (text (get_or xs i d)) → IsCut a c (flat_map text xs)
  texts_stop a b c xs i d h p q =
      let next : drop i xs ≡ get_or xs i d ∷ drop (i + 1) xs = rw add-one (drop-cons xs i d h) in
      let parts : flat_map text xs ≡ flat_map text (take i xs) ++ (text (get_or xs i d) ++ flat_map text (drop (i + 1) xs)) =
      ap (flat_map text) (sym (take-append-drop i xs)) ∙ flat_map-append text (take i xs) (drop i xs) ∙ ap (λ (l : List A). flat_map text (take i xs) ++ flat_map text l) next in
      cut_short a b c (flat_map text (take i xs)) (text (get_or xs i d)) (flat_map text (drop (i + 1) xs)) (flat_map text xs) p q parts

  pub all_texts : (a b : Option (List ℕ)) (xs : List A) (i : ℕ) → length xs ≤ i → Appends a b (flat_map text (take i xs)) → Appends a b (flat_map text xs)
  all_texts a b xs i h p = let past : take i xs ≡ xs = grind (arith, common_steps) in subst (λ (l : List A). Appends a b (flat_map text l)) past p

-- what they leave of a width
pub left_more : {A : Type 0} (text : A → List ℕ) (xs : List A) (i : ℕ) (d : A) (width left less : ℕ) → i < length xs → left ≡ width - length (flat_map text (take i xs)) → less ≡ left - length (text (get_or xs i d))
    → less ≡ width - length (flat_map text (take (i + 1) xs))
left_more text xs i d width left less h p q =
    let e : flat_map text (take (i + 1) xs) ≡ flat_map text (take i xs) ++ text (get_or xs i d) = grind (arith, common_steps) in
    omega (arith, p, q, ap (length {A = ℕ}) e, length-append (flat_map text (take i xs)) (text (get_or xs i d)))

pub left_whole : {A : Type 0} (text : A → List ℕ) (xs : List A) (i width left : ℕ) → length xs ≤ i → left ≡ width - length (flat_map text (take i xs)) → left ≡ width - length (flat_map text xs)
left_whole text xs i width left h p = (let past : take i xs ≡ xs = grind (arith, common_steps) in p ∙ ap (λ l. width - length (flat_map text l)) past)

-- ## Three of them

-- a write failed
pub puts_cut : {A E : Type 0} (u v : Option (List ℕ)) (r : Result A E) (x : List ℕ) → IsErr r → IsCut u v x → Puts u v r x
puts_cut u v (Ok y) x failed cut = absurd cc
puts_cut u v (Err e) x failed cut = cut

pub three_cut_first : (a b : Option (List ℕ)) (x y z : List ℕ) → IsCut a b x → IsCut a b (x ++ y ++ z)
three_cut_first a b x y z q = cut_short a a b [] x (y ++ z) (x ++ y ++ z) (Appends-nil a) q (append_assoc x y z)

pub three_cut_second : (a b c : Option (List ℕ)) (x y z : List ℕ) → Appends a b x → IsCut b c y → IsCut a c (x ++ y ++ z)
three_cut_second a b c x y z p q = cut_short a b c x y z (x ++ y ++ z) p q (append_assoc x y z)

pub three : {B F : Type 0} (a b c d : Option (List ℕ)) (x y z : List ℕ) (r : Result B F) → Appends a b x → Appends b c y → Puts c d r z → Puts a d r (x ++ y ++ z)
three a b c d x y z r p q s = puts_then a c d (x ++ y) z r (Appends-trans a b c x y p q) s

pub two_cut_first : (a b : Option (List ℕ)) (x y : List ℕ) → IsCut a b x → IsCut a b (x ++ y)
two_cut_first a b x y q = cut_short a a b [] x y (x ++ y) (Appends-nil a) q refl

-- ## A number with blanks before it

pub number_parts : (blanks : List ℕ) (n : ℕ) → blanks ≡ blanks_beside 5 (decimal n ++ []) → blanks ++ (decimal n ++ []) ≡ number_text n
unfolding number_text
number_parts blanks n e = ap (λ (l : List ℕ). l ++ (decimal n ++ [])) e ∙ ap (λ (l : List ℕ). blanks_beside 5 l ++ l) (append-nil (decimal n))

-- what came of an event, as its three parts
pub came_parts : (bar words ending : List ℕ) → (bar ++ []) ++ words ++ (ending ++ []) ≡ bar ++ words ++ ending
came_parts bar words ending = simp append-nil

-- ## The line of an event that is shown

pub line_shown : (view : View) (event : Event) (came : List ℕ) (threads : List ℕ) → shows view event ≡ true → threads ≡ view.columns.items
    → front_text event ++ flat_map (column_text (Some event)) threads ++ back_text event came ≡ line_of view event came
unfolding event_text
line_shown view event came threads shown e =
    ap (λ (l : List ℕ). front_text event ++ flat_map (column_text (Some event)) l ++ back_text event came) e
    ∙ sym (ap (λ (b : Bool). if b then event_text view.columns.items event came else []) shown)
