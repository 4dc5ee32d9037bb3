-- The open blocks once nothing is written, logged or registered that they could go back to.
use Rattle.std.proofs.Common.{◌≡◌, ℕ, zero, suc, ◌<◌, ◌≤◌, List, [], ◌∷◌, ◌++◌, length, map, take, drop, reverse, refl, ap, sym, subst, ◌∙◌, arith, slice_index_or, slice_set}
use Rattle.nest_frames.proofs.Common.{ActionList, Actions, AreUnder, BeginEmpty, Frame, IsSound, Moment, Nest, Old, Undo, Written, append-nil, drop_all, forgotten, frame_at, frames_from, frames_of, length-map, made_irrevocable, map-append, refill, reverse-append, start, take-append-le, take_all, unwritten}

-- the first ones are forgotten, and now the next one
pub next_forgotten : {A : Type 0} (f : A → A) (xs : List A) (i : ℕ) (none : A) → i < length xs
    → slice_set (map f (take i xs) ++ drop i xs) i (f (slice_index_or (map f (take i xs) ++ drop i xs) i none)) ≡ map f (take (suc i) xs) ++ drop (suc i) xs
next_forgotten f [] i none h = absurd (omega (arith, h))
next_forgotten f (x ∷ xs) zero none h = refl
next_forgotten f (x ∷ xs) (suc i) none h = ap (λ t. f x ∷ t) (next_forgotten f xs i none (omega (arith, h)))

-- all of them are
pub all_forgotten : {A : Type 0} (f : A → A) (xs ys : List A) (i : ℕ) → length xs ≤ i → ys ≡ map f (take i xs) ++ drop i xs → refill (length xs) xs ys ≡ map f xs
all_forgotten f xs ys i h e =
    let is : ys ≡ map f xs = e ∙ (ap (λ t. map f t ++ drop i xs) (take_all i xs h) ∙ (ap (λ t. map f xs ++ t) (drop_all i xs h) ∙ append-nil (map f xs))) in
    ap (refill (length xs) xs) is
    ∙ (ap (λ n. take n (map f xs ++ drop (length (map f xs)) xs)) (sym (length-map xs f))
    ∙ (take-append-le (length (map f xs)) (map f xs) _ (omega arith) ∙ take_all (length (map f xs)) (map f xs) (omega arith)))

pub map_reverse : {A B : Type 0} (f : A → B) (xs : List A) → reverse (map f xs) ≡ map f (reverse xs)
map_reverse f [] = refl
map_reverse f (x ∷ xs) = reverse-append (f x ∷ []) (map f xs) ∙ (ap (λ t. t ++ f x ∷ []) (map_reverse f xs) ∙ (sym (map-append f (reverse xs) (x ∷ [])) ∙ ap (map f) (sym (reverse-append (x ∷ []) xs))))

frames_forgotten : (w : Written) (os : List Old) (ms : List Moment) → frames_from unwritten [] (map forgotten ms) ≡ map made_irrevocable (frames_from w os ms)
frames_forgotten w os [] = refl
frames_forgotten w os (m ∷ ms) = ap (λ t. made_irrevocable (frame_at m [] []) ∷ t) (frames_forgotten w (take m.log os) ms)

pub frames_of_forgotten : (w : Written) (os : List Old) (ms : List Moment) → frames_of unwritten [] (map forgotten ms) ≡ map made_irrevocable (frames_of w os ms)
frames_of_forgotten w os ms = ap (frames_from unwritten []) (map_reverse forgotten ms) ∙ frames_forgotten w os (reverse ms)

under_forgotten : (ms : List Moment) → AreUnder start 0 (map forgotten ms)
under_forgotten [] = tt
under_forgotten (m ∷ ms) = (refl, record { rows = omega arith; saves = omega arith }, omega arith, under_forgotten ms)

empty_forgotten : (a : Actions) (ms : List Moment) → (ms ≡ [] → (a.commits ≡ []) × (a.undos ≡ [])) → BeginEmpty unwritten [] a (map forgotten ms)
empty_forgotten a [] h = (refl, refl, (h refl).0, (h refl).1)
empty_forgotten a (m ∷ ms) h = (refl, refl, refl, refl)

pub sound_forgotten : (w : Written) (os : List Old) (a : Actions) (ms : List Moment) → IsSound w os a ms → IsSound unwritten [] (record a { undos = [] }) (map forgotten ms)
sound_forgotten w os a ms s = record {
  under = subst (AreUnder start 0) (sym (map_reverse forgotten ms)) (under_forgotten (reverse ms));
  empty = empty_forgotten (record a { undos = [] }) ms (λ e. ((subst (BeginEmpty w os a) e s.empty).2, refl));
}

-- the same of fields that are so
module _ (w w' : Written) (os : List Old) (u : Undo) (l l' : ActionList) (ms ms' : List Moment) (size depth depth' : ℕ)
    (written : w' ≡ unwritten) (logged : u ≡ record { size = size; olds = [] }) (registered : l' ≡ record l { actions = record l.actions { undos = [] } }) (moments : ms' ≡ map forgotten ms) (deep : depth' ≡ depth) where
  pub sound_so : IsSound w os l.actions ms → IsSound w' u.olds l'.actions ms'
  sound_so s =
      subst (λ (t : Written × Undo × ActionList × List Moment). IsSound t.0 t.1.olds t.2.actions t.3)
      (λ i. (sym written i, sym logged i, sym registered i, sym moments i)) (sound_forgotten w os l.actions ms s)

  abbrev nest_of : List Frame → Nest
  nest_of blocks = record { writes = unwritten; size = size; depth = depth; blocks = blocks; actions = record l.actions { undos = [] }; room = l.room }

  pub nest_so : ◌≡◌ {A = Nest} (record { writes = w'; size = u.size; depth = depth'; blocks = frames_of w' u.olds ms'; actions = l'.actions; room = l'.room })
      (record { writes = unwritten; size = size; depth = depth; blocks = map made_irrevocable (frames_of w os ms); actions = record l.actions { undos = [] }; room = l.room })
  nest_so = (λ i. record { writes = written i; size = (logged i).size; depth = deep i; blocks = frames_of (written i) ((logged i).olds) (moments i); actions = (registered i).actions; room = (registered i).room })
      ∙ ap (λ (bs : List Frame). nest_of bs) (frames_of_forgotten w os ms)
