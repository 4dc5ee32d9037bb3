-- The open blocks, as calls change what they stand for.
use Rattle.std.proofs.Common.{◌≡◌, Bool, ℕ, suc, ◌+◌, ◌-◌, ◌<◌, ◌≤◌, List, [], ◌∷◌, ◌++◌, ◌||◌, length, map, take, drop, reverse, refl, ap, sym, subst, ◌∙◌, arith, length-append, Option, Some, get_or, option_map, slice_get}
use Rattle.std.proofs.lemmas.List.{take_all, take_more}
use Rattle.write_set.{proofs.OpenMarks.by_trans, specs.declared.mark.Mark.Mark}
use Rattle.nest_frames.proofs.Common.{Actions, AreUnder, BeginEmpty, Frame, IsBy, IsMark, IsSound, KeepsMarks, KeepsOuter, Moment, Nest, Old, Place, Props, Written, actions_closed, closed, drop-append-le, drop_all, found, frame_at, frames_from, frames_of, get_or-reverse, kept_of, length-reverse, length-take, length-take-le, list_any, log_of, logged, option_to_list, renewed, reverse-append, rows_at, take-append-drop, take-append-le, take-take, unwritten}
use Rattle.std.proofs.lemmas.List.Sorted.{list_any-IsPermutation, IsPermutation-reverse}
use Rattle.std.proofs.lemmas.Option.{slice_get-map, slice_get-get_or, slice_get_within, get_or_from_slice_get}
use Rattle.itm_types.specs.KeptBytes.{also_kept, merged}
use Rattle.undo_log.proofs.KeptBytes.{kept_of-append, kept_of-log}

pub length-frames_from : (w : Written) (os : List Old) (ms : List Moment) → length (frames_from w os ms) ≡ length ms
length-frames_from w os [] = refl
length-frames_from w os (m ∷ ms) = ap suc (length-frames_from w (take m.log os) ms)

pub length-frames_of : (w : Written) (os : List Old) (ms : List Moment) → length (frames_of w os ms) ≡ length ms
length-frames_of w os ms = length-frames_from w os (reverse ms) ∙ length-reverse ms

pub IsBy-refl : (a : Place) → IsBy a a
IsBy-refl a = record { rows = omega arith; saves = omega arith }

-- so many logs more
pub AreUnder-more : (p : Place) (n k : ℕ) (ms : List Moment) → n ≤ k → AreUnder p n ms → AreUnder p k ms
AreUnder-more p n k [] l u = tt
AreUnder-more p n k (m ∷ ms) l u = (u.0, u.1, omega (arith, l, u.2), u.3)

-- at the place where such a moment is
IsBy-here : {a b : Place} → a ≡ b → IsBy a b
IsBy-here {a} {b} e = subst (IsBy a) e (IsBy-refl a)

-- each block up to a place is the same where its rows are
frames_kept : (w w' : Written) (os : List Old) (top : Place) (n : ℕ) (ms : List Moment) → AreUnder top n ms → IsBy top w.inner
    → ((m : Mark) → IsMark w m → IsBy m.here top → rows_at w' m ≡ rows_at w m) → frames_from w' os ms ≡ frames_from w os ms
frames_kept w w' os top n [] u b f = refl
frames_kept w w' os top n (m ∷ ms) u b f =
    let here : IsBy m.rows.here top = IsBy-here u.0 in
    let is : IsMark w m.rows = record { here = by_trans here b; outer = u.1 } in
    let inner : IsBy m.rows.outer top = by_trans u.1 here in
    let rows = f m.rows is here in
    let rest = frames_kept w w' (take m.log os) m.rows.outer m.log ms u.3 (by_trans inner b) (λ k i h. f k i (by_trans h inner)) in
    (λ i. frame_at m (rows i) (drop m.log os) ∷ rest i)

-- the write set has changed and kept its marks
pub frames_written : (w w' : Written) (os : List Old) (a : Actions) (ms : List Moment) → IsSound w os a ms → KeepsMarks w w' → frames_of w' os ms ≡ frames_of w os ms
frames_written w w' os a ms s k = frames_kept w w' os w.inner (length os) (reverse ms) s.under (IsBy-refl w.inner) (λ m i h. (k m i).1)

-- and has its innermost mark, with as many logs or more
pub IsSound-kept : (w w' : Written) (os os' : List Old) (a : Actions) (ms : List Moment) → IsSound w os a ms → w'.inner ≡ w.inner → length os ≤ length os' → 0 < length ms → IsSound w' os' a ms
IsSound-kept w w' os os' a [] s e l h = absurd (omega (arith, h))
IsSound-kept w w' os os' a (m ∷ ms) s e l h = record {
  under = subst (λ (p : Place). AreUnder p (length os') (reverse (m ∷ ms))) (sym e) (AreUnder-more w.inner (length os) (length os') (reverse (m ∷ ms)) l s.under);
  empty = s.empty;
}

pub nest_written : (w w' v : Written) (os : List Old) (size depth room : ℕ) (a : Actions) (ms : List Moment) → IsSound w os a ms → KeepsMarks w w' → w' ≡ v
    → ◌≡◌ {A = Nest} (record { writes = w'; size = size; depth = depth; blocks = frames_of w' os ms; actions = a; room = room }) (record { writes = v; size = size; depth = depth; blocks = frames_of w os ms; actions = a; room = room })
nest_written w w' v os size depth room a ms s k e = (λ i. record { writes = e i; size = size; depth = depth; blocks = frames_written w w' os a ms s k i; actions = a; room = room })

-- these were logged
logged_from : (w : Written) (os new : List Old) (top : Place) (ms : List Moment) → AreUnder top (length os) ms → frames_from w (os ++ new) ms ≡ logged (frames_from w os ms) new
logged_from w os new top [] u = refl
logged_from w os new top (m ∷ ms) u =
    let own = drop-append-le m.log os new u.2 in
    let outer = take-append-le m.log os new u.2 in
    (λ i. frame_at m (rows_at w m.rows) (own i) ∷ frames_from w (outer i) ms)

pub frames_logged : (w : Written) (os new : List Old) (a : Actions) (ms : List Moment) → IsSound w os a ms → frames_of w (os ++ new) ms ≡ logged (frames_of w os ms) new
frames_logged w os new a ms s = logged_from w os new w.inner (reverse ms) s.under

-- what the innermost block then keeps
pub kept_of-logged : (arena : List ℕ) (bs : List Frame) (place size : ℕ) → 0 < length bs → place + size ≤ length arena
    → kept_of arena (log_of (logged bs (found arena place size))) ≡ also_kept (kept_of arena (log_of bs)) arena place size
kept_of-logged arena [] place size h r = absurd (omega (arith, h))
kept_of-logged arena (b ∷ bs) place size h r = kept_of-log arena b.log 0 place size (omega arith) r

-- the innermost moment is taken off
pub record HasInnermost (w : Written) (os : List Old) (a : Actions) (all ms : List Moment) (m : Moment) : Type 0 where
  pub here : m.rows.here ≡ w.inner
  pub is_mark : IsMark w m.rows
  pub log : m.log ≤ length os
  pub rest : AreUnder m.rows.outer m.log (reverse ms)
  pub whole : all ≡ ms ++ m ∷ []
  pub count : length all ≡ length ms + 1
  pub frames : frames_of w os all ≡ frame_at m (rows_at w m.rows) (drop m.log os) ∷ frames_of w (take m.log os) ms
  pub empty : BeginEmpty w os a (ms ++ m ∷ [])

frames_last : (w : Written) (os : List Old) (ms : List Moment) (m : Moment) → frames_of w os (ms ++ m ∷ []) ≡ frame_at m (rows_at w m.rows) (drop m.log os) ∷ frames_of w (take m.log os) ms
frames_last w os ms m = ap (frames_from w os) (reverse-append ms (m ∷ []))

has_innermost : (w : Written) (os : List Old) (a : Actions) (ms : List Moment) (m : Moment) → IsSound w os a (ms ++ m ∷ []) → HasInnermost w os a (ms ++ m ∷ []) ms m
has_innermost w os a ms m s =
    let u : AreUnder w.inner (length os) (m ∷ reverse ms) = subst (AreUnder w.inner (length os)) (reverse-append ms (m ∷ [])) s.under in
    record {
      here = u.0;
      is_mark = record { here = IsBy-here u.0; outer = u.1 };
      log = u.2;
      rest = u.3;
      whole = refl;
      count = length-append ms (m ∷ []);
      frames = frames_last w os ms m;
      empty = s.empty;
    }

pub moment_popped : (w : Written) (os : List Old) (a : Actions) (all ms : List Moment) (r : Option Moment) (m : Moment) → IsSound w os a all
    → all ≡ ms ++ option_to_list r → r ≡ Some m → HasInnermost w os a all ms m
moment_popped w os a all ms r m s e f =
    let whole : all ≡ ms ++ m ∷ [] = e ∙ ap (λ t. ms ++ option_to_list t) f in
    subst (λ (t : List Moment). HasInnermost w os a t ms m) (sym whole) (has_innermost w os a ms m (subst (IsSound w os a) whole s))

-- the moments around the innermost one
around : (all : List Moment) (m : Moment) → slice_get all (length all - 1) ≡ Some m → (ms : List Moment) × (all ≡ ms ++ m ∷ [])
around all m h =
    let n = length all - 1 in
    let within = slice_get_within all n m h in
    (take n all, sym (take_all (n + 1) all (omega arith)) ∙ (take_more all n m within ∙ ap (λ (x : Moment). take n all ++ x ∷ []) (get_or_from_slice_get all n m m h)))

pub moment_last : (w : Written) (os : List Old) (a : Actions) (all seen : List Moment) (m : Moment) → IsSound w os a all → seen ≡ all → Some m ≡ slice_get seen (length seen - 1)
    → (ms : List Moment) × HasInnermost w os a all ms m
moment_last w os a all seen m s e f =
    let last : slice_get all (length all - 1) ≡ Some m = sym (ap (λ (t : List Moment). slice_get t (length t - 1)) e) ∙ sym f in
    let front = around all m last in
    (front.0, subst (λ (t : List Moment). HasInnermost w os a t front.0 m) (sym front.1) (has_innermost w os a front.0 m (subst (IsSound w os a) front.1 s)))

-- the blocks around the innermost one, where the write set has kept the marks around its own
frames_outer : (w w' : Written) (os us : List Old) (a : Actions) (all ms : List Moment) (m : Moment) → HasInnermost w os a all ms m → KeepsOuter m.rows w w' → frames_of w' us ms ≡ frames_of w us ms
frames_outer w w' os us a all ms m h k =
    let inner : IsBy m.rows.outer w.inner = by_trans h.is_mark.outer h.is_mark.here in
    frames_kept w w' us m.rows.outer m.log (reverse ms) h.rest inner (λ n i b. (k n i b).1)

-- the innermost block is gone
pub frames_cancelled : (w w' : Written) (os : List Old) (a : Actions) (all ms : List Moment) (m : Moment) → HasInnermost w os a all ms m → KeepsOuter m.rows w w'
    → frames_of w' (take m.log os) ms ≡ drop 1 (frames_of w os all)
frames_cancelled w w' os a all ms m h k = frames_outer w w' os (take m.log os) a all ms m h k ∙ sym (ap (drop 1) h.frames)

-- the innermost block is back at its begin
module _ (w w' : Written) (os : List Old) (a : Actions) (all ms : List Moment) (m : Moment) (h : HasInnermost w os a all ms m) where
  pub frames_renewed : KeepsOuter m.rows w w' → rows_at w' m.rows ≡ rows_at w m.rows → frames_of w' (take m.log os) all ≡ renewed (frames_of w os all)
  frames_renewed k same =
      let us = take m.log os in
      let log : drop m.log us ≡ [] = drop_all m.log us (omega (arith, length-take m.log os)) in
      let rest : frames_of w' (take m.log us) ms ≡ frames_of w us ms =
      ap (λ t. frames_of w' t ms) (take-take m.log m.log os (omega arith)) ∙ frames_outer w w' os us a all ms m h k in
      ap (frames_of w' us) h.whole
      ∙ (frames_last w' us ms m
      ∙ ((λ i. frame_at m (same i) (log i) ∷ rest i) ∙ sym (ap renewed h.frames)))

  pub IsSound-renewed : (b : Actions) → w'.inner ≡ m.rows.here → IsSound w' (take m.log os) b all
  IsSound-renewed b e =
      let len : length (take m.log os) ≡ m.log = length-take-le m.log os h.log in
      let under : AreUnder w'.inner (length (take m.log os)) (m ∷ reverse ms) = (sym e, h.is_mark.outer, omega (arith, len), h.rest) in
      record {
        under = subst (λ (t : List Moment). AreUnder w'.inner (length (take m.log os)) (reverse t)) (sym h.whole)
            (subst (AreUnder w'.inner (length (take m.log os))) (sym (reverse-append ms (m ∷ []))) under);
        empty = subst (BeginEmpty w' (take m.log os) b) (sym h.whole) (empty-whole ms h.empty);
      }
    where
      empty-whole : (ns : List Moment) → BeginEmpty w os a (ns ++ m ∷ []) → BeginEmpty w' (take m.log os) b (ns ++ m ∷ [])
      empty-whole [] t = t
      empty-whole (n ∷ ns) t = t

closed_from : (w : Written) (os : List Old) (b : Frame) (n : ℕ) (top : Place) (ms : List Moment) → n ≤ length os → AreUnder top n ms → b.log ≡ drop n os
    → frames_from w os ms ≡ closed (b ∷ frames_from w (take n os) ms)
closed_from w os b n top [] l u e = refl
closed_from w os b n top (m ∷ ms) l u e =
    let own : drop m.log os ≡ drop m.log (take n os) ++ drop n os =
    ap (drop m.log) (sym (take-append-drop n os)) ∙ drop-append-le m.log (take n os) (drop n os) (omega (arith, u.2, length-take-le n os l)) in
    let log : drop m.log os ≡ drop m.log (take n os) ++ b.log = own ∙ ap (λ t. drop m.log (take n os) ++ t) (sym e) in
    let outer : take m.log os ≡ take m.log (take n os) = sym (take-take m.log n os u.2) in
    (λ i. frame_at m (rows_at w m.rows) (log i) ∷ frames_from w (outer i) ms)

-- the innermost block has closed
pub frames_closed : (w w' : Written) (os : List Old) (a : Actions) (all ms : List Moment) (m : Moment) → HasInnermost w os a all ms m → KeepsOuter m.rows w w'
    → frames_of w' os ms ≡ closed (frames_of w os all)
frames_closed w w' os a all ms m h k =
    let b : Frame = frame_at m (rows_at w m.rows) (drop m.log os) in
    frames_outer w w' os os a all ms m h k
    ∙ (closed_from w os b m.log m.rows.outer (reverse ms) h.log h.rest refl ∙ sym (ap closed h.frames))

empty-front : (w w' : Written) (os : List Old) (a : Actions) (ms ns : List Moment) → 0 < length ms → BeginEmpty w os a (ms ++ ns) → BeginEmpty w' os a ms
empty-front w w' os a [] ns h e = absurd (omega (arith, h))
empty-front w w' os a (m ∷ ms) ns h e = e

pub IsSound-closed : (w w' : Written) (os : List Old) (a : Actions) (all ms : List Moment) (m : Moment) → HasInnermost w os a all ms m → w'.inner ≡ m.rows.outer → 0 < length ms → IsSound w' os a ms
IsSound-closed w w' os a all ms m h e l = record {
  under = subst (λ (p : Place). AreUnder p (length os) (reverse ms)) (sym e) (AreUnder-more m.rows.outer m.log (length os) (reverse ms) h.log h.rest);
  empty = empty-front w w' os a ms (m ∷ []) l h.empty;
}

-- what the block around the innermost one then keeps
pub kept_of-closed : (arena : List ℕ) (bs : List Frame) → 1 < length bs → kept_of arena (log_of (closed bs)) ≡ merged (kept_of arena (log_of (drop 1 bs))) (kept_of arena (log_of bs))
kept_of-closed arena (b ∷ p ∷ bs) h = kept_of-append arena p.log b.log
kept_of-closed arena bs h = absurd (omega (arith, h))

-- no block is open
pub no_frames : (w : Written) (os : List Old) (a : Actions) (ms : List Moment) → IsSound w os a ms → frames_of w os ms ≡ []
    → (w ≡ unwritten) × (a.commits ≡ []) × (a.undos ≡ [])
no_frames w os a [] s e = (s.empty.0, s.empty.2, s.empty.3)
no_frames w os a (m ∷ ms) s e =
    let none : length (m ∷ ms) ≡ 0 = sym (length-frames_of w os (m ∷ ms)) ∙ ap (length {A = Frame}) e in
    absurd (omega (arith, none))

-- the block that has closed was not the outermost one
pub actions_inner : (bs : List Frame) (a : Actions) → 1 < length bs → actions_closed bs a ≡ a
actions_inner (b ∷ p ∷ bs) a h = refl
actions_inner bs a h = absurd (omega (arith, h))

-- ## Properties

props_from : (w : Written) (os : List Old) (ms : List Moment) → map (λ (f : Frame). f.props) (frames_from w os ms) ≡ map (λ (m : Moment). m.props) ms
props_from w os [] = refl
props_from w os (m ∷ ms) = ap (λ t. m.props ∷ t) (props_from w (take m.log os) ms)

pub props_at : (w : Written) (os : List Old) (ms : List Moment) (place : ℕ) (m : Moment) → place < length ms
    → slice_get (map (λ (f : Frame). f.props) (frames_of w os ms)) place ≡ Some (get_or ms (length ms - 1 - place) m).props
props_at w os ms place m h =
    let there : slice_get (reverse ms) place ≡ Some (get_or ms (length ms - 1 - place) m) =
    slice_get-get_or (reverse ms) place m (omega (arith, h, length-reverse ms)) ∙ ap (λ t. Some t) (get_or-reverse ms place m h) in
    ap (λ t. slice_get t place) (props_from w os (reverse ms))
    ∙ (slice_get-map (λ (k : Moment). k.props) (reverse ms) place ∙ ap (option_map (λ (k : Moment). k.props)) there)

-- whether one of the blocks has a property, by their moments
module _ (has : Props → Bool) where
  any_from : (w : Written) (os : List Old) (ms : List Moment) → list_any (λ (m : Moment). has m.props) ms ≡ list_any (λ (f : Frame). has f.props) (frames_from w os ms)
  any_from w os [] = refl
  any_from w os (m ∷ ms) = ap (λ t. has m.props || t) (any_from w (take m.log os) ms)

  pub any_of : (w : Written) (os : List Old) (ms : List Moment) → list_any (λ (m : Moment). has m.props) ms ≡ list_any (λ (f : Frame). has f.props) (frames_of w os ms)
  any_of w os ms = list_any-IsPermutation (λ (m : Moment). has m.props) ms (reverse ms) (IsPermutation-reverse ms) ∙ any_from w os (reverse ms)
