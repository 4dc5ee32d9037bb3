-- A transaction on the plain machine that has written nothing stands on the memory that it was opened on, and was never irrevocable.
use Rattle.std.proofs.Common.{◌≡◌, ◌⊎◌, inl, inr, ℕ, suc, ◌+◌, Bool, true, false, true≢false, ◌||◌, nat_lt, if◌then◌else◌, length, take, drop, List, [], ◌∷◌, ◌++◌, Option, None, Some, refl, sym, ap, subst, ◌∙◌, arith, append-nil, lt-ltb}
use Rattle.tx_history.proofs.Common.{Again, Block, Breaks, Call, IsKept, Props, Saved, State, after, after_kept, again_at, arena_set, back, back_from, breaks_of, closed, closed_in, closed_irrevocable, entered, entered_kept, is_open, later, made_irrevocable, nothing, opened, outside, pushed, rolled_back, state_through, take-append-drop, undone_from, written}
use Rattle.tx_history.proofs.SavedBlocks.{AllSaved, saved_closed, saved_logged, saved_none}
use Rattle.itm_types.specs.Slices.{with_slice}
use Rattle.itm_types.specs.declared.call.ActionKind.TheVariants as kinds

-- what a block goes back to, if nothing was written before it, is this memory
abbrev pub GoesBackTo : List ℕ → Option Saved → Type 0
GoesBackTo m None = Unit {0}
GoesBackTo m (Some saved) = saved.wrote ≡ false → saved.memory ≡ m

-- a block can not be rolled back
abbrev pub IsLast : Option Saved → Type 0
IsLast o = o ≡ None

-- it has written nothing and stands on this memory, or it has written; where it was irrevocable before, it is so until its outermost block ends, and has written for good
pub record StandsOn (m : List ℕ) (Was : Type 0) (s : State) : Type 0 where
  pub memory : s.wrote ≡ false → s.memory ≡ m
  pub back : AllSaved (GoesBackTo m) s.blocks
  pub lasts : (s.irrevocable ≡ true) ⊎ Was → (s.wrote ≡ true) × AllSaved IsLast s.blocks
  pub mode : Was → is_open s ≡ true → s.irrevocable ≡ true

-- ## Parts

-- what a block that opens goes back to, where it can
abbrev kept_of : State → Saved
kept_of s = record { memory = s.memory; wrote = s.wrote; commits = length s.actions.commits; undos = length s.actions.undos; kept = nothing s.arena }

nothing_written : (m : List ℕ) (place : ℕ) (bytes : List ℕ) → nat_lt 0 (length bytes) ≡ false → with_slice m place bytes ≡ m
nothing_written m place [] e = (let f : place + 0 ≡ place = omega arith in ap (λ (l : List ℕ). l ++ drop (place + 0) m) (append-nil (take place m)) ∙ (ap (λ (k : ℕ). take place m ++ drop k m) f ∙ take-append-drop place m))
nothing_written m place (b ∷ bs) e = absurd (true≢false (sym (lt-ltb 0 (length (b ∷ bs)) (omega arith)) ∙ e))

neither : (a b : Bool) → (a || b) ≡ false → (a ≡ false) × (b ≡ false)
neither true b e = absurd (cc)
neither false b e = (refl, e)

either_left : (a b : Bool) → a ≡ true → (a || b) ≡ true
either_left true b e = refl
either_left false b e = absurd (cc)

still_last : (saved : Saved) (bytes : List (Option ℕ)) → Some saved ≡ None → Some (record saved { kept = bytes }) ≡ None
still_last saved bytes e = absurd (cc)

-- a transaction that is irrevocable behind the end of a block was so before
was_irrevocable : (bs : List Block) (i : Bool) → closed_irrevocable bs i ≡ true → i ≡ true
was_irrevocable [] i e = e
was_irrevocable (b ∷ []) i e = absurd (cc)
was_irrevocable (b ∷ p ∷ bs) i e = e

-- and stays so while a block is open
stays_irrevocable : (bs : List Block) (i : Bool) → (nat_lt 0 (length bs) ≡ true → i ≡ true) → nat_lt 0 (length (closed_in bs)) ≡ true → closed_irrevocable bs i ≡ true
stays_irrevocable [] i mode o = mode o
stays_irrevocable (b ∷ []) i mode o = absurd (cc)
stays_irrevocable (b ∷ p ∷ bs) i mode o = mode (lt-ltb 0 (length (b ∷ p ∷ bs)) (omega arith))

rolled_mode : (s : State) (rest : List Block) (o : Option Saved) → (rolled_back s rest o).irrevocable ≡ s.irrevocable
rolled_mode s rest None = refl
rolled_mode s rest (Some saved) = refl

-- ## Calls

module _ (m : List ℕ) (Was : Type 0) where
  rolled : (s : State) (rest : List Block) (o : Option Saved) → StandsOn m Was s → GoesBackTo m o → AllSaved (GoesBackTo m) rest → ((s.irrevocable ≡ true) ⊎ Was → o ≡ None) → StandsOn m Was (rolled_back s rest o)
  rolled s rest None h g all none = h
  rolled s rest (Some saved) h g all none = record { memory = g; back = all; lasts = λ i. absurd (let n = none i in cc); mode = λ w. absurd (let n = none (inr w) in cc) }

  undone_so : (s : State) (bs : List Block) → StandsOn m Was s → AllSaved (GoesBackTo m) bs → ((s.irrevocable ≡ true) ⊎ Was → AllSaved IsLast bs) → StandsOn m Was (undone_from s bs)
  undone_so s [] h all lasts = h
  undone_so s (b ∷ bs) h all lasts =
      undone_so (rolled_back s bs b.saved) bs (rolled s bs b.saved h all.0 all.1 (λ i. (lasts i).0)) all.1
      (subst (λ (mode : Bool). (mode ≡ true) ⊎ Was → AllSaved IsLast bs) (sym (rolled_mode s bs b.saved)) (λ i. (lasts i).1))

  back_so : (s : State) (bs : List Block) → StandsOn m Was s → AllSaved (GoesBackTo m) bs → ((s.irrevocable ≡ true) ⊎ Was → AllSaved IsLast bs) → StandsOn m Was (back_from s bs)
  back_so s [] h all lasts = h
  back_so s (b ∷ bs) h all lasts = rolled s bs b.saved h all.0 all.1 (λ i. (lasts i).0)

  written_so : (s : State) (place : ℕ) (bytes : List ℕ) → StandsOn m Was s → StandsOn m Was (written s place bytes)
  written_so s place bytes h = record {
    memory = λ e. (let n = neither s.wrote (nat_lt 0 (length bytes)) e in nothing_written s.memory place bytes n.1 ∙ h.memory n.0);
    back = h.back;
    lasts = λ i. (let l = h.lasts i in (either_left s.wrote (nat_lt 0 (length bytes)) l.0, l.1));
    mode = h.mode;
  }

  made_so : (s : State) → StandsOn m Was (made_irrevocable s)
  made_so s = record { memory = λ e. absurd (cc); back = saved_none (GoesBackTo m) tt s.blocks; lasts = λ i. (refl, saved_none IsLast refl s.blocks); mode = λ w o. refl }

  pushed_so : (s : State) (props : Props) → (Was → is_open s ≡ true) → StandsOn m Was s → StandsOn m Was (pushed s props)
  pushed_so s props inside h = record {
    memory = h.memory;
    back = (either s.irrevocable, h.back);
    lasts = λ i. ((h.lasts i).0, (ap (λ (b : Bool). if b then None else Some (kept_of s)) (held i), (h.lasts i).1));
    mode = λ w e. h.mode w (inside w);
  }
    where
      either : (b : Bool) → GoesBackTo m (if b then None else Some (kept_of s))
      either true = tt
      either false = h.memory

      held : (s.irrevocable ≡ true) ⊎ Was → s.irrevocable ≡ true
      held (inl e) = e
      held (inr w) = h.mode w (inside w)

  entered_so : (s : State) (props : Props) → (Was → is_open s ≡ true) → StandsOn m Was s → StandsOn m Was (entered s props)
  entered_so s props inside h = entered_kept (StandsOn m Was) s props (pushed_so s props inside h) (made_so (pushed s props))

  closed_so : (s : State) → StandsOn m Was s → StandsOn m Was (closed s)
  closed_so s h = record {
    memory = h.memory;
    back = saved_closed (GoesBackTo m) (λ saved bytes g. g) s.blocks h.back;
    lasts = λ i. (let l = h.lasts (before i) in (l.0, saved_closed IsLast still_last s.blocks l.1));
    mode = λ w o. stays_irrevocable s.blocks s.irrevocable (h.mode w) o;
  }
    where
      before : (closed_irrevocable s.blocks s.irrevocable ≡ true) ⊎ Was → (s.irrevocable ≡ true) ⊎ Was
      before (inl e) = inl (was_irrevocable s.blocks s.irrevocable e)
      before (inr w) = inr w

  -- a call in an open transaction
  changed_so : (s : State) → is_open s ≡ true → StandsOn m Was s → IsKept (StandsOn m Was) s
  changed_so s o h = record {
    here = h;
    begins = λ props. subst (λ (b : Bool). StandsOn m Was (if b then entered s props else opened s.memory s.arena props)) (sym o) (entered_so s props (λ w. o) h);
    closes = closed_so s h;
    undoes = undone_so s s.blocks h h.back (λ i. (h.lasts i).1);
    backs = back_so s s.blocks h h.back (λ i. (h.lasts i).1);
    turns = made_so s;
    writes = λ at bytes fits. written_so s at bytes h;
    saves = λ at bytes fits. record { memory = h.memory; back = h.back; lasts = h.lasts; mode = h.mode };
    logs = λ place size. record {
      memory = h.memory;
      back = saved_logged (GoesBackTo m) (λ saved bytes g. g) s.blocks s.arena place size h.back;
      lasts = λ i. ((h.lasts i).0, saved_logged IsLast still_last s.blocks s.arena place size (h.lasts i).1);
      mode = λ w e. h.mode w o;
    };
    acts = λ kind action. record { memory = h.memory; back = h.back; lasts = h.lasts; mode = h.mode };
  }

-- ## Many calls

-- a block is open before each of these calls
abbrev pub AllInside : ℕ → Breaks → State → List Call → Type 0
AllInside deepest breaks s [] = Unit {0}
AllInside deepest breaks s (c ∷ cs) = (is_open s ≡ true) × AllInside deepest (later breaks) (breaks 1 (after deepest s c)) cs

-- it stays so where a run is broken off
abbrev pub Keeps : (State → Type 0) → Breaks → Type 0
Keeps S breaks = (n : ℕ) (s : State) → S s → S (breaks n s)

module _ (deepest : ℕ) (m : List ℕ) where
  pub stands_after : (Was : Type 0) (breaks : Breaks) → Keeps (StandsOn m Was) breaks → (s : State) (cs : List Call) → AllInside deepest breaks s cs → StandsOn m Was s → StandsOn m Was (state_through deepest breaks s cs)
  stands_after Was breaks kept s [] i h = h
  stands_after Was breaks kept s (c ∷ cs) i h =
      stands_after Was (later breaks) (λ n t g. kept (suc n) t g) (breaks 1 (after deepest s c)) cs i.1 (kept 1 (after deepest s c) (after_kept (StandsOn m Was) s (changed_so m Was s i.0 h) deepest c))

  -- as it begins
  pub stands_opened : (arena : List ℕ) (props : Props) → StandsOn m ⊥ (opened m arena props)
  stands_opened arena props = entered_so m ⊥ (outside m arena) props (λ w. absurd w) (record { memory = λ e. refl; back = tt; lasts = λ i. elim i [ inl e ↦ absurd (cc) | inr w ↦ absurd w ]; mode = λ w. absurd w })

-- once it is irrevocable
pub stands_held : (m : List ℕ) (s : State) → StandsOn m ⊥ s → s.irrevocable ≡ true → StandsOn m (Unit {0}) s
stands_held m s h i = record { memory = h.memory; back = h.back; lasts = λ w. h.lasts (inl i); mode = λ w o. i }

-- ## Blocks that run again

stands_set : (m : List ℕ) (Was : Type 0) (o : Option Again) (s : State) → StandsOn m Was s → StandsOn m Was (arena_set o s)
stands_set m Was None s h = h
stands_set m Was (Some a) s h = record { memory = h.memory; back = h.back; lasts = h.lasts; mode = h.mode }

-- a block that runs again from another arena leaves it so
pub stands_again : (m : List ℕ) (Was : Type 0) (rs : List Again) → Keeps (StandsOn m Was) (breaks_of rs)
stands_again m Was rs n s h = stands_set m Was (again_at rs n) s h
