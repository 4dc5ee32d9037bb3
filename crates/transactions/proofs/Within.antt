-- What a call leaves of the open blocks.
use Rattle.std.proofs.Common.{◌≡◌, ◌∙◌, ◌⊎◌, inl, inr, ℕ, Bool, true, false, List, [], ◌∷◌, ◌++◌, length, map, take, drop, reverse, Option, None, Some, ap, refl, subst, sym, true≢false, append_assoc, append-nil, arith, if◌then◌else◌}
use Rattle.transactions.proofs.Common.{Action, Actions, Answer, Call, CameToRun, Commit, CommitAction, Core, Done, Frame, GoesOver, IsAnswered, IsFresh, IsWithin, IsWithinStill, Lent, LogRow, NoCommit, Old, Ran, Read, ReadsOn, Replied, Reply, Standing, StartsWith, Tells, UndoAction, Words, Write, actions_after, actions_cancelled, arena_after, as_undo, blocks_after, cells_of, in_transaction, irrevocable_room, is_inside, log_of, put_back, reads_of, registered, renewed, start_of, view_of}
use Rattle.std.proofs.lemmas.List.{map-append, take-append-le, take_all}
use Rattle.itm_types.specs.declared.call.ActionKind.TheVariants as kinds
use Rattle.norec_core.specs.declared.answer.Answer.TheVariants as answers
use Rattle.norec_core.specs.Restarts.{Restarts}
use Rattle.transactions.proofs.LastEngines.{IsLast, arena_left, last, last_of, mid, replied}

-- ## Lists

pub begins : {A : Type 0} (xs : List A) → StartsWith xs xs
begins xs = ([], sym (append-nil xs))

pub begins_more : {A : Type 0} (xs ys zs us : List A) → StartsWith xs ys → ys ≡ zs → StartsWith zs us → StartsWith xs us
begins_more xs ys zs us a e b = (b.0 ++ a.0, a.1 ∙ ap (λ l. l ++ a.0) (e ∙ b.1) ∙ append_assoc us b.0 a.0)

front : {A : Type 0} (xs ys : List A) → take (length xs) (xs ++ ys) ≡ xs
front xs ys = take-append-le (length xs) xs ys (omega arith) ∙ take_all (length xs) xs (omega arith)

pub cut : {A : Type 0} (n : ℕ) (xs ys : List A) → n ≡ length ys → StartsWith xs ys → take n xs ≡ ys
cut n xs ys e s = ap (λ k. take k xs) e ∙ ap (take (length ys)) s.1 ∙ front ys s.0

-- ## Undo actions that came to run

pub ran_none : (xs ys : List Ran) → ys ≡ xs → CameToRun xs [] ys
ran_none xs ys e = e ∙ sym (append-nil xs)

pub ran_more : (xs ys zs : List Ran) (gone more : List Action) → CameToRun xs gone ys → CameToRun ys more zs → CameToRun xs (gone ++ more) zs
ran_more xs ys zs gone more a b = b ∙ ap (λ l. l ++ map as_undo more) a ∙ append_assoc xs (map as_undo gone) (map as_undo more) ∙ ap (λ l. xs ++ l) (sym (map-append as_undo gone more))

abbrev pub RanMore : List Ran → List Ran → Type 0
RanMore old new = (gone : List Action) × CameToRun old gone new

pub ran_same : (xs ys : List Ran) → ys ≡ xs → RanMore xs ys
ran_same xs ys e = ([], ran_none xs ys e)

pub ran_twice : (xs ys zs : List Ran) → RanMore xs ys → RanMore ys zs → RanMore xs zs
ran_twice xs ys zs a b = (a.0 ++ b.0, ran_more xs ys zs a.0 b.0 a.1 b.1)

-- ## What was read is read still

pub on_self : (c : Core) → ReadsOn c c
on_self c = record { words = refl; depth = refl; mode = refl; log = begins _ }

pub on_twice : (a b c : Core) → ReadsOn a b → ReadsOn b c → ReadsOn a c
on_twice a b c f g = record { words = g.words ∙ f.words; depth = g.depth ∙ f.depth; mode = g.mode ∙ f.mode; log = begins_more _ _ _ _ g.log refl f.log }

module _ (words : Words) (t new : Standing) (call : Call) (again : Bool) (r : Replied) (goes : (c : Core) → irrevocable_room c call ≡ None) (a : IsAnswered words (start_of t call again) (Reply r) new.pass new.engine) (is : t.engine.irrevocable ≡ false) where
  replied_mode : new.engine.irrevocable ≡ t.engine.irrevocable
  replied_mode = ap (λ (c : Core). c.irrevocable) (replied words t new call again r a is goes).stays ∙ (last words t new call again r a is goes).kept.irrevocable

  replied_log : StartsWith new.engine.log t.engine.log ⊎ GoesOver t.engine new.engine → StartsWith new.engine.log t.engine.log
  replied_log (inl more) = more
  replied_log (inr over) = absurd (true≢false (sym over.is ∙ replied_mode ∙ is))

  -- a reply within a transaction
  pub replied_on : in_transaction t.engine ≡ true → in_transaction new.engine ≡ true → ReadsOn t.engine new.engine
  replied_on inside o = record { words = a.served.words; depth = a.served.limits.2; mode = replied_mode; log = replied_log (a.served.grows inside o (λ x. x)).log }

-- ## A reply that leaves the open blocks

pub record IsMild (call : Call) (r : Replied) : Type 0 where
  pub blocks : (c : Core) → blocks_after c call r ≡ c.blocks
  pub arena : (c : Core) (m : List ℕ) → arena_after c m call r ≡ c.arena
  pub commits : (c : Core) → StartsWith (actions_after c call r).commits c.actions.commits
  pub undos : (c : Core) → StartsWith (actions_after c call r).undos c.actions.undos
  pub ran : (c : Core) → (actions_after c call r).ran ≡ c.actions.ran
  pub goes : (c : Core) → irrevocable_room c call ≡ None

abbrev pub IsPlainCall : Call → Type 0
IsPlainCall (Read hint width at) = Unit {0}
IsPlainCall (Write hint at value) = Unit {0}
IsPlainCall (CommitAction action) = Unit {0}
IsPlainCall (UndoAction action) = Unit {0}
IsPlainCall call = ⊥

-- with an undo action, unless nothing can be undone
abbrev undo_in : Actions → Action → Bool → Actions
undo_in actions action irrevocable = if irrevocable then actions else registered kinds.Undo action actions

undo_kept : (a : Actions) (action : Action) (b : Bool) → StartsWith (undo_in a action b).commits a.commits × StartsWith (undo_in a action b).undos a.undos × ((undo_in a action b).ran ≡ a.ran)
undo_kept a action true = (begins _, begins _, refl)
undo_kept a action false = (begins _, (action ∷ [], refl), refl)

pub mild : (call : Call) (r : Replied) → IsPlainCall call → IsMild call r
mild (Read hint width at) r p = record { blocks = λ c. refl; arena = λ c m. refl; commits = λ c. begins _; undos = λ c. begins _; ran = λ c. refl; goes = λ c. refl }
mild (Write hint at value) r p = record { blocks = λ c. refl; arena = λ c m. refl; commits = λ c. begins _; undos = λ c. begins _; ran = λ c. refl; goes = λ c. refl }
mild (CommitAction action) Done p = record { blocks = λ c. refl; arena = λ c m. refl; commits = λ c. (action ∷ [], refl); undos = λ c. begins _; ran = λ c. refl; goes = λ c. refl }
mild (CommitAction action) r p = record { blocks = λ c. refl; arena = λ c m. refl; commits = λ c. begins _; undos = λ c. begins _; ran = λ c. refl; goes = λ c. refl }
mild (UndoAction action) Done p = record { blocks = λ c. refl; arena = λ c m. refl; commits = λ c. (undo_kept c.actions action c.irrevocable).0; undos = λ c. (undo_kept c.actions action c.irrevocable).1; ran = λ c. (undo_kept c.actions action c.irrevocable).2; goes = λ c. refl }
mild (UndoAction action) r p = record { blocks = λ c. refl; arena = λ c m. refl; commits = λ c. begins _; undos = λ c. begins _; ran = λ c. refl; goes = λ c. refl }
mild call r p = absurd p

module _ (words : Words) (t new : Standing) (call : Call) (again : Bool) (r : Replied) (is_mild : IsMild call r) (a : IsAnswered words (start_of t call again) (Reply r) new.pass new.engine) (is : t.engine.irrevocable ≡ false) where
  mild_within : (first : Core) → IsWithin first t.engine → in_transaction new.engine ≡ true → IsWithin first new.engine
  mild_within first w o =
      let goes = is_mild.goes in
      let c = mid words t new call again r a is goes in
      let k = (last words t new call again r a is goes).kept in
      let g = replied words t new call again r a is goes in
      let acts : new.engine.actions ≡ actions_after c call r = g.actions in
      let same : new.engine.blocks ≡ t.engine.blocks = g.blocks ∙ is_mild.blocks c ∙ k.blocks in
      record {
        blocks = same ∙ w.blocks;
        arena = arena_left words t new call again r a is goes o ∙ is_mild.arena c _ ∙ k.arena is ∙ w.arena;
        commits = begins_more _ _ _ _ (subst (λ (x : Actions). StartsWith x.commits c.actions.commits) (sym acts) (is_mild.commits c)) (ap (λ (x : Actions). x.commits) k.actions) w.commits;
        undos = begins_more _ _ _ _ (subst (λ (x : Actions). StartsWith x.undos c.actions.undos) (sym acts) (is_mild.undos c)) (ap (λ (x : Actions). x.undos) k.actions) w.undos;
        ran = ran_twice _ _ _ w.ran (ran_same _ _ (ap (λ (x : Actions). x.ran) acts ∙ is_mild.ran c ∙ ap (λ (x : Actions). x.ran) k.actions));
        on = on_twice first t.engine new.engine w.on (replied_on words t new call again r goes a is (sym (ap is_inside same) ∙ o) o);
      }

  mild_shut : in_transaction t.engine ≡ false → in_transaction new.engine ≡ false
  mild_shut shut =
      let goes = is_mild.goes in
      let c = mid words t new call again r a is goes in
      ap is_inside ((replied words t new call again r a is goes).blocks ∙ is_mild.blocks c ∙ (last words t new call again r a is goes).kept.blocks) ∙ shut

  pub mild_still : (first : Core) → IsWithinStill first t.engine → IsWithinStill first new.engine
  mild_still first w = by_open (in_transaction new.engine) refl
    where
      by_open : (b : Bool) → in_transaction new.engine ≡ b → IsWithinStill first new.engine
      by_open false shut = inr shut
      by_open true o = elim w [
        | inl within ↦ inl (mild_within first within o)
        | inr shut ↦ inr (mild_shut shut)
      ]

-- ## A block that goes back to its begin alone

record IsBack (bs : List Frame) (arena : List ℕ) (now first : Actions) (log : List LogRow) : Type 0 where
  blocks : renewed bs ≡ bs
  arena_is : put_back (log_of bs) arena ≡ arena
  commits : StartsWith (actions_cancelled bs now).commits first.commits
  undos : StartsWith (actions_cancelled bs now).undos first.undos
  ran : RanMore first.ran (actions_cancelled bs now).ran
  reads : reads_of bs ≡ length log

back_here : (bs : List Frame) (arena : List ℕ) (now first : Actions) (log : List LogRow) → IsFresh bs first log → StartsWith now.commits first.commits → StartsWith now.undos first.undos → RanMore first.ran now.ran → IsBack bs arena now first log
back_here [] arena now first log fresh c u r = absurd fresh
back_here (b ∷ bs) arena now first log fresh c u r = record {
  blocks = λ i. record b { log = sym fresh.0 i } ∷ bs;
  arena_is = ap (λ (l : List Old). put_back l arena) fresh.0;
  commits = ([], cut b.commits now.commits first.commits fresh.1 c ∙ sym (append-nil first.commits));
  undos = ([], cut b.undos now.undos first.undos fresh.2 u ∙ sym (append-nil first.undos));
  ran = ran_twice _ _ _ r (reverse (drop b.undos now.undos), refl);
  reads = fresh.3;
}

restarted_within : (words : Words) (t new : Standing) (call : Call) (clock word : ℕ) → IsAnswered words (start_of t call false) (answers.Restarted clock word) new.pass new.engine → t.engine.irrevocable ≡ false
    → (first : Core) → IsFresh first.blocks first.actions first.log → IsWithin first t.engine → IsWithin first new.engine
restarted_within words t new call clock word a is first fresh w =
    let l : IsLast (start_of t call false) (answers.Restarted clock word) new.engine = last_of (start_of t call false) (cells_of words) (answers.Restarted clock word) (view_of new.pass) new.engine a.driven in
    let c = l.mid in
    let k = l.kept in
    let g : Restarts c clock word new.engine = l.ends in
    let blocks : c.blocks ≡ first.blocks = k.blocks ∙ w.blocks in
    let acts : c.actions ≡ t.engine.actions = k.actions in
    let back = back_here first.blocks t.engine.arena t.engine.actions first.actions first.log fresh w.commits w.undos w.ran in
    let left : new.engine.actions ≡ actions_cancelled first.blocks t.engine.actions = ap (λ (x : Core). x.actions) g.stays ∙ (λ i. actions_cancelled (blocks i) (acts i)) in
    record {
      blocks = ap (λ (x : Core). x.blocks) g.stays ∙ ap renewed blocks ∙ back.blocks;
      arena = ap (λ (x : Core). x.arena) g.stays ∙ (λ i. put_back (log_of (blocks i)) (k.arena is i)) ∙ back.arena_is ∙ w.arena;
      commits = subst (λ (x : Actions). StartsWith x.commits first.actions.commits) (sym left) back.commits;
      undos = subst (λ (x : Actions). StartsWith x.undos first.actions.undos) (sym left) back.undos;
      ran = subst (λ (x : Actions). RanMore first.actions.ran x.ran) (sym left) back.ran;
      on = record {
        words = a.served.words ∙ w.on.words;
        depth = a.served.limits.2 ∙ w.on.depth;
        mode = a.served.tells.revocable.1 ∙ sym a.served.tells.revocable.0 ∙ w.on.mode;
        log = ([], a.served.tells.log ∙ ap (λ (bs : List Frame). take (reads_of bs) t.engine.log) w.blocks ∙ cut (reads_of first.blocks) t.engine.log first.log back.reads w.on.log ∙ sym (append-nil first.log));
      };
    }

restarted_still : (words : Words) (t new : Standing) (call : Call) (clock word : ℕ) → IsAnswered words (start_of t call false) (answers.Restarted clock word) new.pass new.engine → t.engine.irrevocable ≡ false
    → (first : Core) → IsFresh first.blocks first.actions first.log → IsWithinStill first t.engine → IsWithinStill first new.engine
restarted_still words t new call clock word a is first fresh (inl w) = inl (restarted_within words t new call clock word a is first fresh w)
restarted_still words t new call clock word a is first fresh (inr shut) = absurd (true≢false (sym a.served.tells.still.0 ∙ shut))

-- ## Any answer

module _ (words : Words) (t new : Standing) (call : Call) (other : NoCommit call) (milds : (r : Replied) → IsMild call r) (is : t.engine.irrevocable ≡ false) (first : Core) (fresh : IsFresh first.blocks first.actions first.log) where
  answered_still : (a : Answer) → IsAnswered words (start_of t call false) a new.pass new.engine → IsWithinStill first t.engine → IsWithinStill first new.engine
  answered_still (Reply r) a w = mild_still words t new call false r (milds r) a is first w
  answered_still (answers.Committed at wrote) a w = absurd (subst NoCommit a.served.tells.call other)
  answered_still (answers.Restarted clock word) a w = restarted_still words t new call clock word a is first fresh w
  answered_still answer a w = inr a.served.tells.closes.closed

  told_still : (told : Option Answer) → Tells words t call told new → IsWithinStill first t.engine → IsWithinStill first new.engine
  told_still (Some a) tells w = answered_still a tells w
  told_still None tells w = subst (λ (s : Standing). IsWithinStill first s.engine) (sym tells.err) w

plain_other : (call : Call) → IsPlainCall call → NoCommit call
plain_other Commit p = absurd p
plain_other call p = tt

-- a call of a body ends no block that was open
pub stays_within : (words : Words) (t new : Standing) (call : Call) → IsPlainCall call → (told : Option Answer) → Tells words t call told new → t.engine.irrevocable ≡ false
    → (first : Core) → IsFresh first.blocks first.actions first.log → IsWithinStill first t.engine → IsWithinStill first new.engine
stays_within words t new call p told tells is first fresh w = told_still words t new call (plain_other call p) (λ r. mild call r p) is first fresh told tells w

-- the same of a transaction as it was lent
pub lent_within : (inside now : Lent) (w : Words) (call : Call) → IsPlainCall call → inside ≡ now → (told : Option Answer) (new : Standing) → Tells w inside.thread call told new → inside.thread.engine.irrevocable ≡ false
    → (first : Core) → IsFresh first.blocks first.actions first.log → IsWithinStill first now.thread.engine → IsWithinStill first new.engine
lent_within inside now w call p is told new tells revocable first fresh within =
    stays_within w inside.thread new call p told tells revocable first fresh (subst (λ (l : Lent). IsWithinStill first l.thread.engine) (sym is) within)
