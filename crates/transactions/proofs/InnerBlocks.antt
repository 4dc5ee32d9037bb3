-- How a block within a transaction begins and ends.
use Rattle.std.proofs.Common.{◌≡◌, ◌∙◌, ℕ, not, Bool, true, false, List, [], ◌∷◌, ◌++◌, drop, length, reverse, None, ap, refl, subst, sym, true≢false, append-nil, if◌then◌else◌}
use Rattle.transactions.proofs.Common.{Abort, Actions, Answer, Begin, Code, Commit, Core, Done, Frame, GoesOn, HasGoneBack, Idle, IsAnswered, IsFresh, IsIrrevocable, IsWithin, LogRow, NoAbort, Old, Outside, Phase, ReadsOn, Replied, Reply, Served, Standing, StartsWith, State, View, Words, actions_after, actions_cancelled, actions_closed, arena_after, begun, blocks_after, came, came_over, cells_of, closed, in_transaction, irrevocable_room, is_inside, is_open, keeps_innermost, keeps_self, log_of, on_reply, or_else, put_back, refusal, reply, reply_unless, rows_of, stage_at, stands_for, start_of, state_in, unless, unrefused, usual, view_of, writes_after}
use Rattle.transactions.proofs.LastEngines.{arena_left, at_once, last, m, replied, replied_of, writes_left}
use Rattle.transactions.proofs.Looks.{engine_open}
use Rattle.transactions.proofs.Modes.{stands_mode}
use Rattle.transactions.proofs.Within.{RanMore, begins, cut, on_self, on_twice, ran_same, ran_twice, replied_on}

-- ## Its begin

pub begin_coded : (t : Standing) (a : Answer) (v : View) (e : Core) → Served (start_of t (Begin usual 0) false) a v e → GoesOn a → a ≡ Reply (Code 5)
begin_coded t a v e served on =
    let s = start_of t (Begin usual 0) false in
    on_reply (λ (x : Answer). x ≡ Reply (Code 5)) s a v e tt served on (λ r goes now. unrefused r (Code 5) (refusal t.engine.depth (stands_for t.engine (came_over s v e)) s.call) now.tells.here.reply_is goes)

-- the block that has begun goes back to what was written, registered and read
pub record HasEntered (t e : Core) : Type 0 where
  pub blocks : e.blocks ≡ begun usual t.writes t.actions (length t.log) ∷ t.blocks
  pub arena : e.arena ≡ t.arena
  pub actions : e.actions ≡ t.actions
  pub log : e.log ≡ t.log
  pub on : ReadsOn t e

picked : (b : Bool) (x y : Phase) → b ≡ true → (if b then x else y) ≡ x
picked true x y e = refl
picked false x y e = absurd (true≢false (sym e))

pub begin_idle : (c : Core) → in_transaction c ≡ true → stage_at c (Begin usual 0) false ≡ Idle
begin_idle c o = picked (in_transaction c) Idle _ o

goes_begin : (c : Core) → irrevocable_room c (Begin usual 0) ≡ None
goes_begin c = refl

acts_begun : (c : Core) → in_transaction c ≡ true → actions_after c (Begin usual 0) (Code 5) ≡ c.actions
acts_begun c o = ap (λ (b : Bool). if b then c.actions else record c.actions { ran = [] }) o

pub has_entered : (words : Words) (t new : Standing) → IsAnswered words (start_of t (Begin usual 0) false) (Reply (Code 5)) new.pass new.engine → t.engine.irrevocable ≡ false → in_transaction t.engine ≡ true → HasEntered t.engine new.engine
has_entered words t new a is inside =
    let here = came t.engine (Begin usual 0) false in
    let said = at_once (cells_of words) (start_of t (Begin usual 0) false) (Reply (Code 5)) (view_of new.pass) new.engine (begin_idle t.engine inside) a.driven in
    let g = replied_of words t new (Begin usual 0) false (Code 5) a is goes_begin (record { mid = here; kept = keeps_self here; ends = said.ends }) in
    let k = (last words t new (Begin usual 0) false (Code 5) a is goes_begin).kept in
    let o : in_transaction new.engine ≡ true = ap is_inside g.blocks in
    let log : new.engine.log ≡ t.engine.log = said.stays.log o in
    record {
      blocks = g.blocks;
      arena = arena_left words t new (Begin usual 0) false (Code 5) a is goes_begin o ∙ k.arena is;
      actions = g.actions ∙ acts_begun here inside;
      log = log;
      on = record { words = a.served.words; depth = a.served.limits.2; mode = ap (λ (c : Core). c.irrevocable) g.stays; log = ([], log ∙ sym (append-nil t.engine.log)) };
    }

pub fresh_begun : (t e : Core) → HasEntered t e → IsFresh e.blocks e.actions e.log
fresh_begun t e h = subst (λ (x : List Frame × Actions × List LogRow). IsFresh x.0 x.1 x.2) (λ i. (sym h.blocks i, sym h.actions i, sym h.log i)) (refl, refl, refl, refl)

pub within_self : (e : Core) → IsWithin e e
within_self e = record { blocks = refl; arena = refl; commits = begins _; undos = begins _; ran = ran_same _ _ refl; on = on_self e }

-- ## Its end

commit_done : (d : ℕ) (s : State) → is_open s ≡ true → reply d s Commit ≡ Done
commit_done d s e = ap (λ (b : Bool). reply_unless (or_else (unless b Outside) None) Done) e

cancel_coded : (d : ℕ) (s : State) → is_open s ≡ true → s.irrevocable ≡ false → keeps_innermost s.blocks ≡ false → reply d s (Abort false) ≡ Code 24
cancel_coded d s e r k = λ i. reply_unless (or_else (or_else (unless (e i) Outside) (or_else (unless (not (k i)) NoAbort) (unless (not (r i)) IsIrrevocable))) None) (Code 24)

pub goes_commit : (c : Core) → irrevocable_room c Commit ≡ None
goes_commit c = refl

pub goes_abort : (c : Core) → irrevocable_room c (Abort false) ≡ None
goes_abort c = refl

closed_around : (b p : Frame) (bs : List Frame) → b.log ≡ [] → closed (b ∷ p ∷ bs) ≡ p ∷ bs
closed_around b p bs e = λ i. record p { log = (ap (λ (l : List Old). p.log ++ l) e ∙ append-nil p.log) i } ∷ bs

-- the innermost block is one that has begun so, and blocks are open around it
module _ (words : Words) (t l new : Standing) (began : Core) (h : HasEntered t.engine began) (is : l.engine.irrevocable ≡ false) (inside : in_transaction t.engine ≡ true) where
  abbrev b : Frame
  b = begun usual t.engine.writes t.engine.actions (length t.engine.log)

  -- ## A commit

  abbrev Commits : Answer → Type 0
  Commits a = IsAnswered words (start_of l Commit false) a new.pass new.engine

  module _ (w : IsWithin began l.engine) where
    blocks_are : l.engine.blocks ≡ b ∷ t.engine.blocks
    blocks_are = w.blocks ∙ h.blocks

    l_open : in_transaction l.engine ≡ true
    l_open = ap is_inside blocks_are

    commits_in : StartsWith l.engine.actions.commits t.engine.actions.commits
    commits_in = subst (λ (x : Actions). StartsWith l.engine.actions.commits x.commits) h.actions w.commits

    undos_in : StartsWith l.engine.actions.undos t.engine.actions.undos
    undos_in = subst (λ (x : Actions). StartsWith l.engine.actions.undos x.undos) h.actions w.undos

    ran_in : RanMore t.engine.actions.ran l.engine.actions.ran
    ran_in = subst (λ (x : Actions). RanMore x.ran l.engine.actions.ran) h.actions w.ran

    on_in : ReadsOn t.engine l.engine
    on_in = on_twice t.engine began l.engine h.on w.on

    -- what the commit of it leaves
    pub committed : (r : Replied) → Commits (Reply r) → IsWithin t.engine new.engine × (r ≡ Done)
    committed r a =
        let last = last words l new Commit false r a is goes_commit in
        let c = last.mid in
        let k = last.kept in
        let g = replied words l new Commit false r a is goes_commit in
        let here = a.served.tells.here in
        let s = stands_for l.engine (came_over (start_of l Commit false) (view_of new.pass) new.engine) in
        let done : r ≡ Done = here.reply_is ∙ commit_done l.engine.depth s (engine_open l.engine _ is ∙ l_open) in
        let mid_blocks : c.blocks ≡ b ∷ t.engine.blocks = k.blocks ∙ blocks_are in
        let blocks = by_around t.engine.blocks inside in
        let left : new.engine.blocks ≡ t.engine.blocks = g.blocks ∙ ap (blocks_after c Commit) done ∙ ap closed mid_blocks ∙ blocks.0 in
        let o : in_transaction new.engine ≡ true = ap is_inside left ∙ inside in
        let acts : new.engine.actions ≡ l.engine.actions = g.actions ∙ ap (actions_after c Commit) done ∙ (λ i. actions_closed (mid_blocks i) (k.actions i)) ∙ blocks.1 l.engine.actions in (
          record {
            blocks = left;
            arena = arena_left words l new Commit false r a is goes_commit o ∙ k.arena is ∙ w.arena ∙ h.arena;
            commits = subst (λ (x : Actions). StartsWith x.commits t.engine.actions.commits) (sym acts) commits_in;
            undos = subst (λ (x : Actions). StartsWith x.undos t.engine.actions.undos) (sym acts) undos_in;
            ran = subst (λ (x : Actions). RanMore t.engine.actions.ran x.ran) (sym acts) ran_in;
            on = on_twice t.engine l.engine new.engine on_in (replied_on words l new Commit false r goes_commit a is l_open o);
          },
          done,
        )
      where
        by_around : (bs : List Frame) → is_inside bs ≡ true → (closed (b ∷ bs) ≡ bs) × ((x : Actions) → actions_closed (b ∷ bs) x ≡ x)
        by_around [] o = absurd (true≢false (sym o))
        by_around (p ∷ bs) o = (closed_around b p bs refl, λ x. refl)

    -- what a rollback of it leaves: nothing
    pub taken_back : (r : Replied) → IsAnswered words (start_of l (Abort false) false) (Reply r) new.pass new.engine → HasGoneBack t new × (r ≡ Code 24)
    taken_back r a =
        let last = last words l new (Abort false) false r a is goes_abort in
        let c = last.mid in
        let k = last.kept in
        let g = replied words l new (Abort false) false r a is goes_abort in
        let here = a.served.tells.here in
        let m' = came_over (start_of l (Abort false) false) (view_of new.pass) new.engine in
        let innermost : keeps_innermost (stands_for l.engine m').blocks ≡ false = λ i. keeps_innermost (state_in (is i) l.engine.writes (blocks_are i) l.engine.arena l.engine.actions m').blocks in
        let done : r ≡ Code 24 = here.reply_is ∙ cancel_coded l.engine.depth (stands_for l.engine m') (engine_open l.engine m' is ∙ l_open) (stands_mode l.engine m' ∙ is) innermost in
        let mid_blocks : c.blocks ≡ b ∷ t.engine.blocks = k.blocks ∙ blocks_are in
        let left : new.engine.blocks ≡ t.engine.blocks = g.blocks ∙ ap (blocks_after c (Abort false)) done ∙ ap (drop 1) mid_blocks in
        let o : in_transaction new.engine ≡ true = ap is_inside left ∙ inside in
        let acts : new.engine.actions ≡ actions_cancelled (b ∷ t.engine.blocks) l.engine.actions = g.actions ∙ ap (actions_after c (Abort false)) done ∙ (λ i. actions_cancelled (mid_blocks i) (k.actions i)) in
        let ran : RanMore t.engine.actions.ran new.engine.actions.ran = subst (λ (x : Actions). RanMore t.engine.actions.ran x.ran) (sym acts) (ran_twice _ _ _ ran_in (reverse (drop (length t.engine.actions.undos) l.engine.actions.undos), refl)) in (
          (
            ran.0,
            record {
              writes = writes_left words l new (Abort false) false r a is goes_abort o ∙ ap (writes_after c (m words l new (Abort false) false r a is goes_abort) (Abort false)) done ∙ ap rows_of mid_blocks;
              blocks = left;
              arena = arena_left words l new (Abort false) false r a is goes_abort o ∙ ap (arena_after c (m words l new (Abort false) false r a is goes_abort) (Abort false)) done ∙ (λ i. put_back (log_of (mid_blocks i)) (k.arena is i)) ∙ w.arena ∙ h.arena;
              commits = ap (λ (x : Actions). x.commits) acts ∙ cut (length t.engine.actions.commits) _ _ refl commits_in;
              undos = ap (λ (x : Actions). x.undos) acts ∙ cut (length t.engine.actions.undos) _ _ refl undos_in;
              ran = ran.1;
              on = on_twice t.engine l.engine new.engine on_in (replied_on words l new (Abort false) false r goes_abort a is l_open o);
            },
          ),
          done,
        )
