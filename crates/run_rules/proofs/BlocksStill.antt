-- The open inner blocks after a reply within their transaction: each is known as it was, but for the one that the call opens, closes or cancels.
use Rattle.std.proofs.Common.{◌≡◌, ℕ, suc, ◌+◌, ◌≤◌, Bool, true, false, if◌then◌else◌, List, [], ◌∷◌, ◌++◌, length, take, drop, refl, sym, ap, subst, ◌∙◌, arith, length-append}
use Rattle.run_rules.proofs.Common.{Abort, Actions, AreRead, Attempt, Begin, Bounds, Call, CallRecord, Code, Commit, CommitAction, Core, Done, Frame, HasBegun, HaveBegun, Kept, Log, LogBytes, LogRow, Old, Props, Ran, Reply, Rules, Savepoint, UndoAction, actions_after, actions_cancelled, actions_closed, before_no_more, begun, blocks_after, bounds_now, bounds_of, closed, count_undone, due_at, found, is_code, is_inside, length-take-le, logged, nothing, registered, savepoints_after, size_of, take-append-le, take-take}
use Rattle.itm_types.specs.declared.call.Action.{Action}
use Rattle.itm_types.specs.declared.call.ActionKind.TheVariants as kinds
use Rattle.user_actions.specs.Actions.{cut_back}
use Rattle.run_rules.proofs.BlocksAgain.{begun_still}

-- ## The actions that are registered

-- the first of them, so many, are as they were
pub record KeepsFirst (commits undos : ℕ) (old new : Actions) : Type 0 where
  pub first_commits : (k : ℕ) → k ≤ commits → take k new.commits ≡ take k old.commits
  pub first_undos : (k : ℕ) → k ≤ undos → take k new.undos ≡ take k old.undos
  pub enough_commits : commits ≤ length new.commits
  pub enough_undos : undos ≤ length new.undos

abbrev pub KeepsAll : Actions → Actions → Type 0
KeepsAll old new = KeepsFirst (length old.commits) (length old.undos) old new

keeps_fewer : (n n' u u' : ℕ) (old new : Actions) → n' ≤ n → u' ≤ u → KeepsFirst n u old new → KeepsFirst n' u' old new
keeps_fewer n n' u u' old new l f h = record { first_commits = λ k w. h.first_commits k (omega arith); first_undos = λ k w. h.first_undos k (omega arith); enough_commits = omega (arith, h.enough_commits); enough_undos = omega (arith, h.enough_undos) }

pub keeps_same : (a : Actions) → KeepsAll a a
keeps_same a = record { first_commits = λ k w. refl; first_undos = λ k w. refl; enough_commits = omega arith; enough_undos = omega arith }

keeps_commit : (action : Action) (a : Actions) → KeepsAll a (registered kinds.Commit action a)
keeps_commit action a = record {
  first_commits = λ k w. take-append-le k a.commits (action ∷ []) w;
  first_undos = λ k w. refl;
  enough_commits = (let n = length-append a.commits (action ∷ []) in omega arith);
  enough_undos = omega arith;
}

keeps_undo : (action : Action) (irrevocable : Bool) (a : Actions) → KeepsAll a (if irrevocable then a else registered kinds.Undo action a)
keeps_undo action true a = keeps_same a
keeps_undo action false a = record {
  first_commits = λ k w. refl;
  first_undos = λ k w. take-append-le k a.undos (action ∷ []) w;
  enough_commits = omega arith;
  enough_undos = (let n = length-append a.undos (action ∷ []) in omega arith);
}

keeps_cut : (n u : ℕ) (a : Actions) → n ≤ length a.commits → u ≤ length a.undos → KeepsFirst n u a (cut_back n u a)
keeps_cut n u a l f = record {
  first_commits = λ k w. take-take k n a.commits w;
  first_undos = λ k w. take-take k u a.undos w;
  enough_commits = (let e = length-take-le n a.commits l in omega arith);
  enough_undos = (let e = length-take-le u a.undos f in omega arith);
}

-- ## Each block, from the innermost one on

module _ {P : Type 0} (rules : Rules P) (deepest : ℕ) (by : P) (row row' : Attempt) (e e' : Core) (most : Bounds) (top : ℕ)
    (each : (b : Frame) (outer : List Frame) (s : Savepoint) → HasBegun rules deepest by row e b outer s → s.kept ≤ most.calls → s.ran ≤ most.told → b.reads ≤ top → b.commits ≤ most.commits → b.undos ≤ most.undos → HasBegun rules deepest by row' e' b outer s) where
  pub each_still : (now : Bounds) (low : ℕ) (bs : List Frame) (points : List Savepoint) → now.calls ≤ most.calls → now.told ≤ most.told → now.commits ≤ most.commits → now.undos ≤ most.undos → low ≤ top → AreRead low bs
      → HaveBegun rules deepest by row e now bs points → HaveBegun rules deepest by row' e' now bs points
  each_still now low (x ∷ y ∷ rest) (q ∷ qs) lc lt lm lu lr r h =
      let w = h.1 in (
        each x (y ∷ rest) q h.0 (omega (arith, w.calls, lc)) (omega (arith, w.told, lt)) (omega (arith, r.0, lr)) (omega (arith, w.commits, lm)) (omega (arith, w.undos, lu)),
        w,
        each_still (bounds_of x q) x.reads (y ∷ rest) qs (omega (arith, w.calls, lc)) (omega (arith, w.told, lt)) (omega (arith, w.commits, lm)) (omega (arith, w.undos, lu)) (omega (arith, r.0, lr)) r.1 h.2,
      )
  each_still now low bs points lc lt lm lu lr r h = h

-- ## Within wider bounds, and with another log of the innermost block

module _ {P : Type 0} (rules : Rules P) (deepest : ℕ) (by : P) (row : Attempt) (e : Core) where
  wider : (most more : Bounds) (bs : List Frame) (points : List Savepoint) → most.calls ≤ more.calls → most.told ≤ more.told → most.commits ≤ more.commits → most.undos ≤ more.undos
      → HaveBegun rules deepest by row e most bs points → HaveBegun rules deepest by row e more bs points
  wider most more (b ∷ g ∷ outer) (s ∷ points) c t m u h =
      (let w = h.1 in (h.0, record { calls = omega (arith, w.calls, c); told = omega (arith, w.told, t); commits = omega (arith, w.commits, m); undos = omega (arith, w.undos, u) }, h.2))
  wider most more bs points c t m u h = h

  -- a block is known as it was, whatever it has logged
  pub begun_logged : (b : Frame) (outer : List Frame) (s : Savepoint) (log : List Old) → HasBegun rules deepest by row e b outer s → HasBegun rules deepest by row e (record b { log = log }) outer s
  begun_logged b outer s log k = record { before = k.before; room = k.room; rest = k.rest; calls = k.calls; kept = k.kept; few = k.few; stays = k.stays; sized = k.sized; under = k.under; told = k.told; alone = k.alone; revocable = k.revocable }

  logged_still : (most : Bounds) (b : Frame) (log : List Old) (bs : List Frame) (points : List Savepoint) → HaveBegun rules deepest by row e most (b ∷ bs) points → HaveBegun rules deepest by row e most (record b { log = log } ∷ bs) points
  logged_still most b log (g ∷ outer) (s ∷ points) h = (let w = h.1 in (begun_logged b (g ∷ outer) s log h.0, record { calls = w.calls; told = w.told; commits = w.commits; undos = w.undos }, h.2))
  logged_still most b log bs points h = h

  all_logged : (most : Bounds) (irrevocable : Bool) (bs : List Frame) (olds : List Old) (points : List Savepoint) → HaveBegun rules deepest by row e most bs points → HaveBegun rules deepest by row e most (if irrevocable then bs else logged bs olds) points
  all_logged most false (b ∷ bs) olds points h = logged_still most b (b.log ++ olds) bs points h
  all_logged most irrevocable bs olds points h = h

-- ## With more calls, and more that has come to run

module _ {P : Type 0} (rules : Rules P) (deepest : ℕ) (by : P) (row : Attempt) (mid new : Core) (at : ℕ) (calls : Kept) (told : List Ran) (others : List CallRecord) (more : List Ran) (calls_are : calls.list ≡ row.calls.list ++ others) (told_is : told ≡ row.ran ++ more) (rows : List LogRow) (later : List Ran)
    (words : new.words ≡ mid.words) (log : new.log ≡ mid.log ++ rows) (size : nothing new.arena ≡ nothing mid.arena) (ran : new.actions.ran ≡ mid.actions.ran ++ later) (due : length mid.actions.ran ≡ length row.ran + count_undone row.restarts) where
  pub blocks_on : (most : Bounds) (top : ℕ) (bs : List Frame) (points : List Savepoint) → top ≤ length mid.log → AreRead top bs → KeepsFirst most.commits most.undos mid.actions new.actions
      → HaveBegun rules deepest by row mid most bs points → HaveBegun rules deepest by (record row { at = at; calls = calls; ran = told }) new most bs points
  blocks_on most top bs points l read keeps =
      each_still rules deepest by row (record row { at = at; calls = calls; ran = told }) mid new most top
      (λ b outer s h kept fewer reads commits undos.
      (let few = h.few in
      let less = before_no_more s.kept row.restarts in
      begun_still rules deepest by row mid new b outer s at calls told others more calls_are told_is h words (ap (take b.reads) log ∙ take-append-le b.reads mid.log rows (omega (arith, l, reads))) size (keeps.first_commits b.commits commits) (keeps.first_undos b.undos undos)
      (ap (take (due_at s row.restarts)) ran ∙ take-append-le (due_at s row.restarts) mid.actions.ran later (omega (arith, few, less, due)))))
      most top bs points (omega arith) (omega arith) (omega arith) (omega arith) (omega arith) read

-- ## After a reply

module _ {P : Type 0} (rules : Rules P) (deepest : ℕ) (by : P) (row : Attempt) (mid new : Core) (x : CallRecord) (room : ℕ) (more : List Ran) (rows : List LogRow) (later : List Ran)
    (words : new.words ≡ mid.words) (log : new.log ≡ mid.log ++ rows) (size : nothing new.arena ≡ nothing mid.arena) (ran : new.actions.ran ≡ mid.actions.ran ++ later) (due : length mid.actions.ran ≡ length row.ran + count_undone row.restarts) where
  -- the attempt with one call more
  abbrev pub on : Attempt
  on = record row { calls = record { list = row.calls.list ++ x ∷ []; room = room }; ran = row.ran ++ more }

  pub blocks_still : (most : Bounds) (top : ℕ) (bs : List Frame) (points : List Savepoint) → top ≤ length mid.log → AreRead top bs → KeepsFirst most.commits most.undos mid.actions new.actions
      → HaveBegun rules deepest by row mid most bs points → HaveBegun rules deepest by on new most bs points
  blocks_still = blocks_on rules deepest by row mid new row.at (record { list = row.calls.list ++ x ∷ []; room = room }) (row.ran ++ more) (x ∷ []) more refl refl rows later words log size ran due

  -- all stay open
  stay : (bs : List Frame) (points : List Savepoint) → AreRead (length mid.log) bs → KeepsAll mid.actions new.actions
      → HaveBegun rules deepest by row mid (bounds_now row mid) bs points → HaveBegun rules deepest by on new (bounds_now on new) bs points
  stay bs points read keeps h =
      let all : length mid.log ≤ length mid.log = omega arith in
      wider rules deepest by on new (bounds_now row mid) (bounds_now on new) bs points (let n = length-append row.calls.list (x ∷ []) in omega arith) (let n = length-append row.ran more in omega arith) keeps.enough_commits keeps.enough_undos
      (blocks_still (bounds_now row mid) (length mid.log) bs points all read keeps h)

  -- the innermost one is gone
  around : (b g : Frame) (outer : List Frame) (s : Savepoint) (points : List Savepoint) → AreRead (length mid.log) (b ∷ g ∷ outer) → KeepsFirst b.commits b.undos mid.actions new.actions
      → HaveBegun rules deepest by row mid (bounds_now row mid) (b ∷ g ∷ outer) (s ∷ points) → HaveBegun rules deepest by on new (bounds_now on new) (g ∷ outer) points
  around b g outer s points read keeps h =
      wider rules deepest by on new (bounds_of b s) (bounds_now on new) (g ∷ outer) points (omega (arith, h.1.calls, length-append row.calls.list (x ∷ []))) (omega (arith, h.1.told, length-append row.ran more)) keeps.enough_commits keeps.enough_undos
      (blocks_still (bounds_of b s) b.reads (g ∷ outer) points read.0 read.1 keeps h.2)

  close : (bs : List Frame) (points : List Savepoint) → is_inside (closed bs) ≡ true → new.actions ≡ actions_closed bs mid.actions → AreRead (length mid.log) bs
      → HaveBegun rules deepest by row mid (bounds_now row mid) bs points → HaveBegun rules deepest by on new (bounds_now on new) (closed bs) (drop 1 points)
  close (b ∷ g ∷ outer) [] now is read h = absurd h
  close (b ∷ g ∷ outer) (s ∷ points) now is read h =
      logged_still rules deepest by on new (bounds_now on new) g (g.log ++ b.log) outer points
      (around b g outer s points read (keeps_fewer (length mid.actions.commits) b.commits (length mid.actions.undos) b.undos mid.actions new.actions h.1.commits h.1.undos (subst (KeepsAll mid.actions) (sym is) (keeps_same mid.actions))) h)
  close bs points now is read h = absurd (cc)

  cancel : (bs : List Frame) (points : List Savepoint) → is_inside (drop 1 bs) ≡ true → new.actions ≡ actions_cancelled bs mid.actions → AreRead (length mid.log) bs
      → HaveBegun rules deepest by row mid (bounds_now row mid) bs points → HaveBegun rules deepest by on new (bounds_now on new) (drop 1 bs) (drop 1 points)
  cancel (b ∷ g ∷ outer) [] now is read h = absurd h
  cancel (b ∷ g ∷ outer) (s ∷ points) now is read h =
      around b g outer s points read (subst (KeepsFirst b.commits b.undos mid.actions) (sym is) (keeps_cut b.commits b.undos mid.actions h.1.commits h.1.undos)) h
  cancel bs points now is read h = absurd (cc)

  module _ (points : List Savepoint) (read : AreRead (length mid.log) mid.blocks) (have : HaveBegun rules deepest by row mid (bounds_now row mid) mid.blocks points) where
    same : new.actions ≡ mid.actions → HaveBegun rules deepest by on new (bounds_now on new) mid.blocks points
    same is = stay mid.blocks points read (subst (KeepsAll mid.actions) (sym is) (keeps_same mid.actions)) have

    -- by the call and its reply; of a block that it opens this is to be known
    pub begun_after : (call : Call) (r : Reply) → new.actions ≡ actions_after mid call r → is_inside (blocks_after mid call r) ≡ true
        → ((props : Props) (places : ℕ) → call ≡ Begin props places → is_code r ≡ true
        → HaveBegun rules deepest by on new (bounds_now on new) (begun props mid.writes mid.actions (length mid.log) ∷ mid.blocks) (record { kept = suc (length row.calls.list); ran = length row.ran } ∷ points))
        → HaveBegun rules deepest by on new (bounds_now on new) (blocks_after mid call r) (savepoints_after points row (record { call = call; reply = r }))
    begun_after (Begin props places) (Code n) is now opens = opens props places refl refl
    begun_after Commit Done is now opens = close mid.blocks points now is read have
    begun_after (Abort true) (Code n) is now opens = absurd (cc)
    begun_after (Abort false) (Code n) is now opens = cancel mid.blocks points now is read have
    begun_after (Log width at) Done is now opens = all_logged rules deepest by on new (bounds_now on new) mid.irrevocable mid.blocks (found mid.arena at (size_of width)) points (same is)
    begun_after (LogBytes at size) Done is now opens = all_logged rules deepest by on new (bounds_now on new) mid.irrevocable mid.blocks (found mid.arena at size) points (same is)
    begun_after (CommitAction action) Done is now opens = stay mid.blocks points read (subst (KeepsAll mid.actions) (sym is) (keeps_commit action mid.actions)) have
    begun_after (UndoAction action) Done is now opens = stay mid.blocks points read (subst (KeepsAll mid.actions) (sym is) (keeps_undo action mid.irrevocable mid.actions)) have
    begun_after call r is now opens = same is
