-- Over an answer, no action that has run is lost, and there are no more actions in all than before, but for one that is registered.
use Rattle.std.proofs.Common.{◌≡◌, ℕ, ◌+◌, ◌≤◌, Bool, true, false, true≢false, if◌then◌else◌, List, [], ◌∷◌, ◌++◌, length, map, take, drop, reverse, refl, sym, ap, inl, inr, ◌∙◌, arith, append-nil, append_assoc, length-append, subst}
use Rattle.norec_core.proofs.Common.{Abort, Action, Actions, Begin, Call, Code, Commit, CommitAction, Core, Done, Frame, Idle, Log, LogBytes, Replied, State, UndoAction, actions_after, actions_back, actions_cancelled, actions_closed, after_undoing, as_commit, as_undo, block_over, blocks_after, blocks_over, cases_Bool, closed, committed, cut_back, in_transaction, is_abort, is_begin, is_inside, is_outermost, length-map, length-reverse, plainly_back, registered, rolled_back, take-append-drop, total, undone_from}
use Rattle.itm_types.specs.declared.call.Ran.{Ran}
use Rattle.norec_core.{proofs.Engines.Blocks.none_inside, proofs.Replies.ReplyCases.IsReplied}
use Rattle.itm_types.specs.declared.call.ActionKind.TheVariants as kinds

-- more of them have run, and there are at most so many more in all
pub record RunsOn (more : ℕ) (old new : Actions) : Type 0 where
  pub later : List Ran
  pub ran : new.ran ≡ old.ran ++ later
  pub most : total new ≤ total old + more

pub still : (n : ℕ) (a : Actions) → RunsOn n a a
still n a = record { later = []; ran = sym (append-nil a.ran); most = omega arith }

both : (n : ℕ) (a b c : Actions) → RunsOn n a b → RunsOn 0 b c → RunsOn n a c
both n a b c f g = record {
  later = f.later ++ g.later;
  ran = g.ran ∙ (ap (λ (r : List Ran). r ++ g.later) f.ran ∙ append_assoc a.ran f.later g.later);
  most = (let x = f.most in let y = g.most in omega arith);
}

pub commits_run : (a : Actions) → RunsOn 0 a (committed a)
commits_run a = record {
  later = map as_commit a.commits;
  ran = refl;
  most = (let n = length-append a.ran (map as_commit a.commits) in let k = length-map a.commits as_commit in omega arith);
}

cut_runs : (commits undos : ℕ) (a : Actions) → RunsOn 0 a (cut_back commits undos a)
cut_runs commits undos a =
    let gone = map as_undo (reverse (drop undos a.undos)) in
    let n = length-append a.ran gone in
    let k = length-map (reverse (drop undos a.undos)) as_undo ∙ length-reverse (drop undos a.undos) in
    let u = sym (ap (length {A = Action}) (take-append-drop undos a.undos)) ∙ length-append (take undos a.undos) (drop undos a.undos) in
    let c = sym (ap (length {A = Action}) (take-append-drop commits a.commits)) ∙ length-append (take commits a.commits) (drop commits a.commits) in
    record { later = gone; ran = refl; most = omega arith }

pub all_run : (blocks : List Frame) (a : Actions) → RunsOn 0 a (actions_back blocks a)
all_run [] a = still 0 a
all_run (b ∷ bs) a = both 0 a (cut_back b.commits b.undos a) (actions_back bs (cut_back b.commits b.undos a)) (cut_runs b.commits b.undos a) (all_run bs (cut_back b.commits b.undos a))

pub cancel_runs : (blocks : List Frame) (a : Actions) → RunsOn 0 a (actions_cancelled blocks a)
cancel_runs [] a = still 0 a
cancel_runs (b ∷ bs) a = cut_runs b.commits b.undos a

close_runs : (blocks : List Frame) (a : Actions) → RunsOn 0 a (actions_closed blocks a)
close_runs [] a = still 0 a
close_runs (b ∷ []) a = commits_run a
close_runs (b ∷ p ∷ bs) a = still 0 a

-- ## Answers

-- how many actions a call registers
abbrev pub registers : Call → ℕ
registers (CommitAction action) = 1
registers (UndoAction action) = 1
registers call = 0

one_more : (xs : List Action) (action : Action) → length (xs ++ action ∷ []) ≡ length xs + 1
one_more xs action = length-append xs (action ∷ [])

cancels : (c : Core) (outer : Bool) → RunsOn 0 c.actions (if outer then actions_back c.blocks c.actions else actions_cancelled c.blocks c.actions)
cancels c true = all_run c.blocks c.actions
cancels c false = cancel_runs c.blocks c.actions

undo_on : (c : Core) (action : Action) (irrevocable : Bool) → RunsOn 1 c.actions (if irrevocable then c.actions else registered kinds.Undo action c.actions)
undo_on c action true = still 1 c.actions
undo_on c action false = record {
  later = [];
  ran = sym (append-nil c.actions.ran);
  most = (let n = one_more c.actions.undos action in omega arith);
}

-- a reply within a transaction
replied_on : (c : Core) (call : Call) (r : Replied) → in_transaction c ≡ true → RunsOn (registers call) c.actions (actions_after c call r)
replied_on c (Begin props room) (Code n) o = subst (λ (b : Bool). RunsOn 0 c.actions (if b then c.actions else record c.actions { ran = [] })) (sym o) (still 0 c.actions)
replied_on c (Begin props room) r o = still 0 c.actions
replied_on c Commit Done o = close_runs c.blocks c.actions
replied_on c Commit r o = still 0 c.actions
replied_on c (Abort outer) (Code n) o = cancels c outer
replied_on c (Abort outer) r o = still 0 c.actions
replied_on c (CommitAction action) Done o = record {
  later = [];
  ran = sym (append-nil c.actions.ran);
  most = (let n = one_more c.actions.commits action in omega arith);
}
replied_on c (CommitAction action) r o = still 1 c.actions
replied_on c (UndoAction action) Done o = undo_on c action c.irrevocable
replied_on c (UndoAction action) r o = still 1 c.actions
replied_on c call r o = still (registers call) c.actions

-- ## Replies that run nothing

inner_closes : (blocks : List Frame) (a : Actions) → is_outermost blocks ≡ false → (actions_closed blocks a).ran ≡ a.ran
inner_closes [] a i = refl
inner_closes (b ∷ []) a i = absurd (cc)
inner_closes (b ∷ p ∷ bs) a i = refl

-- no other reply than that to a cancel runs actions where the transaction stays open
ran_same : (c : Core) (call : Call) (r : Replied) → is_abort call ≡ false → in_transaction c ≡ true → ((r ≡ Done) → call ≡ Commit → is_outermost c.blocks ≡ false) → (actions_after c call r).ran ≡ c.actions.ran
ran_same c (Begin props room) (Code n) other o inner = ap (λ (b : Bool). (if b then c.actions else record c.actions { ran = [] }).ran) o
ran_same c (Begin props room) r other o inner = refl
ran_same c Commit Done other o inner = inner_closes c.blocks c.actions (inner refl refl)
ran_same c Commit r other o inner = refl
ran_same c (Abort outer) r other o inner = absurd (cc)
ran_same c (CommitAction action) Done other o inner = refl
ran_same c (CommitAction action) r other o inner = refl
ran_same c (UndoAction action) Done other o inner = grind arith
ran_same c (UndoAction action) r other o inner = refl
ran_same c call r other o inner = refl

closes : (blocks : List Frame) → is_inside (closed blocks) ≡ true → is_outermost blocks ≡ false
closes [] i = refl
closes (b ∷ []) i = absurd (cc)
closes (b ∷ p ∷ bs) i = refl

closes_inner : (mid : Core) (call : Call) (r : Replied) → is_inside (blocks_after mid call r) ≡ true → (r ≡ Done) → call ≡ Commit → is_outermost mid.blocks ≡ false
closes_inner mid call r now done commit = closes mid.blocks (sym (λ i. is_inside (blocks_after mid (commit i) (done i))) ∙ now)

-- ## A transaction that is given up

pub undone_actions : (blocks : List Frame) (arena m : List ℕ) (s : State) → (undone_from s (blocks_over blocks arena m)).actions ≡ actions_back blocks s.actions
undone_actions [] arena m s = refl
undone_actions (b ∷ bs) arena m s = undone_actions bs arena m (plainly_back s (blocks_over bs arena m) (block_over b arena m).saved)

pub given_up_actions : (c : Core) → c.holds ≡ false → (after_undoing c).actions ≡ actions_back c.blocks c.actions
given_up_actions c free = ap (λ (h : Bool). (if h then c else record (rolled_back c) { stage = Idle; tries = 0 }).actions) free

-- ## A transaction that begins

no_block : (mid : Core) (call : Call) (r : Replied) → mid.blocks ≡ [] → is_begin call ≡ false → is_inside (blocks_after mid call r) ≡ false
no_block mid (Begin props room) r none other = absurd (cc)
no_block mid Commit Done none other = ap (λ (bs : List Frame). is_inside (closed bs)) none
no_block mid Commit r none other = ap is_inside none
no_block mid (Abort outer) (Code n) none other = grind arith
no_block mid (Abort outer) r none other = ap is_inside none
no_block mid (Log width at) Done none other = grind arith
no_block mid (Log width at) r none other = ap is_inside none
no_block mid (LogBytes at size) Done none other = grind arith
no_block mid (LogBytes at size) r none other = ap is_inside none
no_block mid call r none other = ap is_inside none

begun_empty : (mid : Core) (call : Call) (r : Replied) → in_transaction mid ≡ false → mid.actions.commits ≡ [] → mid.actions.undos ≡ [] → is_begin call ≡ true → is_inside (blocks_after mid call r) ≡ true → total (actions_after mid call r) ≡ 0
begun_empty mid (Begin props room) (Code n) shut commits undos is now =
    ap (λ (b : Bool). total (if b then mid.actions else record mid.actions { ran = [] })) shut ∙ (λ i. total (record { commits = commits i; undos = undos i; ran = [] }))
begun_empty mid (Begin props room) r shut commits undos is now = absurd (let both : false ≡ true = sym shut ∙ now in cc)
begun_empty mid call r shut commits undos is now = absurd (cc)

-- the actions of a begin that opens one
begun_none : (mid : Core) (call : Call) (r : Replied) → in_transaction mid ≡ false → mid.actions.commits ≡ [] → mid.actions.undos ≡ [] → is_inside (blocks_after mid call r) ≡ true → total (actions_after mid call r) ≡ 0
begun_none mid call r shut commits undos inside =
    elim (cases_Bool (is_begin call)) [
      | inl is ↦ begun_empty mid call r shut commits undos is inside
      | inr other ↦ absurd (let both : false ≡ true = sym (no_block mid call r (none_inside mid.blocks shut) other) ∙ inside in cc)
    ]

-- ## What becomes of the actions over an answer to this call

pub record LeavesActions (mid : Core) (call : Call) (new : Core) : Type 0 where
  pub runs : in_transaction mid ≡ true → RunsOn (registers call) mid.actions new.actions
  pub same : in_transaction mid ≡ true → is_abort call ≡ false → in_transaction new ≡ true → new.actions.ran ≡ mid.actions.ran
  pub begins : in_transaction mid ≡ false → mid.actions.commits ≡ [] → mid.actions.undos ≡ [] → in_transaction new ≡ true → total new.actions ≡ 0

-- a reply
pub reply_leaves : (mid new : Core) (call : Call) (r : Replied) → IsReplied mid new call r → LeavesActions mid call new
reply_leaves mid new call r g = record {
  runs = λ o.
      (let f = replied_on mid call r o in
      record { later = f.later; ran = g.ran ∙ f.ran; most = (let x = f.most in let y = g.most in omega arith) });
  same = λ o other now. g.ran ∙ ran_same mid call r other o (closes_inner mid call r (sym g.inside ∙ now));
  begins = λ shut commits undos now. (let none = begun_none mid call r shut commits undos (sym g.inside ∙ now) in let most = g.most in omega arith);
}

-- the end of a transaction
pub end_leaves : (mid new : Core) (call : Call) (actions : Actions) → new.actions ≡ actions → in_transaction new ≡ false → RunsOn 0 mid.actions actions → LeavesActions mid call new
end_leaves mid new call actions is shut f = record {
  runs = λ o. record { later = f.later; ran = ap (λ (a : Actions). a.ran) is ∙ f.ran; most = (let x = f.most in let y = ap total is in omega arith) };
  same = λ o other now. absurd (true≢false (sym now ∙ shut));
  begins = λ outside commits undos now. absurd (true≢false (sym now ∙ shut));
}
