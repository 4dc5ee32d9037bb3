-- What holds of an engine after any answer.
use Rattle.norec_core.proofs.Engines.Blocks.{none_inside}
use Rattle.std.proofs.Common.{arith, ◌≡◌, ◌⊎◌, inl, inr, ℕ, Bool, true, false, true≢false, List, [], Option, None, Some, refl, ap, subst, sym, ◌∙◌}
use Rattle.norec_core.proofs.Common.{Actions, Answer, Answers, Asks, Begin, Busy, Call, Committed, Conflict, ConflictsIn, Core, Ends, EndsSo, Full, IsEnding, IsRestart, Next, Phase, Proceeds, Replied, RepliesTo, Reply, Restarted, actions_back, arena_back, committed, ended, ending_at, in_transaction, recoded, total}
use Rattle.norec_core.proofs.Replies.ReplyCases.{Ways, replied_so, reply_cases}
use Rattle.norec_core.proofs.Replies.ActionCounts.{LeavesActions, RunsOn, all_run, cancel_runs, commits_run, end_leaves, registers, reply_leaves, still}

-- a call that begins no block anew is told what it is answered
pub told_plainly : (call : Call) (r : Replied) → recoded call false r ≡ r
told_plainly (Begin props room) r = refl
told_plainly call r = refl

-- a writer's commit alone has freed the clock
abbrev pub frees : Answer → Bool
frees (Committed at wrote) = wrote
frees a = false

-- these fields are as they were, and these are cleared
abbrev Keeps : Core → Core → Type 0
Keeps mid c = c ≡ record c { words = mid.words; patience = mid.patience; max_commits = mid.max_commits; restarts = mid.restarts; depth = mid.depth; clock = mid.clock; spent = mid.spent; waits = None; fresh = [] }

pub record IsRest (mid : Core) (a : Answer) (new : Core) : Type 0 where
  pub words : new.words ≡ mid.words
  pub patience : new.patience ≡ mid.patience
  pub max_commits : new.max_commits ≡ mid.max_commits
  pub restarts : new.restarts ≡ mid.restarts
  pub restarted : (IsRestart a → ⊥) → new.restarted ≡ mid.restarted
  pub depth : new.depth ≡ mid.depth
  pub clock : new.clock ≡ mid.clock
  pub spent : new.spent ≡ mid.spent
  pub idle : new.waits ≡ None
  pub fresh : new.fresh ≡ []
  pub held : new.holds ≡ mid.holds  -- the clock, as before
  pub holds : new.holds ≡ new.irrevocable  -- and that where its transaction is irrevocable
  pub freed : mid.freed ≡ frees a
  pub replies : in_transaction new ≡ true → ((r : Replied) × (a ≡ Reply r)) ⊎ IsRestart a  -- a transaction stays open over a reply, or where a block goes back to its begin
  pub acts : (call : Call) → mid.doing ≡ Some call → (IsRestart a → ⊥) → LeavesActions mid call new

module _ (mid new : Core) where
  rest : (a : Answer) → Keeps mid new → new.holds ≡ mid.holds → new.holds ≡ new.irrevocable → mid.freed ≡ frees a → (in_transaction new ≡ true → ((r : Replied) × (a ≡ Reply r)) ⊎ IsRestart a) → ((IsRestart a → ⊥) → new.restarted ≡ mid.restarted)
      → ((call : Call) → mid.doing ≡ Some call → (IsRestart a → ⊥) → LeavesActions mid call new) → IsRest mid a new
  rest a same held holds freed replies counts acts = record {
    words = ap (λ (c : Core). c.words) same;
    patience = ap (λ (c : Core). c.patience) same;
    max_commits = ap (λ (c : Core). c.max_commits) same;
    restarts = ap (λ (c : Core). c.restarts) same;
    restarted = counts;
    depth = ap (λ (c : Core). c.depth) same;
    clock = ap (λ (c : Core). c.clock) same;
    spent = ap (λ (c : Core). c.spent) same;
    idle = ap (λ (c : Core). c.waits) same;
    fresh = ap (λ (c : Core). c.fresh) same;
    held = held;
    holds = holds;
    freed = freed;
    replies = replies;
    acts = acts;
  }

  -- the transaction is over
  over : (a : Answer) (stage : Phase) (tries snapshot : ℕ) (arena : List ℕ) (actions : Actions) → mid.holds ≡ false → mid.freed ≡ frees a → RunsOn 0 mid.actions actions
      → new ≡ record (ended mid) { stage = stage; tries = tries; snapshot = snapshot; arena = arena; actions = actions } → IsRest mid a new
  over a stage tries snapshot arena actions free freed runs stays =
      let shut : in_transaction new ≡ false = ap in_transaction stays in
      let lost : new.holds ≡ false = ap (λ (c : Core). c.holds) stays in
      rest a (subst (Keeps mid) (sym stays) refl) (lost ∙ sym free) (lost ∙ sym (ap (λ (c : Core). c.irrevocable) stays)) freed
      (λ o. absurd (true≢false (sym o ∙ shut))) (λ no. ap (λ (c : Core). c.restarted) stays) (λ call doing other. end_leaves mid new call actions (ap (λ (c : Core). c.actions) stays) shut runs)

  replied : (call : Call) (r : Replied) → ((other : Call) → mid.doing ≡ Some other → (IsRestart (Reply r) → ⊥) → LeavesActions mid other new) → Ways mid new call r → IsRest mid (Reply r) new
  replied call r acts (inl g) =
      let holds = ap (λ (c : Core). c.holds) g.stays in
      rest (Reply r) (subst (Keeps mid) (sym g.stays) refl) holds (holds ∙ (g.free ∙ sym (ap (λ (c : Core). c.irrevocable) g.stays ∙ g.revocable))) g.unfreed (λ o. inl (r, refl)) (λ no. ap (λ (c : Core). c.restarted) g.stays) acts
  replied call r acts (inr (inl g)) =
      let holds = ap (λ (c : Core). c.holds) g.stays in
      rest (Reply r) (subst (Keeps mid) (sym g.stays) refl) holds (holds ∙ (g.held ∙ sym (ap (λ (c : Core). c.irrevocable) g.stays))) g.unfreed (λ o. inl (r, refl)) (λ no. ap (λ (c : Core). c.restarted) g.stays) acts
  replied call r acts (inr (inr g)) =
      let holds = ap (λ (c : Core). c.holds) g.stays in
      rest (Reply r) (subst (Keeps mid) (sym g.stays) refl) holds (holds ∙ (g.held ∙ sym (ap (λ (c : Core). c.irrevocable) g.stays ∙ g.irrevocable))) g.unfreed (λ o. inl (r, refl)) (λ no. ap (λ (c : Core). c.restarted) g.stays) acts

  replied_to : (r : Replied) (o : Option Call) → mid.doing ≡ o → Ends mid (Reply r) new → IsRest mid (Reply r) new
  replied_to r None doing g = (let To : Option Call → Type 0 = λ o. RepliesTo mid o r new in absurd (subst To doing g))
  replied_to r (Some call) doing g =
      replied call r (λ other doing no. reply_leaves mid new other r (replied_so mid new other r (reply_cases mid new other r doing g))) (reply_cases mid new call r doing g)

  conflicted : (clock : ℕ) (word : Option ℕ) (inside : Bool) → ConflictsIn inside mid clock word new → IsRest mid (Conflict clock word) new
  conflicted clock word true g =
      over (Conflict clock word) new.stage new.tries mid.snapshot (arena_back mid.blocks mid.arena) (actions_back mid.blocks mid.actions) g.free g.unfreed (all_run mid.blocks mid.actions) g.stays
  conflicted clock word false g = over (Conflict clock word) new.stage new.tries mid.snapshot mid.arena mid.actions g.free g.unfreed (still 0 mid.actions) g.stays

  pub rests : (a : Answer) → Ends mid a new → IsRest mid a new
  rests (Reply r) g = replied_to r mid.doing refl g
  rests (Committed at wrote) g = over (Committed at wrote) new.stage new.tries mid.snapshot mid.arena (committed mid.actions) g.free g.freed (commits_run mid.actions) g.stays
  rests (Conflict clock word) g = conflicted clock word (in_transaction mid) g
  rests (Restarted clock word) g =
      let holds = ap (λ (c : Core). c.holds) g.stays in
      rest (Restarted clock word) (subst (Keeps mid) (sym g.stays) refl) holds (holds ∙ (g.free ∙ sym (ap (λ (c : Core). c.irrevocable) g.stays ∙ g.revocable))) g.unfreed (λ o. inr tt) (λ no. absurd (no tt)) (λ call doing no. absurd (no tt))
  rests (Busy clock) g = over (Busy clock) new.stage new.tries mid.snapshot mid.arena mid.actions g.free g.unfreed (still 0 mid.actions) g.stays
  rests (Full at) g =
      over (Full at) new.stage new.tries new.snapshot (arena_back mid.blocks mid.arena) (actions_back mid.blocks mid.actions) g.free g.unfreed (all_run mid.blocks mid.actions) g.stays

-- no action that has run is lost over a step either
pub runs_on : (mid new : Core) (call : Call) (what : Next) → mid.doing ≡ Some call → in_transaction mid ≡ true → Proceeds mid what new → RunsOn (registers call) mid.actions new.actions
runs_on mid new call (Asks step) doing o g = subst (RunsOn (registers call) mid.actions) (sym (ap (λ (c : Core). c.actions) g.stays)) (still (registers call) mid.actions)
runs_on mid new call (Answers (Restarted clock word)) doing o g =
    (let f = cancel_runs mid.blocks mid.actions in
    record { later = f.later; ran = ap (λ (c : Core). c.actions.ran) g.stays ∙ f.ran; most = (let n = f.most in let e = ap (λ (c : Core). total c.actions) g.stays in omega arith) })
runs_on mid new call (Answers a) doing o g = ((rests mid new a g).acts call doing (λ r. r)).runs o

-- ## As a call comes

-- outside a transaction none without a step ends one
ends_shut : (c : Core) (call : Call) → ending_at (record c { blocks = [] }) call ≡ None
ends_shut c (Begin props room) = refl
ends_shut c call = refl

none_ends : (a : Answer) → IsEnding None a → (r : Replied) × (a ≡ Reply r)
none_ends (Reply r) e = (r, refl)
none_ends a e = absurd e

pub replied_outside : (c : Core) (call : Call) (a : Answer) → in_transaction c ≡ false → EndsSo (ending_at c call) (Answers a) → (r : Replied) × (a ≡ Reply r)
replied_outside c call a shut e =
    let none = none_inside c.blocks shut in
    none_ends a (subst (λ (o : Option Answer). IsEnding o a) ((λ i. ending_at (record c { blocks = none i }) call) ∙ ends_shut c call) e)
