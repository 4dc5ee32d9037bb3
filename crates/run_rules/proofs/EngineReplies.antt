-- What an engine replies: what its player knows of it, and what a reply tells that leaves no transaction open.
use Rattle.std.proofs.Common.{◌≡◌, ℕ, Bool, true, false, List, [], length, replicate, Option, None, Some, sym, ap, subst, inl, inr, refl, true≢false, ◌∙◌}
use Rattle.run_rules.proofs.Common.{Abort, Agrees, Begin, Call, Code, Commit, Core, Done, Ends, IsMemory, IsSettled, Outside, Props, Refusal, Replied, Replies, Reply, State, after, blocks_after, in_transaction, is_inside, is_open, lt-ltb, none_inside, or_else, recoded, refusal, reply, reply_cases, reply_held, reply_unless, shut_revocable, stands_for, state_in, state_over, unless}
use Rattle.tx_player.specs.Replies.{MayReply}
use Rattle.run_rules.proofs.EngineStates.{stands_blocks}

-- ## The replies of the plain machine

begin_may : (props : Props) (room depth : ℕ) (again : Bool) (why : Option Refusal) → MayReply depth (Begin props room) (recoded (Begin props room) again (reply_unless why (Code 5)))
begin_may props room depth true None = tt
begin_may props room depth false None = tt
begin_may props room depth true (Some why) = tt
begin_may props room depth false (Some why) = tt

-- an open block's commit is answered so
pub commit_reply : (deepest : ℕ) (s : State) → is_open s ≡ true → Done ≡ reply deepest s Commit
commit_reply deepest s o = sym (ap (λ (b : Bool). reply_unless (or_else (unless b Outside) None) Done) o)

machine_may : (deepest : ℕ) (s : State) (call : Call) (again : Bool) → MayReply (length s.blocks) call (recoded call again (reply deepest s call))
machine_may deepest s (Begin props room) again = begin_may props room (length s.blocks) again (refusal deepest s (Begin props room))
machine_may deepest s Commit again = λ some. sym (commit_reply deepest s (lt-ltb 0 (length s.blocks) some))
machine_may deepest s call again = tt

-- ## Those of an engine

module _ (mid new : Core) (r : Reply) where
  by_state : (call : Call) (m : List ℕ) (again : Bool) → r ≡ recoded call again (reply mid.depth (stands_for mid m) call) → MayReply (length mid.blocks) call r
  by_state call m again is = subst (λ (d : ℕ). MayReply d call r) (stands_blocks mid m) (subst (MayReply (length (stands_for mid m).blocks) call) (sym is) (machine_may mid.depth (stands_for mid m) call again))

  in_held : (call : Call) → r ≡ reply_held mid call → MayReply (length mid.blocks) call r
  in_held (Begin props room) is = by_state (Begin props room) (replicate mid.words 0) false is
  in_held Commit is = by_state Commit (replicate mid.words 0) false is
  in_held call is = tt

  pub engine_may : (call : Call) → mid.doing ≡ Some call → IsSettled new → Ends mid (Replied r) new → MayReply (length mid.blocks) call r
  engine_may call doing settled g = elim (reply_cases mid new call r doing g) [
    | inl w ↦ (let m = settled.agreed in by_state call m.0 mid.again (w.reply_is m.0 (subst (λ (n : ℕ). IsMemory n m.0) (ap (λ (c : Core). c.words) w.stays) m.1) m.2))
    | inr (inl w) ↦ by_state call [] mid.again (w.reply_is [])
    | inr (inr w) ↦ in_held call w.reply_is
  ]

-- ## A reply that leaves no transaction open

-- it is one of a transaction that is not irrevocable
pub plain_reply : (mid new : Core) (call : Call) (r : Reply) → mid.doing ≡ Some call → IsSettled new → in_transaction new ≡ false → Ends mid (Replied r) new → Replies mid call r new
plain_reply mid new call r doing s shut g = elim (reply_cases mid new call r doing g) [
  | inl g ↦ g
  | inr (inl g) ↦ absurd (true≢false (sym (ap (λ (c : Core). c.irrevocable) g.stays) ∙ shut_revocable new s shut))
  | inr (inr g) ↦ absurd (true≢false (sym (ap (λ (c : Core). c.irrevocable) g.stays ∙ g.irrevocable) ∙ shut_revocable new s shut))
]

-- it ends one only where the call is an abort
pub cancels : (mid new : Core) (call : Call) (r : Reply) (m : List ℕ) → Replies mid call r new → in_transaction mid ≡ true → in_transaction new ≡ false → IsMemory mid.words m → Agrees m new.log
    → (outer : Bool) × (call ≡ Abort outer) × (r ≡ Code 24)
cancels mid new (Abort outer) r m g inside closed mem agrees = by_refusal (refusal mid.depth (stands_for mid m) (Abort outer)) (g.reply_is m mem agrees) g
  where
    by_refusal : (o : Option Refusal) → r ≡ reply_unless o (Code 24) → Replies mid (Abort outer) r new → (out : Bool) × (Abort outer ≡ Abort out) × (r ≡ Code 24)
    by_refusal None e g = (outer, refl, e)
    by_refusal (Some why) e g = absurd (true≢false (sym inside ∙ (sym (ap is_inside (g.blocks ∙ ap (blocks_after mid (Abort outer)) e)) ∙ closed)))
cancels mid new call r m g inside closed mem agrees = absurd (true≢false (sym (g.still refl inside) ∙ closed))

-- the plain state then
pub cancelled : (mid new : Core) (call : Call) (r : Reply) (m : List ℕ) → Replies mid call r new → in_transaction new ≡ false → new.writes ≡ [] → IsMemory mid.words m → Agrees m new.log
    → (is_open (after mid.depth (stands_for mid m) call) ≡ false) × ((after mid.depth (stands_for mid m) call).wrote ≡ false)
cancelled mid new call r m g closed empty mem agrees =
    let state : stands_for new m ≡ after mid.depth (stands_for mid m) call = g.meets m mem agrees in
    let revocable : new.irrevocable ≡ false = ap (λ (c : Core). c.irrevocable) g.stays ∙ g.revocable in
    let here : stands_for new m ≡ state_over [] [] new.arena new.actions m = λ i. state_in (revocable i) (empty i) (none_inside new.blocks closed i) new.arena new.actions m in
    (ap is_open (sym state ∙ here), ap (λ (s : State). s.wrote) (sym state ∙ here))
