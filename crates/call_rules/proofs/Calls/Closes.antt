-- The call is answered: what holds of the thread then, whatever the answer.
use Rattle.std.proofs.Common.{◌≡◌, ℕ, suc, ◌/◌, ◌&&◌, not, nat_lt, Bool, true, false, List, [], length, None, Some, IsSome, if◌then◌else◌, refl, sym, ap, subst, ◌∙◌, arith}
use Rattle.call_rules.proofs.Common.{Agrees, Answer, Begin, Call, Closes, Commit, Core, IsMemory, IsOver, IsRest, IsRestart, IsUndone, Mode, Reads, Served, Stands, Start, Tells, View, WantsClock, after, agrees_less, in_transaction, irrevocable_room, is_inside, may_go, memory_of, mine_after, stands_for, starts_le, state_in, state_over, stays_revocable, take_all, undone}
use Rattle.norec_core.proofs.Engines.Blocks.{none_inside}
use Rattle.call_rules.proofs.Steps.CallsInHand.{IsMid}

module _ (s : Start) (w : View) (mid new : Core) (m : IsMid s w mid new) where
  pub open_then : in_transaction s.engine ≡ true → in_transaction mid ≡ true
  open_then o = ap is_inside m.kept.blocks ∙ o

  pub mode_then : s.engine.irrevocable ≡ mid.irrevocable
  mode_then = sym m.kept.irrevocable

  module _ {a : Answer} (r : IsRest mid a new) where
    reads : in_transaction new ≡ true → Reads w new
    reads o =
        let c = m.clocks o in
        let clock : mid.clock ≡ new.snapshot = sym r.clock ∙ (m.settled.inside r.idle o).0 in
        record { clock = c.clock ∙ clock; count = c.count ∙ ap (λ (n : ℕ). n / 2) clock; agrees = m.logged o }

    stands : Stands w new
    stands = let behind = m.behind in let known = m.known in let clock = r.clock in record {
      over = subst (λ (n : ℕ). IsOver (suc n) w) (sym r.words) m.over;
      holds = m.holds ∙ sym r.held;
      mode = r.holds;
      waits = r.idle;
      behind = omega arith;
      known = omega arith;
      settled = m.settled;
      reads = reads;
    }

    served : Tells s a w new → w.mine ≡ mine_after s.view.mine a → Served s a w new
    served tells mine = let within = m.spent in let spent = r.spent in record {
      tells = tells;
      mine = mine;
      went = m.went;
      rises = (let a = m.rises in let b = r.clock in omega arith);
      grows = λ o o' stays. m.grows o o' (r.restarted stays);
      opens = λ o o'. (let count = (reads o').count in let longer = starts_le w.seen s.view.seen m.went.grows in record { looks = m.opens o o'; seen = omega arith });
      steps = (let a = m.steps in omega arith);
      at_once = λ z. ((m.idle z).1, (m.idle z).2);
      fixed = m.fixed;
      within = omega arith;
      words = r.words ∙ m.kept.words;
      limits = (r.max_commits ∙ m.kept.max_commits, r.patience ∙ m.kept.patience, r.depth ∙ m.kept.depth, r.restarts ∙ m.kept.restarts);
    }

    pub answered_so : Tells s a w new → w.mine ≡ mine_after s.view.mine a → Served s a w new × Stands w new
    answered_so tells mine = (served tells mine, stands)

    -- no transaction is open
    pub closes : (IsRestart a → ⊥) → (at : ℕ) → in_transaction new ≡ false → at ≡ new.snapshot / 2 → Closes s at w new
    closes stays at closed is =
        let reached = m.settled.reached in
        let clock = r.clock in
        let known = m.known in
        record {
          closed = closed;
          at_is = is;
          seen = omega arith;
          late = λ o. (m.before (open_then o)).late;
          agrees = λ o. (let b = m.before (open_then o) in
              agrees_less (memory_of w at) s.engine.log b.log.0
              (subst (Agrees (memory_of w at)) b.log.1 (subst (λ (n : ℕ). Agrees (memory_of w n) mid.log) (sym is) (b.agrees (r.restarted stays)))));
        }

  -- what the engine stood for as the call came
  pub same : s.engine.irrevocable ≡ false → (x : List ℕ) → stands_for mid x ≡ stands_for s.engine x
  same revocable x = λ i. state_in (m.kept.irrevocable i) (m.kept.writes i) (m.kept.blocks i) (m.kept.arena revocable i) (m.kept.actions i) x

  pub to_mid : (x : List ℕ) → IsMemory s.engine.words x → IsMemory mid.words x
  to_mid x f = (f.0 ∙ sym m.kept.words, f.1)

  -- the memory of the position that the snapshot was left at, where all that was seen is before it
  pub whole : (k : ℕ) → length w.seen ≡ k → memory_of w k ≡ after w.base w.seen
  whole k long = ap (after w.base) (take_all k w.seen (omega arith))

  -- the log that an open transaction has, or none
  pub read_so_far : new.restarted ≡ mid.restarted → (b : Bool) → in_transaction mid ≡ b → Agrees (memory_of w (new.snapshot / 2)) mid.log
  read_so_far same true o = (m.before o).agrees same
  read_so_far same false c = subst (Agrees (memory_of w (new.snapshot / 2))) (sym (m.empty c)) tt

  -- a block was opened by nobody, so nothing is rolled back
  pub undone_shut : in_transaction s.engine ≡ false → s.engine.irrevocable ≡ false → new.irrevocable ≡ false → new.writes ≡ [] → new.blocks ≡ [] → new.arena ≡ mid.arena → new.actions ≡ mid.actions → IsUndone s new
  undone_shut shut revocable mode writes blocks arena actions x f =
      let none : s.engine.blocks ≡ [] = none_inside s.engine.blocks shut in
      let now : stands_for new x ≡ state_over [] [] s.engine.arena s.engine.actions x = λ i. state_in (mode i) (writes i) (blocks i) ((arena ∙ m.kept.arena revocable) i) ((actions ∙ m.kept.actions) i) x in
      let was : stands_for s.engine x ≡ state_over [] [] s.engine.arena s.engine.actions x = λ i. state_in (revocable i) ((m.shut shut).writes i) (none i) s.engine.arena s.engine.actions x in
      now ∙ sym (ap undone was)

  -- ## The wish for the clock

  goes_same : (call : Call) → irrevocable_room mid call ≡ irrevocable_room s.engine call
  goes_same (Begin props room) = λ i. if props.goes_irrevocable && may_go (m.kept.blocks i) props && nat_lt (length (m.kept.blocks i)) (m.kept.depth i) && not (m.kept.irrevocable i) then Some room else None
  goes_same (Mode room) = λ i. if is_inside (m.kept.blocks i) && not (stays_revocable (m.kept.blocks i)) && not (m.kept.irrevocable i) then Some room else None
  goes_same call = refl

  pub wants_same : (call : Call) → WantsClock mid (Some call) → WantsClock s.engine (Some call)
  wants_same Commit wants = (ap length (sym m.kept.blocks) ∙ wants.0, λ none. wants.1 (m.kept.writes ∙ none))
  wants_same call wants = subst IsSome (goes_same call) wants
