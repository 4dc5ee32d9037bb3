-- A call outside a transaction that leaves none open.
use Rattle.std.proofs.Common.{◌≡◌, ℕ, Bool, true, false, true≢false, List, [], length, Some, refl, sym, ap, subst, ◌∙◌, arith}
use Rattle.worker_rules.proofs.Common.{Account, Answer, AnswerFits, Busy, Committed, Conflict, Core, Course, Full, IsMemory, IsNested, IsRunning, Obeys, Replied, Reply, Restarted, Rules, Served, Stands, Start, View, after, alone_outside, answer_fits, before_past, call_begins, deep_of, false_from_ne_true, in_transaction, is_begin, is_inside, none_inside, outside, plain_reply, reply, rests, served_outside, shut_revocable, stays_outside, was_open}
use Rattle.worker_rules.{proofs.Machines.LastEvents.IsLast, proofs.Runs.LaterRuns.stays_closed, proofs.Shapes.RunsTo}

-- the player has no block open either
pub nested_outside : {P : Type 0} {rules : Rules P} {c : Course P} {v : View} {e : Core} {t : Account P} → IsRunning rules c v e t → in_transaction e ≡ false → IsNested rules false t.player
nested_outside {rules = rules} {t = t} running shut = subst (λ (b : Bool). IsNested rules b t.player) shut running.nested

module _ (s : Start) (v : View) (e : Core) (shut_before : in_transaction s.engine ≡ false) where
  shut_mid : {a : Answer} (last : IsLast s v a e) → in_transaction last.mid ≡ false
  shut_mid last = ap is_inside last.is_mid.kept.blocks ∙ shut_before

  fits : (a : Answer) (last : IsLast s v a e) → AnswerFits false (length last.mid.blocks) (in_transaction e) (length e.blocks) s.call a
  fits a last = subst (λ (b : Bool). AnswerFits b (length last.mid.blocks) (in_transaction e) (length e.blocks) s.call a) (shut_mid last) (answer_fits last.mid e last.is_mid.settled s.call a last.is_mid.kept.doing last.ends)

  -- one that begins no block is given a reply
  module _ (other : is_begin s.call ≡ false) where
    pub only_replies : (a : Answer) → Served s a v e → IsLast s v a e → (r : Replied) × (a ≡ Reply r)
    only_replies (Reply r) served last = (r, refl)
    only_replies (Committed at wrote) served last = absurd (true≢false (sym (fits (Committed at wrote) last).0))
    only_replies (Conflict clock word) served last = absurd (true≢false (sym ((fits (Conflict clock word) last).0 refl) ∙ other))
    only_replies (Restarted clock word) served last = absurd (true≢false (sym (fits (Restarted clock word) last).0))
    only_replies (Busy clock) served last = absurd (true≢false (sym (call_begins s.call served.tells.begins) ∙ other))
    only_replies (Full at) served last = absurd (true≢false (sym ((fits (Full at) last).0 refl) ∙ other))

    -- and no transaction is opened
    pub stays_shut : (r : Replied) → IsLast s v (Reply r) e → in_transaction e ≡ false
    stays_shut r last =
        false_from_ne_true (in_transaction e)
        (λ now. true≢false (sym (was_open false (in_transaction e) (length last.mid.blocks) (length e.blocks) s.call r (ap length (none_inside last.mid.blocks (shut_mid last))) (deep_of e.blocks) (λ w. other) (fits (Reply r) last).0 now)))

-- ## The run goes on

module _ {P : Type 0} {rules : Rules P} (laws : Obeys rules) (c : Course P) (s : Start) (t : Account P) (v : View) (e : Core)
    (running : IsRunning rules c s.view s.engine t) (before : Stands s.view s.engine) (asks : rules.next_call t.player ≡ Some s.call) (shut_before : in_transaction s.engine ≡ false) where
  -- after a reply that leaves none open: the call began no block, or was refused
  pub passes : (r : Replied) → Served s (Reply r) v e → IsLast s v (Reply r) e → in_transaction e ≡ false → RunsTo rules c v e (record t { player = rules.answered t.player r; stage = outside })
  passes r served last shut =
      let was = running.outside shut_before in
      let k = last.is_mid.kept in
      let some = last.is_mid.settled.agreed in
      let plain : (stays_outside c.depth s.engine.arena s.call ≡ true) × (r ≡ reply c.depth (alone_outside [] s.engine.arena) s.call) × (e.arena ≡ (after c.depth (alone_outside [] s.engine.arena) s.call).arena) =
      subst (λ (x : ℕ × List ℕ). (stays_outside x.0 x.1 s.call ≡ true) × (r ≡ reply x.0 (alone_outside [] x.1) s.call) × (e.arena ≡ (after x.0 (alone_outside [] x.1) s.call).arena)) (λ i. ((k.depth ∙ running.deepest) i, k.arena (shut_revocable s.engine before.settled shut_before) i))
      (served_outside last.mid e s.call r some.0 (plain_reply last.mid e s.call r k.doing last.is_mid.settled shut last.ends) (shut_mid s v e shut_before last) shut (subst (λ (n : ℕ). IsMemory n some.0) (rests last.mid e (Reply r) last.ends).words some.1) some.2) in
      stays_closed running served.went served.mine shut_before shut (rules.answered t.player r) t.nth (before_past was.before s.call asks plain.0 (ap (rules.answered t.player) plain.1) plain.2) (omega (arith, was.looked, served.went.looks))
