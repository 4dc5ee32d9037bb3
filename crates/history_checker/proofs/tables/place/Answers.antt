use Rattle.std.proofs.Common.{◌≡◌, ◌+◌, ◌||◌, ℕ, true, false, List, Option, None, Some, nat_le, is_some, length, take, get_or, ap, sym, ◌∙◌, subst, Vec, Global}
use Rattle.history_checker.proofs.Common.{AreSlots, Attempt, Fault, is_committed, set}
use Rattle.history_checker.proofs.Steps.Tables.{position_next, position_here, slots_same, slots_next, placed_free, misplaced_here, unplaced_here}
use Rattle.history_checker.proofs.tables.place.Goals as goal
use Rattle.history_checker.proofs.tables.place.Goals.{then-is_committed+else-is_taken, else-is_committed}

pub returns-then-is_taken-clause-fault : goal.returns-then-is_taken-clause-fault
returns-then-is_taken-clause-fault c =
    let ts = c.args.attempts.now in
    let i = c.loop-i.i in
    let a = c.index-attempts-i.result in
    let committed : is_committed a.outcome ≡ true = sym c.is_committed.ensures ∙ c.if-is_committed.true in
    let taken : (nat_le (length c.loop-i.slots.items) a.at || is_some (get_or c.loop-i.slots.items a.at None)) ≡ true =
    ap (λ (xs : List (Option ℕ)). nat_le (length xs) a.at || is_some (get_or xs a.at None)) (sym c.deref.ensures.value) ∙ (sym c.is_taken.ensures ∙ c.if-is_taken.true) in
    let bad = misplaced_here c.args.count ts i a c.loop-i.slots.items c.index-attempts-i.is committed true taken c.loop-i.invariant.slots in
    ap (λ (f : Fault). Some (record { attempt = i; fault = f })) c.head.ensures
    ∙ sym (c.loop-i.invariant.fault ∙ position_here c.args.count ts i a c.loop-i-test.true bad)

pub loop-i-preserved : goal.loop-i-preserved
loop-i-preserved c =
    let ts = c.args.attempts.now in
    let i = c.loop-i.i in
    let a = c.index-attempts-i.result in
    let old = c.loop-i.slots.items in
    elim c.if-is_committed.branch [
      | then-is_committed+else-is_taken w ↦
          let committed : is_committed a.outcome ≡ true = sym c.is_committed.ensures ∙ w.if-is_committed.true in
          let taken : (nat_le (length old) a.at || is_some (get_or old a.at None)) ≡ false =
          ap (λ (xs : List (Option ℕ)). nat_le (length xs) a.at || is_some (get_or xs a.at None)) (sym w.deref.ensures.value) ∙ (sym w.is_taken.ensures ∙ w.if-is_taken.false) in
          let free : get_or old a.at None ≡ None = (placed_free old a.at taken).1 in
          let there : is_committed (get_or ts i a).outcome ≡ true = ap (λ (x : Attempt). is_committed x.outcome) (sym c.index-attempts-i.is) ∙ committed in
          let free_there : get_or old (get_or ts i a).at None ≡ None = ap (λ (x : Attempt). get_or old x.at None) (sym c.index-attempts-i.is) ∙ free in
          let slots : c.if-is_committed.slots.items ≡ set old (get_or ts i a).at (Some i) =
          ap (λ (v : Vec (Option ℕ) Global). v.items) w.slots-is ∙ (w.exchange.ensures.new ∙ ap (λ (x : Attempt). set old x.at (Some i)) c.index-attempts-i.is) in
          record {
            fault = c.loop-i.invariant.fault ∙ position_next c.args.count ts i a c.loop-i-test.true (misplaced_here c.args.count ts i a old c.index-attempts-i.is committed false taken c.loop-i.invariant.slots);
            slots = subst (AreSlots c.args.count (take (i + 1) ts)) (sym slots) (slots_next c.args.count ts i a old c.loop-i-test.true there free_there c.loop-i.invariant.slots);
          }
      | else-is_committed w ↦
          let not_committed : is_committed a.outcome ≡ false = sym c.is_committed.ensures ∙ w.if-is_committed.false in
          let there : is_committed (get_or ts i a).outcome ≡ false = ap (λ (x : Attempt). is_committed x.outcome) (sym c.index-attempts-i.is) ∙ not_committed in
          record {
            fault = c.loop-i.invariant.fault ∙ position_next c.args.count ts i a c.loop-i-test.true (unplaced_here c.args.count ts i a c.index-attempts-i.is not_committed);
            slots = subst (λ (v : Vec (Option ℕ) Global). AreSlots c.args.count (take (i + 1) ts) v.items) (sym w.slots-is) (slots_same c.args.count ts i a old c.loop-i-test.true there c.loop-i.invariant.slots);
          }
    ]
