-- A reply within an open attempt, as its transaction becomes irrevocable, and once it is: over the memory of its position.
use Rattle.std.proofs.Common.{◌≡◌, ℕ, ◌<◌, ◌≤◌, Bool, true, false, true≢false, List, length, Some, sym, ap, subst, ◌∙◌, arith}
use Rattle.run_rules.proofs.Common.{Actions, Agrees, Attempt, Between, Call, Core, Enters, IsMemory, IsOpenTry, Obeys, ReadsFrom, RepliesHeld, Reply, Rules, Savepoint, State, after, backed, blocks_after, depth_after, in_transaction, inside_all, is_inside, is_open, ran_on, recoded, reply, savepoints_after, stands_for, told_plainly, whole_then, with_call}
use Rattle.run_rules.proofs.EngineStates.{stands_actions}
use Rattle.run_rules.proofs.TriesGoOn.{IsServed, goes_on}
use Rattle.run_rules.proofs.TriesReply.{deep_so, within_so}
use Rattle.run_rules.proofs.TriesTold.{open_so}

module _ {P : Type 0} {rules : Rules P} (laws : Obeys rules) {deepest : ℕ} {position : List ℕ} {b : Between P} {row : Attempt} {points : List Savepoint} {p : P} {mid : Core} (t : IsOpenTry rules deepest position b row points p mid)
    (next : List ℕ) (new : Core) (call : Call) (r : Reply) (asks : rules.next_call p ≡ Some call) where
  -- an irrevocable attempt reads one memory, so it is enough to know what comes of the call there
  holds_on : (within : 0 < depth_after (rules.depth p) call r) → IsServed laws t next new call r asks within next → new.irrevocable ≡ true → mid.snapshot ≤ new.snapshot → new.restarted ≡ mid.restarted
      → IsOpenTry rules deepest next b (record (with_call call r row) { ran = ran_on row.ran row.restarts new.actions.ran }) (savepoints_after points row (record { call = call; reply = r })) (rules.answered p r) new
  holds_on within served held later restarted =
      goes_on laws t next new call r asks within
      (λ m memory seen. subst (IsServed laws t next new call r asks within) (sym (subst (λ (i : Bool). ReadsFrom i next new.log m) held seen)) served) next served later restarted
      (λ i. absurd (true≢false (sym held ∙ i))) (λ i. absurd (true≢false (sym held ∙ i))) (λ i. absurd (true≢false (sym held ∙ i)))

  -- it becomes irrevocable
  pub enters_on : Enters mid call r new → mid.depth ≡ deepest → mid.again ≡ false → in_transaction mid ≡ true → in_transaction new ≡ true → IsMemory mid.words next → Agrees next mid.log
      → IsOpenTry rules deepest next b (record (with_call call r row) { ran = ran_on row.ran row.restarts new.actions.ran }) (savepoints_after points row (record { call = call; reply = r })) (rules.answered p r) new
  enters_on g depth first inside now memory agrees =
      let same : stands_for mid next ≡ whole_then deepest row next row.calls.list = t.stands g.revocable next memory agrees in
      let reads : ReadsFrom mid.irrevocable position mid.log next = subst (λ (i : Bool). ReadsFrom i position mid.log next) (sym g.revocable) agrees in
      let now_so : is_inside (blocks_after mid call r) ≡ true = sym (inside_all (blocks_after mid call r)) ∙ (sym (ap in_transaction g.stays) ∙ now) in
      let still : mid.snapshot ≤ new.snapshot = omega (arith, ap (λ (c : Core). c.snapshot) g.stays) in
      let left : stands_for new (backed mid next) ≡ after deepest (whole_then deepest row next row.calls.list) call = g.meets next memory agrees ∙ (λ i. after (depth i) (same i) call) in
      holds_on (within_so laws t call r (deep_so laws t g.revocable inside) now_so)
      (record {
        replied = record {
          memory = memory;
          reads = reads;
          still_open = open_so t next memory reads g.revocable inside;
          replied = g.reply_is next ∙ (ap (λ (a : Bool). recoded call a (reply mid.depth (stands_for mid next) call)) first ∙ (told_plainly call (reply mid.depth (stands_for mid next) call) ∙ (λ i. reply (depth i) (same i) call)));
        };
        ran = sym (ap (λ (a : Actions). a.ran) (stands_actions new (backed mid next))) ∙ ap (λ (s : State). s.actions.ran) left;
      })
      (ap (λ (c : Core). c.irrevocable) g.stays) still (ap (λ (c : Core). c.restarted) g.stays)

  -- it is irrevocable, and the call's reply, and what has come to run after it, are those over the memory of its position
  pub held_on : RepliesHeld mid call r new → rules.depth p ≡ length mid.blocks → in_transaction mid ≡ true → IsMemory mid.words next → next ≡ position → is_open (whole_then deepest row next row.calls.list) ≡ true
      → r ≡ reply deepest (whole_then deepest row next row.calls.list) call → new.actions.ran ≡ (after deepest (whole_then deepest row next row.calls.list) call).actions.ran
      → IsOpenTry rules deepest next b (record (with_call call r row) { ran = ran_on row.ran row.restarts new.actions.ran }) (savepoints_after points row (record { call = call; reply = r })) (rules.answered p r) new
  held_on g deep inside memory here still_open replied ran =
      let now_so : is_inside (blocks_after mid call r) ≡ true = sym (ap in_transaction g.stays) ∙ g.still inside in
      let still : mid.snapshot ≤ new.snapshot = omega (arith, ap (λ (c : Core). c.snapshot) g.stays) in
      holds_on (within_so laws t call r deep now_so)
      (record { replied = record { memory = memory; reads = subst (λ (i : Bool). ReadsFrom i position mid.log next) (sym g.irrevocable) here; still_open = still_open; replied = replied }; ran = ran })
      (ap (λ (c : Core). c.irrevocable) g.stays ∙ g.irrevocable) still (ap (λ (c : Core). c.restarted) g.stays)
