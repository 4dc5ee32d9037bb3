use Rattle.std.proofs.Common.{◌≡◌, ◌∙◌, ◌⊎◌, inl, inr, false, ◌+◌, ◌*◌, ◌%◌, ◌<◌, ap, subst}
use Rattle.tx_map.proofs.Common.{Does, slot_of, view_of, went_on}
use Rattle.tx_map.proofs.Finds.{Reads, stops_here, walks_on}
use Rattle.tx_map.proofs.Parts.{does_read, does_then}
use Rattle.tx_map.proofs.table.Table.find.Goals as goal
use Rattle.tx_map.proofs.table.Table.find.Goals.{then-pair-key-via-then-pair-key, then-pair-key-via-else-pair-key+then-pair-eq0}

pub returns-then-pair-key-clause-found : goal.returns-then-pair-key-clause-found
returns-then-pair-key-clause-found c =
    let t = c.args.self.now.slots in
    let tx = c.args.tx.now in
    let steps = c.loop-steps.steps in
    let pair = c.in_ok-pair.pair in
    let ends : (pair.0 ≡ c.args.key) ⊎ (pair.0 ≡ 0) = elim c.then-pair-key.branch [
      | then-pair-key-via-then-pair-key w ↦ inl w.if-pair-key.true
      | then-pair-key-via-else-pair-key+then-pair-eq0 w ↦ inr w.if-pair-eq0.true
    ] in
    let at : c.at-slot.result.place ≡ t.first + 8 * slot_of t.count c.args.key steps = c.at-slot.ensures ∙ ap (λ k. t.first + 8 * ((k + steps) % c.count.result)) c.from.ensures ∙ ap (λ n. t.first + 8 * ((c.args.key + steps) % n)) c.count.ensures in
    let read = does_read c.loop-steps.tx.words c.loop-steps.tx.thread c.read.new.tx.thread t.first (slot_of t.count c.args.key steps) c.at-slot.result.place pair at c.in_ok-pair.ensures.fits c.in_ok-pair.ensures.tells in
    does_then tx.words tx.thread c.loop-steps.tx.thread c.read.new.tx.thread false false _ _ _ (stops_here t.first t.count c.args.key steps c.at-slot.result pair (subst (λ n. steps < n) c.count-steps-end.ensures c.loop-steps-test.true) at ends) c.loop-steps.invariant.walks (subst (λ w. Does w c.loop-steps.tx.thread c.read.new.tx.thread false (Reads t.first (slot_of t.count c.args.key steps) pair)) c.loop-steps.invariant.kept.words read)

pub loop-steps-preserved : goal.loop-steps-preserved
loop-steps-preserved c =
    let t = c.args.self.now.slots in
    let tx = c.args.tx.now in
    let steps = c.loop-steps.steps in
    let pair = c.in_ok-pair.pair in
    let was = c.loop-steps.invariant.kept in
    let now = c.in_ok-pair.ensures.kept in
    let at : c.at-slot.result.place ≡ t.first + 8 * slot_of t.count c.args.key steps = c.at-slot.ensures ∙ ap (λ k. t.first + 8 * ((k + steps) % c.count.result)) c.from.ensures ∙ ap (λ n. t.first + 8 * ((c.args.key + steps) % n)) c.count.ensures in
    let read = does_read c.loop-steps.tx.words c.loop-steps.tx.thread c.read.new.tx.thread t.first (slot_of t.count c.args.key steps) c.at-slot.result.place pair at c.in_ok-pair.ensures.fits c.in_ok-pair.ensures.tells in
    record {
      kept = record { words = now.words ∙ was.words; mine_is = now.mine_is ∙ was.mine_is; went = went_on (view_of tx.thread.pass) (view_of c.loop-steps.tx.thread.pass) (view_of c.read.new.tx.thread.pass) was.went now.went };
      walks = does_then tx.words tx.thread c.loop-steps.tx.thread c.read.new.tx.thread false false _ _ _ (walks_on t.first t.count c.args.key steps pair c.if-pair-key.false c.if-pair-eq0.false) c.loop-steps.invariant.walks (subst (λ w. Does w c.loop-steps.tx.thread c.read.new.tx.thread false (Reads t.first (slot_of t.count c.args.key steps) pair)) was.words read);
    }
