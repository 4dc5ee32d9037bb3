use Rattle.std.proofs.Common.{◌∙◌, ℕ, ◌+◌, ◌*◌, ◌%◌, arith, refl, subst, sym}
use Rattle.tx_map.proofs.Common.{HasWritten, view_of}
use Rattle.tx_map.proofs.Written.{none_written, some_on, written_on}
use Rattle.tx_map.proofs.write_all.Goals as goal

pub loop-n-init : goal.loop-n-init
loop-n-init c = record { words = refl; few = omega arith; written = none_written c.args.table.now.slots.first c.args.table.now.slots.count (32 * (c.args.thread % 4)) c.args.client.now.transaction }

pub loop-n-preserved : goal.loop-n-preserved
loop-n-preserved c =
    let t = c.args.table.now.slots in
    record {
      words = c.put_pair.ensures.words ∙ c.loop-n.invariant.words;
      few = omega (arith, c.loop-n.invariant.few, c.added-added.ensures.few);
      written = written_on t.first t.count (32 * (c.args.thread % 4)) c.loop-n.n 1 c.loop-n.added c.added-added.result (view_of c.args.client.now.transaction.thread.pass) (view_of c.loop-n.client.transaction.thread.pass) (view_of c.put_pair.new.client.transaction.thread.pass) c.loop-n.invariant.written (subst (λ (n : ℕ). HasWritten t.first t.count (32 * (c.args.thread % 4) + c.loop-n.n) 1 n c.loop-n.client.transaction c.put_pair.new.client.transaction) (sym c.added-added.ensures.is) c.in_ok-told.ensures.written);
    }

pub returns-in_err-told-clause-some : goal.returns-in_err-told-clause-some
returns-in_err-told-clause-some c =
    let t = c.args.table.now.slots in
    some_on t.first t.count (32 * (c.args.thread % 4)) c.loop-n.n 64 c.loop-n.added c.args.client.now.transaction c.loop-n.client.transaction c.put_pair.new.client.transaction (omega arith) c.loop-n.invariant.written c.put_pair.ensures.some

pub returns-clause-some : goal.returns-clause-some
returns-clause-some c = record { upto = c.loop-n.n; few = omega arith; added = c.loop-n.added; written = c.loop-n.invariant.written }
