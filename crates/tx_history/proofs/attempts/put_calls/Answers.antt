use Rattle.tx_history.proofs.Common.{EntryFits, call_line}
use Rattle.tx_history.proofs.AppendedTexts.{spells_all, spells_next, spells_none}
use Rattle.tx_history.proofs.attempts.put_calls.Goals as goal

pub loop-entry-init : goal.loop-entry-init
loop-entry-init g c = spells_none call_line EntryFits _ c.args.calls.now

pub loop-entry-preserved : goal.loop-entry-preserved
loop-entry-preserved g c = spells_next call_line EntryFits _ _ _ c.args.calls.now c.loop-entry.entry-index _ c.loop-entry-test.true c.loop-entry.invariant (rw c.entry-item.is at c.put_call.ensures)

pub returns : goal.returns
returns g c = spells_all call_line EntryFits _ _ c.args.calls.now c.loop-entry.entry-index c.loop-entry.invariant c.loop-entry-test.false
