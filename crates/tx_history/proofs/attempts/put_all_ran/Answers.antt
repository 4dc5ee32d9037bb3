use Rattle.tx_history.proofs.Common.{RanFits, ran_line}
use Rattle.tx_history.proofs.AppendedTexts.{spells_all, spells_next, spells_none}
use Rattle.tx_history.proofs.attempts.put_all_ran.Goals as goal

pub loop-ran-init : goal.loop-ran-init
loop-ran-init g c = spells_none ran_line RanFits _ c.args.all.now

pub loop-ran-preserved : goal.loop-ran-preserved
loop-ran-preserved g c = spells_next ran_line RanFits _ _ _ c.args.all.now c.loop-ran.ran-index _ c.loop-ran-test.true c.loop-ran.invariant c.put_ran.ensures

pub returns : goal.returns
returns g c = spells_all ran_line RanFits _ _ c.args.all.now c.loop-ran.ran-index c.loop-ran.invariant c.loop-ran-test.false
