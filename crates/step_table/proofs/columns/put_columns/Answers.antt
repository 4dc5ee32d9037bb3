use Rattle.step_table.proofs.Common.{column_text}
use Rattle.step_table.proofs.Texts.{all_texts, more_texts, no_texts, puts_cut, texts_stop}
use Rattle.step_table.proofs.columns.put_columns.Goals as goal

pub loop-thread-init : goal.loop-thread-init
loop-thread-init g c = no_texts (column_text c.args.event) _ c.args.threads.now

pub loop-thread-preserved : goal.loop-thread-preserved
loop-thread-preserved g c = more_texts (column_text c.args.event) _ _ _ c.args.threads.now c.loop-thread.thread-index _ c.loop-thread-test.true c.loop-thread.invariant c.in_ok-put_column.ensures

pub returns-in_err-put_column : goal.returns-in_err-put_column
returns-in_err-put_column g c = puts_cut _ _ _ _ c.from_residual.ensures.0 (texts_stop (column_text c.args.event) _ _ _ c.args.threads.now c.loop-thread.thread-index _ c.loop-thread-test.true c.loop-thread.invariant c.in_err-put_column.ensures)

pub returns : goal.returns
returns g c = all_texts (column_text c.args.event) _ _ c.args.threads.now c.loop-thread.thread-index c.loop-thread-test.false c.loop-thread.invariant
