use Rattle.std.proofs.Common.{subst}
use Rattle.run_commands.proofs.Common.{History, HistoryFits, Writes, flushed, history_text}
use Rattle.run_commands.proofs.on_threads.put_history.Goals as goal

pub returns-clause-text : goal.returns-clause-text
returns-clause-text g c =
    subst (λ (h : History). Writes (g.W.Write.contents c.args.writer.now) (g.W.Write.contents c.flush.new.self) c.flush.result (history_text h))
    (λ i. record { version = c.args.history.now.version; memory = c.as_slice.ensures i; attempts = c.as_slice-2.ensures i; clock = c.args.history.now.clock; bytes = c.as_slice-3.ensures i })
    (flushed _ _ _ c.flush.result _ c.in_ok-write_history.ensures.written c.flush.ensures.bytes)

pub returns-clause-fits : goal.returns-clause-fits
returns-clause-fits g c =
    subst HistoryFits (λ i. record { version = c.args.history.now.version; memory = c.as_slice.ensures i; attempts = c.as_slice-2.ensures i; clock = c.args.history.now.clock; bytes = c.as_slice-3.ensures i }) c.write_history.ensures.fits

pub returns-in_err-write_history-clause-fits : goal.returns-in_err-write_history-clause-fits
returns-in_err-write_history-clause-fits g c =
    subst HistoryFits (λ i. record { version = c.args.history.now.version; memory = c.as_slice.ensures i; attempts = c.as_slice-2.ensures i; clock = c.args.history.now.clock; bytes = c.as_slice-3.ensures i }) c.write_history.ensures.fits
