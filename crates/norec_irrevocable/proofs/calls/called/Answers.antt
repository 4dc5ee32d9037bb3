use Rattle.std.proofs.Common.{ℕ, Some, refl, sym, ap, ◌∙◌}
use Rattle.norec_irrevocable.proofs.calls.called.Goals as goal

pub returns-in-Log : goal.returns-in-Log
returns-in-Log c = c.log.ensures c.args.call.now (rw c.in-Log.is (ap (λ (n : ℕ). Some (c.in-Log.at, n)) (sym (c.from.ensures ∙ c.size.ensures.value))))

pub returns-in-LogBytes : goal.returns-in-LogBytes
returns-in-LogBytes c = c.log-in-LogBytes.ensures c.args.call.now (rw c.in-LogBytes.is refl)
