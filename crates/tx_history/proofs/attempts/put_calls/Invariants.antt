use Rattle.std.proofs.Common.{All, take}
use Rattle.tx_history.proofs.Common.{EntryFits, Spells, call_line, flat_map}
use Rattle.tx_history.proofs.attempts.put_calls.Given as goal

abbrev pub invariant-loop-entry : goal.invariant-loop-entry
invariant-loop-entry g l = Spells g.W.Write.contents l.fn.page l.page (flat_map call_line (take l.entry-index l.calls)) (All EntryFits (take l.entry-index l.calls))
