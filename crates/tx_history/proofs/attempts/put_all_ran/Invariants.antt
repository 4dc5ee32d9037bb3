use Rattle.std.proofs.Common.{All, take}
use Rattle.tx_history.proofs.Common.{RanFits, Spells, flat_map, ran_line}
use Rattle.tx_history.proofs.attempts.put_all_ran.Given as goal

abbrev pub invariant-loop-ran : goal.invariant-loop-ran
invariant-loop-ran g l = Spells g.W.Write.contents l.fn.page l.page (flat_map ran_line (take l.ran-index l.all)) (All RanFits (take l.ran-index l.all))
