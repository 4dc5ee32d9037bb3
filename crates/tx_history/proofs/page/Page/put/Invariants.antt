use Rattle.std.proofs.Common.{All, take}
use Rattle.tx_history.proofs.Common.{PieceFits, Spells, flat_map, spelled}
use Rattle.tx_history.proofs.page.Page.put.Given as goal

abbrev pub invariant-loop-piece : goal.invariant-loop-piece
invariant-loop-piece g l = Spells g.W.Write.contents l.fn.self l.self (flat_map spelled (take l.piece-index l.pieces)) (All PieceFits (take l.piece-index l.pieces))
