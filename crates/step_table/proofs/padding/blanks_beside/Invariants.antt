use Rattle.std.proofs.Common.{◌≡◌, ◌-◌, length, take, flat_map}
use Rattle.step_table.proofs.Common.{spelled}
use Rattle.step_table.proofs.padding.blanks_beside.Given as goal

abbrev pub invariant-loop-piece : goal.invariant-loop-piece
invariant-loop-piece l = l.left ≡ l.width - length (flat_map spelled (take l.piece-index l.pieces))
