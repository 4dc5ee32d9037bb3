use Rattle.std.proofs.Common.{◌≤◌, length}
use Rattle.value_log.proofs.Common.{IsLast}
use Rattle.value_log.proofs.IndexedRows.{StandsBefore}
use Rattle.value_log.proofs.index.Index.find.Given as goal

abbrev pub invariant-loop-place : goal.invariant-loop-place
invariant-loop-place l = (l.end ≤ length l.rows) × IsLast (length l.self.last.items) l.rows l.slot l.end l.place × StandsBefore l.rows l.word l.end

abbrev pub decreases-loop-place : goal.decreases-loop-place
decreases-loop-place l = l.end
