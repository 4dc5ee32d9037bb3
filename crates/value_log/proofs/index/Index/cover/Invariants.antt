use Rattle.std.proofs.Common.{◌≡◌, length, take}
use Rattle.value_log.proofs.Common.{IsIndex}
use Rattle.value_log.proofs.index.Index.cover.Given as goal

abbrev pub invariant-loop-place : goal.invariant-loop-place
invariant-loop-place l = IsIndex l.self.last.items l.self.before.items (take l.place l.rows)
    × (length l.self.last.items ≡ length l.initial.self.last.items) × (length l.self.before.items ≡ length l.initial.self.before.items)
