use Rattle.std.proofs.Common.{◌≡◌, ◌<◌, ◌^◌, drop}
use Rattle.script_fields.proofs.Common.{value_after}
use Rattle.script_fields.proofs.numbers.value_of.Given as goal

abbrev pub invariant-loop-b : goal.invariant-loop-b
invariant-loop-b l = (value_after l.total (drop l.b-index l.field) ≡ value_after 0 l.field) × (l.total < 2 ^ 64)
