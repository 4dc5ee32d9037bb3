use Rattle.std.proofs.Common.{◌≡◌, drop, map}
use Rattle.script_fields.proofs.Common.{lookup, row}
use Rattle.script_fields.proofs.names.lookup.Given as goal

abbrev pub invariant-loop-name : goal.invariant-loop-name
invariant-loop-name g l = lookup (map row (drop l.name-index l.rows)) l.field ≡ lookup (map row l.rows) l.field
