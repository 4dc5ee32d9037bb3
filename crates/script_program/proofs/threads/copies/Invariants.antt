use Rattle.std.proofs.Common.{◌≡◌}
use Rattle.std.specs.List.{repeat}
use Rattle.script_program.proofs.threads.copies.Given as goal

abbrev pub invariant-loop : goal.invariant-loop
invariant-loop l = l.piece.items ≡ repeat l.counter l.group
