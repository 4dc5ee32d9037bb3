use Rattle.std.proofs.Common.{◌≡◌, map, take}
use Rattle.run_commands.proofs.Common.{opening, threads_of}
use Rattle.run_commands.proofs.running.players.Given as goal

abbrev pub invariant-loop-thread : goal.invariant-loop-thread
invariant-loop-thread l = l.players.items ≡ map (opening l.program.limits.depth) (take l.thread (threads_of l.program))
