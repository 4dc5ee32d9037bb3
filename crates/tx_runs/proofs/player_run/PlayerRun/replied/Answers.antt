use Rattle.std.proofs.Common.{false}
use Rattle.tx_runs.proofs.player_run.PlayerRun.replied.Goals as goal

pub returns-else-is_open-clause-taken : goal.returns-else-is_open-clause-taken
returns-else-is_open-clause-taken g c = rw (c.in-Some.ensures.value, c.if-is_open.false) (rw c.add.ensures at c.close.ensures.taken false c.args.arena.now)

pub returns-else-is_open-clause-joined : goal.returns-else-is_open-clause-joined
returns-else-is_open-clause-joined g c = rw (c.in-Some.ensures.value, c.if-is_open.false) (record { capacity = c.close.ensures.capacity; len = c.close.ensures.len false c.args.arena.now })

pub returns-then-is_begun-clause-places : goal.returns-then-is_begun-clause-places
returns-then-is_begun-clause-places g c = c.begun.ensures.places c.args.ran.now
