use Rattle.std.proofs.Common.{◌+◌, ◌-◌, ◌*◌}
use Rattle.norec_accesses.proofs.Common.{count}
use Rattle.norec_accesses.proofs.reads.+take_known.Given as goal

abbrev pub decreases-take_known : goal.decreases-take_known
decreases-take_known l = 2 * (count l.reading - l.reading.number)

abbrev pub decreases-take_more : goal.decreases-take_more
decreases-take_more l = 2 * (count l.reading - l.reading.number) + 1
