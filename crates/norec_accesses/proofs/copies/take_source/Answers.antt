use Rattle.std.proofs.Common.{arith}
use Rattle.norec_accesses.proofs.copies.take_source.Goals as goal

pub overflow_add-end : goal.overflow_add-end
overflow_add-end c = omega (arith, c.requires.range, c.size-bytes.ensures.most)
