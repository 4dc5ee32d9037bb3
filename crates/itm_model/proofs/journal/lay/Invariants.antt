use Rattle.std.proofs.Common.{◌≡◌, length, drop}
use Rattle.itm_model.proofs.Journals.LaidBytes.{laid_over}
use Rattle.itm_model.proofs.journal.lay.Given as goal

abbrev pub invariant-loop-old : goal.invariant-loop-old
invariant-loop-old l = record {
  size : length l.base.items ≡ length l.memory;
  rest : laid_over (drop l.old-index l.journal) l.memory l.base.items ≡ l.memory;
}
