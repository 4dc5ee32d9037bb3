use Rattle.std.proofs.Common.{◌≡◌, drop}
use Rattle.itm_model.proofs.Journals.LaidBytes.{laid_over}
use Rattle.itm_model.proofs.journal.is_laid.Given as goal

abbrev pub invariant-loop-old : goal.invariant-loop-old
invariant-loop-old l = laid_over (drop l.old-index l.journal) l.memory l.base ≡ l.memory
