use Rattle.std.proofs.Common.{refl}
use Rattle.itm_runtime.proofs.Common.{cancel_whole}
use Rattle.itm_runtime.proofs.thread.Thread.cancel.Goals as goal

pub returns-clause-whole : goal.returns-clause-whole
returns-clause-whole g c = cancel_whole _ _ _ _ c.args.outer c.in-Ok.ensures.served refl
