use Rattle.std.proofs.Common.{Some, ap, sym}
use Rattle.itm_runtime.proofs.numbers.tell_done.Goals as goal

pub returns-in-Ok : goal.returns-in-Ok
returns-in-Ok c = ap Some (sym (c.requires.done c.in-Ok.ensures.goes_on))

pub returns-in-Err : goal.returns-in-Err
returns-in-Err c = c.in-Err.ensures.err
