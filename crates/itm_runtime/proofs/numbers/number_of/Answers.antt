use Rattle.std.proofs.Common.{◌∙◌, Some, ap, subst, sym}
use Rattle.itm_runtime.proofs.Common.{HasNumber}
use Rattle.itm_runtime.proofs.numbers.number_of.Goals as goal

pub number_in-requires : goal.number_in-requires
number_in-requires c = subst HasNumber (sym c.in-Ok.ensures.ok) (c.requires.number c.in-Ok.ensures.goes_on)

pub returns-in-Ok : goal.returns-in-Ok
returns-in-Ok c = c.number_in.ensures ∙ ap Some c.in-Ok.ensures.ok

pub returns-in-Err : goal.returns-in-Err
returns-in-Err c = c.in-Err.ensures.err
