use Rattle.norec_irrevocable.proofs.access.value_of.Goals as goal

pub returns-clause-fit : goal.returns-clause-fit
returns-clause-fit c = λ i. (c.type_inv.bytes i).fits
