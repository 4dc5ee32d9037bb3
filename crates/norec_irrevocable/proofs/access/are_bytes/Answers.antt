use Rattle.norec_irrevocable.proofs.access.are_bytes.Goals as goal

pub returns : goal.returns
returns c = λ i. (c.type_inv._bytes i).fits
