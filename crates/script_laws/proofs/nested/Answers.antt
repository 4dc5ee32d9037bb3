use Rattle.script_laws.proofs.AssembledCode.{assembled_nests}
use Rattle.script_laws.proofs.nested.Goals as goal

pub returns : goal.returns
returns g = assembled_nests
