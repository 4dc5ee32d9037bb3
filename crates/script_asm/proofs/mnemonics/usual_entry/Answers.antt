use Rattle.script_asm.proofs.UsualWords.{begins, commits}
use Rattle.script_asm.proofs.mnemonics.usual_entry.Goals as goal

pub returns-then-eq-3 : goal.returns-then-eq-3
returns-then-eq-3 c = begins c.args.field.now (cc)

pub returns-then-eq-4 : goal.returns-then-eq-4
returns-then-eq-4 c = commits c.args.field.now (cc)
