use Rattle.script_print.proofs.instruction.put_instruction.Goals as goal

pub returns-in-Mode : goal.returns-in-Mode
returns-in-Mode c = rw c.in-Mode.is (rw c.name_of-in-Mode.ensures at c.put_line-in-Mode.ensures)
