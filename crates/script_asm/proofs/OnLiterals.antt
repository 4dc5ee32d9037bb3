-- What a worked case unfolds to compute.
use Rattle.script_asm.proofs.Common.{bytes_of, codes_of, counted_again, end_of, entry_of, events, expanded, instruction_total, item_of, laid_in, meaning, obeyed, program_of, repeated, run_code, schedule_of, thread_total, threaded, word_of}
use Rattle.std.specs.Prelude.{⊤}
use Rattle.script_fields.proofs.OnLiterals.{fields_on_literals}
use Rattle.script_asm.specs.Code.{control_code, entry_code, instruction_of}

unfoldable pub on_literals : ⊤
unfolding fields_on_literals entry_of bytes_of codes_of thread_total instruction_total expanded counted_again word_of events item_of schedule_of control_code entry_code instruction_of laid_in threaded run_code repeated obeyed meaning end_of program_of
on_literals = tt
