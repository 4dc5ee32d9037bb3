use Rattle.std.proofs.Common.{◌≡◌, Result}
use Rattle.std.proofs.lemmas.Result.{err_from_is_err_and}
use Rattle.script_fields.specs.declared.fault.AsmFault.{AsmFault}
use Rattle.script_program.specs.Listing.{Listing}
use Rattle.script_asm.specs.Assembly.{program_of}
use Rattle.text_commands.{specs.Answers.Reads, proofs.ReadTexts.cut, proofs.ReadTexts.no_text}
use Rattle.text_commands.proofs.programs.read_program.Goals as goal

pub returns-in_err-text-clause-read : goal.returns-in_err-text-clause-read
returns-in_err-text-clause-read g c =
    let p = err_from_is_err_and c.from_residual.result c.from_residual.ensures.1 in
    rw (p.1, p.2) (no_text program_of _ c.in_err-text.field-0.0)

pub returns-clause-read : goal.returns-clause-read
returns-clause-read g c =
    let e : c.deref.result.now ≡ c.in_ok-text.text.items = cc in
    let h = rw e at c.program_of.ensures in
    cut _ c.in_ok-text.text.items (λ (r : Result Listing AsmFault). Reads c.program_of.result r) c.in_ok-text.ensures.read h
