use Rattle.std.proofs.Common.{◌≡◌, ◌≤◌, length, arith, Err, Result}
use Rattle.std.proofs.lemmas.Result.{err_from_is_err_and}
use Rattle.tx_history.specs.declared.history.History.{History}
use Rattle.history_reader.{specs.declared.fault.ReadFault.ReadFault, specs.Reading.read_of}
use Rattle.text_commands.specs.declared.failure.Failure.TheVariants.{Reading}
use Rattle.text_commands.specs.declared.judging.TheConstants.{MAX_HISTORY}
use Rattle.text_commands.specs.Answers.{Reads}
use Rattle.text_commands.proofs.ReadTexts.{no_text, uncut, unread}
use Rattle.text_commands.proofs.judging.read_history.Goals as goal

pub returns-in_err-text-clause-read : goal.returns-in_err-text-clause-read
returns-in_err-text-clause-read g c =
    let p = err_from_is_err_and c.from_residual.result c.from_residual.ensures.1 in
    rw (p.1, p.2) (no_text read_of _ c.in_err-text.field-0.0)

pub returns-then-len-gt-MAX_HISTORY-clause-read : goal.returns-then-len-gt-MAX_HISTORY-clause-read
returns-then-len-gt-MAX_HISTORY-clause-read g c = unread read_of _ (λ (r : Result History ReadFault). Reads {A = History} (Err Reading) r) (λ _. tt)

pub returns-clause-read : goal.returns-clause-read
returns-clause-read g c =
    let e : c.deref.result.now ≡ c.in_ok-text.text.items = cc in
    let h = rw e at c.history_of.ensures.read in
    let few : length c.in_ok-text.text.items ≤ MAX_HISTORY = omega arith in
    uncut read_of _ c.in_ok-text.text.items MAX_HISTORY (λ (r : Result History ReadFault). Reads c.history_of.result r) c.in_ok-text.ensures.read few h
