use Rattle.std.proofs.Common.{◌≡◌, Err, ◌∙◌, ap}
use Rattle.history_reader.proofs.Common.{ReadKind, err_from_is_err_and}
use Rattle.history_reader.proofs.RoundTrips.ReadLines.{ends_without, refused_at}
use Rattle.history_reader.proofs.whole.read_lines.Goals as goal

pub returns-in_err-read_line-clause-refused : goal.returns-in_err-read_line-clause-refused
returns-in_err-read_line-clause-refused c =
    let p = err_from_is_err_and c.from_residual.result c.from_residual.ensures.1 in
    let is : c.from_residual.result ≡ Err c.in_err-read_line.field-0.0 = p.1 ∙ ap (λ (k : ReadKind). Err k) p.2 in
    refused_at c.args.text.now c.loop-line.rest.now c.in-Some.after.now c.in-Some.line.now c.loop-line.number c.loop-line.state c.read_line.new.state c.in_err-read_line.field-0.0 c.from_residual.result
    c.loop-line.invariant.before c.in-Some.ensures.lines c.in_err-read_line.ensures is

pub returns-clause-refused : goal.returns-clause-refused
returns-clause-refused c = ends_without c.loop-line.state c.loop-line.rest.now c.end_of.result _ c.end_of.ensures
