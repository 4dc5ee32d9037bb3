use Rattle.std.proofs.Common.{rules, ◌≡◌, List, ℕ, ◌∙◌, ap, subst, sym, Err, IfErr, Result}
use Rattle.tx_host.proofs.Common.{view_of}
use Rattle.report_rules.specs.declared.report.Report.{Report}
use Rattle.itm_types.specs.Memory.{bytes_of}
use Rattle.std.proofs.lemmas.Result.{err_from_is_err_and}
use Rattle.report_rules.specs.declared.report.HostFault.{HostFault}
use Rattle.report_rules.specs.declared.report.HostFault.TheVariants.{Held}
use Rattle.report_rules.specs.Reports.{StaysHeld}
use Rattle.report_rules.proofs.Histories.LimitedReports.{limited_report}
use Rattle.report_rules.proofs.Histories.WholeRuns.{ran}
use Rattle.tx_host.proofs.threads.run_threads.Goals as goal

pub returns-clause-ran : goal.returns-clause-ran
returns-clause-ran g c =
    let words = c.in-Ok-new.ensures in
    let start = view_of c.in-Ok-new.pass in
    let before : List ℕ = c.in-Ok.before.items in
    let kept : c.new-2.result ≡ before = search rules in
    let from : bytes_of start.base ≡ before = search rules in
    let report : Report = record {
      history = record { version = c.version_of.result; memory = c.new-2.result; attempts = c.in-Ok-gather_all.attempts; clock = c.closed-clock.result.0; bytes = c.closed-clock.result.1 };
      ends = c.in-Ok-gather_all.ends;
    } in
    ran c.in-Ok-new.words c.args.program.now g.G.Gate.answers report start (view_of c.in_ok-pass.pass) c.in_ok-pass.all.items words.pass.first (from ∙ sym kept) (kept ∙ c.in-Ok.ensures.before) c.in_ok-pass.ensures.gathers c.closed-clock.ensures c.in-Ok-gather_all.ensures.attempts c.in-Ok-gather_all.ensures.ends c.version_of.ensures c.in-Ok.ensures.limits.depth

pub returns-clause-limited : goal.returns-clause-limited
returns-clause-limited g c = limited_report c.args.program.now g.G.Gate.answers _ (returns-clause-ran g c) c.in-Ok.ensures.limits

pub returns-in_err-pass-clause-held : goal.returns-in_err-pass-clause-held
returns-in_err-pass-clause-held g c =
    let r = err_from_is_err_and c.from_residual.result c.from_residual.ensures.1 in
    let base : List ℕ = (view_of c.in-Ok-new.pass).base in
    let from : bytes_of base ≡ c.in-Ok.before.items = search rules in
    subst (λ (x : Result _ HostFault). IfErr x (λ fault. fault ≡ Held → StaysHeld g.G.Gate.answers c.args.program.now)) (sym (r.1 ∙ ap Err r.2))
    (λ same. (c.in-Ok-new.words, base, from ∙ c.in-Ok.ensures.before, c.in_err-pass.ensures.held same))
