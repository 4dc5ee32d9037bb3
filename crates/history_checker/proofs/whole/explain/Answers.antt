use Rattle.std.proofs.Common.{Option, ap, subst, sym, ◌∙◌}
use Rattle.history_checker.proofs.Common.{HasReason, Reply, Spot, count_committed, first_fault, spot_answer}
use Rattle.history_checker.proofs.Legality.Reasons.{reason_of}
use Rattle.history_checker.proofs.whole.explain.Goals as goal

pub returns-clause-finding : goal.returns-clause-finding
returns-clause-finding c =
    let verdict = c.in_ok-judged.ensures.verdict in
    let spot = c.in_ok-judged.ensures.spot in
    let answer = c.in_ok-answer.ensures ∙ ap (spot_answer c.args.history.now) spot in
    (λ i. record { verdict = verdict i; spot = spot i; answer = answer i })

pub returns-clause-reason : goal.returns-clause-reason
returns-clause-reason c =
    let h = c.args.history.now in
    let spot = c.in_ok-judged.ensures.spot in
    let answer = c.in_ok-answer.ensures ∙ ap (spot_answer h) spot in
    subst (λ (o : Option Spot). HasReason h o c.in_ok-answer.answer) (sym spot)
    (subst (λ (x : Option Reply). HasReason h (first_fault h (count_committed h.attempts)) x) (sym answer) (reason_of h))
