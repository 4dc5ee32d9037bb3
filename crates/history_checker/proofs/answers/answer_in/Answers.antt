use Rattle.std.proofs.Common.{Option, subst, sym, ◌∙◌}
use Rattle.history_checker.proofs.Common.{Reaches, Undoable}
use Rattle.history_checker.proofs.Steps.Answers.{answer_there, misplaced, not_reached}
use Rattle.history_checker.proofs.answers.answer_in.Goals as goal

pub returns-then-is_some : goal.returns-then-is_some
returns-then-is_some c =
    misplaced c.args.history.now c.args.attempt.now c.as_slice-attempts.result.now c.count.result c.in_ok-placed.placed.fault c.as_slice-attempts.ensures c.count.ensures.value c.in_ok-placed.ensures.fault
    (sym c.is_some.ensures ∙ c.if-is_some.true)

pub returns : goal.returns
returns c =
    let h = c.args.history.now in
    let a = c.args.attempt.now in
    not_reached h a (subst (λ (o : Option Undoable). Reaches h a.at o) c.in-None.is c.in_ok-reached.ensures)

pub returns-in-Some : goal.returns-in-Some
returns-in-Some c =
    let h = c.args.history.now in
    let a = c.args.attempt.now in
    let reached = subst (λ (o : Option Undoable). Reaches h a.at o) c.in-Some.is c.in_ok-reached.ensures in
    answer_there h a c.as_slice-attempts.result.now c.count.result c.in_ok-placed.placed.fault c.as_slice-attempts.ensures c.count.ensures.value c.in_ok-placed.ensures.fault c.in-Some.plain
    c.replay_answer.result (sym c.is_some.ensures ∙ c.if-is_some.false) reached c.replay_answer.ensures
