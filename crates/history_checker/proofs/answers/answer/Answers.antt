use Rattle.std.proofs.Common.{◌≡◌, ◌<◌, ◌≤◌, List, length, get_or, ap, sym, subst, ◌∙◌, arith}
use Rattle.history_checker.proofs.Common.{All-get_or, Attempt, MAX_ARENA, spot_answer}
use Rattle.history_checker.proofs.Steps.Answers.{attempt_there, no_attempt}
use Rattle.history_checker.proofs.answers.answer.Goals as goal

pub returns-in_default : goal.returns-in_default
returns-in_default c = ap (spot_answer c.args.history.now) (sym c.in_default.is)

pub returns-then-spot-attempts : goal.returns-then-spot-attempts
returns-then-spot-attempts c =
    let past : length c.as_slice-attempts.result.now ≤ c.in-Some.spot.attempt = omega (arith, c.if-spot-attempts.true) in
    no_attempt c.args.history.now c.as_slice-attempts.result.now c.args.spot c.in-Some.spot c.as_slice-attempts.ensures c.in-Some.is past

pub answer_in-requires-clause-arena : goal.answer_in-requires-clause-arena
answer_in-requires-clause-arena c =
    let ts = c.args.history.now.attempts in
    let i = c.in-Some.spot.attempt in
    let a = c.attempt_at.result.now in
    let is : a ≡ get_or ts i a = c.attempt_at.ensures ∙ ap (λ (xs : List Attempt). get_or xs i a) c.as_slice-attempts.ensures in
    let same : length c.as_slice-attempts.result.now ≡ length ts = ap (length {A = Attempt}) c.as_slice-attempts.ensures in
    let there : i < length ts = omega (arith, same, c.if-spot-attempts.false) in
    subst (λ (x : Attempt). length x.arena ≤ MAX_ARENA) (sym is) (All-get_or (λ (x : Attempt). length x.arena ≤ MAX_ARENA) ts i a there c.requires.arenas)

pub returns : goal.returns
returns c =
    let there : c.in-Some.spot.attempt < length c.as_slice-attempts.result.now = omega (arith, c.if-spot-attempts.false) in
    attempt_there c.args.history.now c.as_slice-attempts.result.now c.args.spot c.in-Some.spot c.as_slice-attempts.ensures c.in-Some.is c.attempt_at.result.now c.answer_in.result there c.attempt_at.ensures
    c.answer_in.ensures
