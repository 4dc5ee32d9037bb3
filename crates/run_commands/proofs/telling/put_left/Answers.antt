use Rattle.std.proofs.Common.{◌≡◌, ℕ, ◌+◌, ◌<◌, List, ◌∷◌, length, drop, get_or, arith, sym, ap, ◌∙◌}
use Rattle.run_commands.proofs.Common.{Attempt, drop_more, left_of, length-drop, length_push}
use Rattle.run_commands.proofs.SentTexts.{sends_all, sends_next, sends_stopped, sends_unbegun}
use Rattle.run_commands.proofs.telling.put_left.Goals as goal

-- the next one
next_left : (all rest : List Attempt) (i : ℕ) (x : Attempt) → drop i all ≡ x ∷ rest → (i < length all) × (get_or all i x ≡ x) × (drop (i + 1) all ≡ rest)
next_left all rest i x e =
    let within : i < length all = omega (arith, length-drop i all, ap (length {A = Attempt}) e) in
    let first = drop_more all i x within in
    (within, cc, cc)

pub loop-attempt-init : goal.loop-attempt-init
loop-attempt-init g c = record { left = sym (ap left_of c.into_iter-attempt-iterator.ensures.into_iter_gives); sends = sends_unbegun g.W.Write.contents (left_of c.args.attempts) _ c.requires }

pub loop-attempt-preserved : goal.loop-attempt-preserved
loop-attempt-preserved g c =
    let before = c.loop-attempt.invariant in
    let n : ℕ = length c.loop-attempt.yielded in
    let next = next_left (left_of c.args.attempts) (left_of c.next.new.self) n c.in-Some.attempt.now (before.left ∙ c.in-Some.ensures.steps) in
    rw (length_push c.loop-attempt.yielded c.in-Some.attempt)
    (record { left = next.2; sends = sends_next g.W.Write.contents (left_of c.args.attempts) c.args.stream.now c.loop-attempt.stream c.attempt.new.self n c.in-Some.attempt.now _ next.0 before.sends (rw (sym next.1) at c.in_ok-attempt.ensures) })

pub returns-in_err-attempt : goal.returns-in_err-attempt
returns-in_err-attempt g c =
    let before = c.loop-attempt.invariant in
    let n : ℕ = length c.loop-attempt.yielded in
    let next = next_left (left_of c.args.attempts) (left_of c.next.new.self) n c.in-Some.attempt.now (before.left ∙ c.in-Some.ensures.steps) in
    sends_stopped g.W.Write.contents (left_of c.args.attempts) c.args.stream.now c.loop-attempt.stream c.attempt.new.self n c.in-Some.attempt.now _ c.from_residual.result next.0 before.sends (rw (sym next.1) at c.in_err-attempt.ensures) (grind arith)

pub returns : goal.returns
returns g c =
    let before = c.loop-attempt.invariant in
    let n : ℕ = length c.loop-attempt.yielded in
    let none = before.left ∙ c.in-None.ensures.steps.0 in
    sends_all g.W.Write.contents (left_of c.args.attempts) _ _ n (omega (arith, length-drop n (left_of c.args.attempts), ap (length {A = Attempt}) none)) before.sends
