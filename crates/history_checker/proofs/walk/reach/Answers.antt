use Rattle.std.proofs.Common.{◌≡◌, ◌≤◌, ℕ, None, Option, ap, arith, subst, sym, ◌∙◌, is_none, nat_le}
use Rattle.history_checker.proofs.Common.{Spot, Undoable, and_from, and_right, committed_fault, count_committed, le-leb, memory_at}
use Rattle.history_checker.{proofs.Steps.Answers.some_is_not_none, proofs.Steps.Ends.committed_first}
use Rattle.history_checker.proofs.walk.reach.Goals as goal

pub returns-then-is_some : goal.returns-then-is_some
returns-then-is_some c =
    let h = c.args.history.now in
    let wrong = sym c.is_some.ensures ∙ c.if-is_some.true in
    let first = committed_first h c.loop-position.position c.args.at c.in_ok-wrong.wrong c.loop-position.invariant.fault c.in_ok-wrong.ensures.fault wrong c.loop-position-test.true in
    and_right (nat_le c.args.at (count_committed h.attempts)) (is_none (committed_fault h c.args.at)) (ap (λ (o : Option Spot). is_none o) (sym first) ∙ some_is_not_none c.in_ok-wrong.wrong wrong)

pub returns : goal.returns
returns c =
    let h = c.args.history.now in
    let at : c.loop-position.position ≡ c.args.at = omega (arith, c.loop-position-test.false, c.loop-position.auto.position-end) in
    let within : c.args.at ≤ count_committed h.attempts = omega (arith, c.if-at-slots.false, c.requires.slots.size) in
    let right : committed_fault h c.args.at ≡ None = subst (λ (n : ℕ). committed_fault h n ≡ None) at c.loop-position.invariant.fault in
    let rest = c.loop-position.invariant.rest in (
      and_from (nat_le c.args.at (count_committed h.attempts)) (is_none (committed_fault h c.args.at)) (le-leb c.args.at (count_committed h.attempts) within) (ap (λ (o : Option Spot). is_none o) right),
      ap (λ (u : Undoable). u.state.memory) c.plain_of.ensures ∙ (rest.memory ∙ ap (memory_at h) at),
      ap (λ (u : Undoable). u.deepest) c.plain_of.ensures ∙ rest.depth,
    )
