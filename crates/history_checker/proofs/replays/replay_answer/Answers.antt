use Rattle.std.proofs.Common.{◌≡◌, ℕ, List, None, ap, sym, ◌∙◌}
use Rattle.history_checker.proofs.Common.{again_at, answer_at, answer_in, calls_fault, cond-false, cond-true, may_stand, opened}
use Rattle.history_checker.proofs.replays.replay_answer.Goals as goal

pub returns-then-not-may_stand : goal.returns-then-not-may_stand
returns-then-not-may_stand c =
    let a = c.args.attempt.now in
    sym (cond-false (may_stand a) (answer_in c.args.plain.now.deepest (opened c.args.plain.now.state.memory a.arena a.props) a) None (sym c.may_stand.ensures ∙ c.if-not-may_stand.true))

pub returns : goal.returns
returns c =
    let m = c.args.plain.now.state.memory in
    let a = c.args.attempt.now in
    let state : c.again_with.new.self.state ≡ opened m a.arena a.props = c.in_ok-again_with.ensures.state ∙ ap (λ (t : List ℕ). opened m t a.props) c.as_slice.ensures in
    let deepest : c.again_with.new.self.deepest ≡ c.args.plain.now.deepest = c.again_with.ensures.deepest in
    let fault : c.in_ok-called.called.fault ≡ calls_fault c.args.plain.now.deepest (again_at a.restarts) (opened m a.arena a.props) 0 a.calls.list =
    c.in_ok-called.ensures.fault ∙ (λ t. calls_fault (deepest t) (again_at (c.as_slice-restarts.ensures t)) (state t) 0 (c.as_slice-2.ensures t)) in
    c.in_ok-called.ensures.answer
    ∙ ((λ t. answer_at (deepest t) (c.as_slice-restarts.ensures t) (state t) (c.as_slice-2.ensures t) (fault t))
    ∙ sym (cond-true (may_stand a) (answer_in c.args.plain.now.deepest (opened m a.arena a.props) a) None (sym c.may_stand.ensures ∙ c.if-not-may_stand.false)))
