use Rattle.std.proofs.Common.{◌≡◌, ℕ, List, ap, sym, ◌∙◌, None, Some}
use Rattle.history_checker.proofs.Common.{Fault, again_at, alone, breaks_of, calls_fault, end_fault, opened, state_through}
use Rattle.history_checker.proofs.Steps.Calls.{made}
use Rattle.history_checker.proofs.Steps.Faults.{called_fault, fault_refused, fault_early, fault_late}
use Rattle.history_checker.proofs.Steps.Firsts.{none_of}
use Rattle.history_checker.proofs.replays.replay.Goals as goal
use Rattle.history_checker.proofs.replays.replay.Goals.{After-is_some}

pub returns-then-not-may_stand-clause-fault : goal.returns-then-not-may_stand-clause-fault
returns-then-not-may_stand-clause-fault c =
    ap (λ (f : Fault). Some f) c.head.ensures ∙ sym (fault_refused c.args.plain.now.deepest c.args.plain.now.state.memory c.args.attempt.now (sym c.may_stand.ensures ∙ c.if-not-may_stand.true))

-- ## An attempt that may stand

-- what its calls came to
fault_is : (c : After-is_some) → c.in_ok-called.called.fault ≡ called_fault c.args.plain.now.deepest c.args.plain.now.state.memory c.args.attempt.now
fault_is c =
    let m = c.args.plain.now.state.memory in
    let a = c.args.attempt.now in
    let state : c.again_with-2.new.self.state ≡ opened m a.arena a.props = c.in_ok-again_with-2.ensures.state ∙ ap (λ (t : List ℕ). opened m t a.props) c.as_slice.ensures in
    let deepest : c.again_with-2.new.self.deepest ≡ c.args.plain.now.deepest = c.again_with-2.ensures.deepest in
    c.in_ok-called.ensures.fault ∙ (λ t. calls_fault (deepest t) (again_at (c.as_slice-restarts.ensures t)) (state t) 0 (c.as_slice-2.ensures t))

-- and where they led
ended_is : (c : After-is_some) → c.in_ok-called.called.fault ≡ None → c.replay_calls.new.plain.state ≡ alone c.args.plain.now.deepest c.args.plain.now.state.memory c.args.attempt.now
ended_is c none =
    let m = c.args.plain.now.state.memory in
    let a = c.args.attempt.now in
    let state : c.again_with-2.new.self.state ≡ opened m a.arena a.props = c.in_ok-again_with-2.ensures.state ∙ ap (λ (t : List ℕ). opened m t a.props) c.as_slice.ensures in
    let deepest : c.again_with-2.new.self.deepest ≡ c.args.plain.now.deepest = c.again_with-2.ensures.deepest in
    c.in_ok-called.ensures.state none ∙ (λ t. state_through (deepest t) (breaks_of (c.as_slice-restarts.ensures t)) (state t) (made (c.as_slice-2.ensures t)))

pub returns-then-is_some-clause-fault : goal.returns-then-is_some-clause-fault
returns-then-is_some-clause-fault c =
    let x = (goal.at.returns-then-is_some-clause-fault c).After-is_some in
    fault_early c.args.plain.now.deepest c.args.plain.now.state.memory c.args.attempt.now c.in_ok-called.called.fault (sym c.may_stand.ensures ∙ c.if-not-may_stand.false) (fault_is x) (sym c.is_some.ensures ∙ c.if-is_some.true)

pub returns-clause-fault : goal.returns-clause-fault
returns-clause-fault c =
    let x = (goal.at.returns-clause-fault c).After-is_some in
    let deepest = c.args.plain.now.deepest in
    let m = c.args.plain.now.state.memory in
    let a = c.args.attempt.now in
    let no = sym c.is_some.ensures ∙ c.if-is_some.false in
    let ended = ended_is x (none_of c.in_ok-called.called.fault no) in
    let depth : c.replay_calls.new.plain.deepest ≡ deepest = c.replay_calls.ensures.deepest ∙ c.again_with-2.ensures.deepest in
    let before : c.replay_calls.new.plain.before ≡ m = c.in_ok-called.ensures.before ∙ c.in_ok-again_with-2.ensures.before in
    c.replay_end.ensures.fault
    ∙ ((λ t. end_fault (depth t) (before t) a (ended t))
    ∙ fault_late deepest m a c.in_ok-called.called.fault (sym c.may_stand.ensures ∙ c.if-not-may_stand.false) (fault_is x) no)
