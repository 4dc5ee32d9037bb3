use Rattle.std.proofs.Common.{◌≡◌, ◌≤◌, List, [], None, Some, length, get_or, ap, sym, subst, ◌∙◌, arith}
use Rattle.history_checker.proofs.Common.{All-get_or, Attempt, MAX_ARENA, alone, at_place, committed_at, depth_of, fault_in, is_committed, memory_at, memory_left}
use Rattle.history_checker.{proofs.Steps.Firsts.place_none, proofs.Steps.Walks.found_in, proofs.Steps.Walks.found_none, proofs.Steps.Walks.found_there}
use Rattle.history_checker.proofs.walk.walk_committed.Goals as goal

pub returns-in_default-clause-fault : goal.returns-in_default-clause-fault
returns-in_default-clause-fault c = sym (found_none (depth_of c.args.history.now.version) (memory_at c.args.history.now c.args.position) c.args.position c.args.history.now.attempts (sym c.requires.slot ∙ c.in_default.is)).1

pub returns-in_default-clause-rest : goal.returns-in_default-clause-rest
returns-in_default-clause-rest c = λ none.
    let m = memory_at c.args.history.now c.args.position in
    let deepest = depth_of c.args.history.now.version in
    let left : m ≡ memory_left deepest m (committed_at c.args.history.now.attempts c.args.position) =
    ap (memory_left deepest m) (sym (found_none deepest m c.args.position c.args.history.now.attempts (sym c.requires.slot ∙ c.in_default.is)).0) in
    record { memory = c.requires.rest.memory ∙ left; base = c.requires.rest.base ∙ left; depth = c.requires.rest.depth }

pub attempt_at-attempt-requires : goal.attempt_at-attempt-requires
attempt_at-attempt-requires c =
    let slice = c.as_slice.result.now in
    let same : length slice ≡ length c.args.history.now.attempts = ap (length {A = Attempt}) c.as_slice.ensures in
    grind (arith, found_in c.args.history.now.attempts c.args.position c.in-Some.i (sym c.requires.slot ∙ c.in-Some.is), same)

pub replay_committed-requires-clause-arena : goal.replay_committed-requires-clause-arena
replay_committed-requires-clause-arena c =
    let ts = c.args.history.now.attempts in
    let i = c.in-Some.i in
    let a = c.attempt_at-attempt.result.now in
    let is : a ≡ get_or ts i a = c.attempt_at-attempt.ensures ∙ ap (λ (xs : List Attempt). get_or xs i a) c.as_slice.ensures in
    subst (λ (x : Attempt). length x.arena ≤ MAX_ARENA) (sym is)
    (All-get_or (λ (x : Attempt). length x.arena ≤ MAX_ARENA) ts i a (found_in ts c.args.position i (sym c.requires.slot ∙ c.in-Some.is)) c.requires.arenas)

pub replay_committed-requires-clause-committed : goal.replay_committed-requires-clause-committed
replay_committed-requires-clause-committed c =
    let ts = c.args.history.now.attempts in
    let i = c.in-Some.i in
    let a = c.attempt_at-attempt.result.now in
    let is : a ≡ get_or ts i a = c.attempt_at-attempt.ensures ∙ ap (λ (xs : List Attempt). get_or xs i a) c.as_slice.ensures in
    ap (λ (x : Attempt). is_committed x.outcome) is ∙ (found_there 0 [] c.args.position ts i a (sym c.requires.slot ∙ c.in-Some.is)).0

pub returns-clause-fault : goal.returns-clause-fault
returns-clause-fault c =
    let ts = c.args.history.now.attempts in
    let i = c.in-Some.i in
    let a = c.attempt_at-attempt.result.now in
    let m = memory_at c.args.history.now c.args.position in
    let is : a ≡ get_or ts i a = c.attempt_at-attempt.ensures ∙ ap (λ (xs : List Attempt). get_or xs i a) c.as_slice.ensures in
    let deepest = depth_of c.args.history.now.version in
    let there : c.in_ok-fault.fault ≡ fault_in deepest m a = c.in_ok-fault.ensures.fault ∙ (λ t. fault_in (c.requires.rest.depth t) (c.requires.rest.memory t) a) in
    let fault : c.in_ok-fault.fault ≡ fault_in deepest m (get_or ts i a) = there ∙ ap (fault_in deepest m) is in
    c.at_place.ensures ∙ (ap (at_place i) fault ∙ sym (found_there deepest m c.args.position ts i a (sym c.requires.slot ∙ c.in-Some.is)).2)

pub returns-clause-rest : goal.returns-clause-rest
returns-clause-rest c = λ none.
    let ts = c.args.history.now.attempts in
    let i = c.in-Some.i in
    let a = c.attempt_at-attempt.result.now in
    let m = memory_at c.args.history.now c.args.position in
    let is : a ≡ get_or ts i a = c.attempt_at-attempt.ensures ∙ ap (λ (xs : List Attempt). get_or xs i a) c.as_slice.ensures in
    let deepest = depth_of c.args.history.now.version in
    let no : c.in_ok-fault.fault ≡ None = place_none i c.in_ok-fault.fault (sym c.at_place.ensures ∙ none) in
    let there : committed_at ts c.args.position ≡ Some a = (found_there deepest m c.args.position ts i a (sym c.requires.slot ∙ c.in-Some.is)).1 ∙ ap (λ (x : Attempt). Some x) (sym is) in
    let left : c.replay_committed.new.plain.state.memory ≡ memory_left deepest m (committed_at ts c.args.position) =
    c.in_ok-fault.ensures.memory no ∙ ((λ t. (alone (c.requires.rest.depth t) (c.requires.rest.memory t) a).memory) ∙ ap (memory_left deepest m) (sym there)) in
    record { memory = left; base = c.in_ok-fault.ensures.base no ∙ left; depth = c.replay_committed.ensures.deepest ∙ c.requires.rest.depth }
