use Rattle.std.proofs.Common.{◌≡◌, ◌<◌, ◌≤◌, ℕ, suc, List, Option, None, length, take, get_or, ap, sym, subst, ◌∙◌, arith}
use Rattle.history_checker.proofs.Common.{All-get_or, Attempt, MAX_ARENA, Told, depth_of, last_other, memory_at, set, told_on}
use Rattle.history_checker.proofs.Steps.Walks.{IsNext, next_in, next_is, next_then, next_none, fewer_left, left_of}
use Rattle.history_checker.proofs.walk.walk_others.Goals as goal

pub attempt_at-attempt-requires : goal.attempt_at-attempt-requires
attempt_at-attempt-requires c =
    let same : length c.as_slice-attempts.result.now ≡ length c.args.history.now.attempts = ap (length {A = Attempt}) c.as_slice-attempts.ensures in
    let next = subst (IsNext c.args.history.now c.args.position c.loop-next.walk.told.items) c.in-Some.is c.loop-next.invariant.next in
    let there = next_in c.args.history.now c.args.position c.loop-next.walk.told.items c.in-Some.i next in
    omega (arith, same, there)

pub replay_other-requires-clause-arena : goal.replay_other-requires-clause-arena
replay_other-requires-clause-arena c =
    let ts = c.args.history.now.attempts in
    let i = c.in-Some.i in
    let a = c.attempt_at-attempt.result.now in
    let is : a ≡ get_or ts i a = c.attempt_at-attempt.ensures ∙ ap (λ (xs : List Attempt). get_or xs i a) c.as_slice-attempts.ensures in
    let next = subst (IsNext c.args.history.now c.args.position c.loop-next.walk.told.items) c.in-Some.is c.loop-next.invariant.next in
    subst (λ (x : Attempt). length x.arena ≤ MAX_ARENA) (sym is)
    (All-get_or (λ (x : Attempt). length x.arena ≤ MAX_ARENA) ts i a (next_in c.args.history.now c.args.position c.loop-next.walk.told.items i next) c.requires.arenas)

pub put-requires : goal.put-requires
put-requires c =
    let next = subst (IsNext c.args.history.now c.args.position c.loop-next.walk.told.items) c.in-Some.is c.loop-next.invariant.next in
    let there = next_in c.args.history.now c.args.position c.loop-next.walk.told.items c.in-Some.i next in
    let size = next.told_behind.size in
    omega (arith, size, there)

pub lookup-next-requires-in-Some : goal.lookup-next-requires-in-Some
lookup-next-requires-in-Some c =
    let next = subst (IsNext c.args.history.now c.args.position c.loop-next.walk.told.items) c.in-Some.is c.loop-next.invariant.next in
    let there = next_in c.args.history.now c.args.position c.loop-next.walk.told.items c.in-Some.i next in
    let same : length c.deref-in-Some-2.result.now ≡ length c.args.links.now.older.items = ap (length {A = Option ℕ}) c.deref-in-Some-2.ensures.value in
    let as_many = c.requires.links.as_many in
    omega (arith, same, there, as_many)

-- the one before it that saw as many
then_older : (c : goal.After-lookup-next-in-Some) → c.lookup-next-in-Some.result ≡ last_other 0 (take c.in-Some.i c.args.history.now.attempts) c.args.position
then_older c =
    let h = c.args.history.now in
    let i = c.in-Some.i in
    let a = c.attempt_at-attempt.result.now in
    let next = subst (IsNext h c.args.position c.loop-next.walk.told.items) c.in-Some.is c.loop-next.invariant.next in
    let found = next_is h c.args.position c.loop-next.walk.told.items i a next in
    c.lookup-next-in-Some.ensures
    ∙ (ap (λ (xs : List (Option ℕ)). get_or xs i None) c.deref-in-Some-2.ensures.value
    ∙ (c.requires.links.before i a found.0 found.1
    ∙ ap (last_other 0 (take i h.attempts)) found.2))

pub loop-next-smaller : goal.loop-next-smaller
loop-next-smaller c =
    let h = c.args.history.now in
    let i = c.in-Some.i in
    let a = c.attempt_at-attempt.result.now in
    let next = subst (IsNext h c.args.position c.loop-next.walk.told.items) c.in-Some.is c.loop-next.invariant.next in
    let there = next_in h c.args.position c.loop-next.walk.told.items i next in
    let less : left_of c.lookup-next-in-Some.result < suc i = fewer_left h c.args.position i c.lookup-next-in-Some.result a (omega (arith, there)) (then_older c) in
    subst (λ (n : ℕ). left_of c.lookup-next-in-Some.result < n) (sym (ap left_of c.in-Some.is)) less

pub loop-next-preserved : goal.loop-next-preserved
loop-next-preserved c =
    let h = c.args.history.now in
    let i = c.in-Some.i in
    let a = c.attempt_at-attempt.result.now in
    let m = memory_at h c.args.position in
    let old = c.loop-next.walk.told.items in
    let is : a ≡ get_or h.attempts i a = c.attempt_at-attempt.ensures ∙ ap (λ (xs : List Attempt). get_or xs i a) c.as_slice-attempts.ensures in
    let next = subst (IsNext h c.args.position old) c.in-Some.is c.loop-next.invariant.next in
    let rest = c.loop-next.invariant.rest in
    let deepest = depth_of h.version in
    let here : c.in_ok-told.told ≡ told_on deepest m a = c.in_ok-told.ensures.told ∙ (λ t. told_on (rest.depth t) (rest.memory t) a) in
    let new : c.in_ok-told.told ≡ told_on deepest m (get_or h.attempts i a) = here ∙ ap (told_on deepest m) is in
    let put : c.put.new.told.items ≡ set old i (told_on deepest m (get_or h.attempts i a)) = c.put.ensures ∙ ap (set old i) new in
    record {
      rest = record { memory = c.in_ok-told.ensures.memory ∙ rest.memory; base = rest.base; depth = c.replay_other.ensures.deepest ∙ rest.depth };
      next = subst (λ (xs : List Told). IsNext h c.args.position xs c.lookup-next-in-Some.result) (sym put) (next_then h c.args.position old i a c.lookup-next-in-Some.result next (then_older c));
    }

pub returns-clause-told : goal.returns-clause-told
returns-clause-told c =
    next_none c.args.history.now c.args.position c.loop-next.walk.told.items
    (subst (IsNext c.args.history.now c.args.position c.loop-next.walk.told.items) c.in_default.is c.loop-next.invariant.next)
