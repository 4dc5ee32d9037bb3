use Rattle.std.proofs.Common.{◌≡◌, ℕ, ◌+◌, ◌-◌, ◌<◌, true, length, get_or, take, ap, sym, subst, ◌∙◌, arith}
use Rattle.history_checker.proofs.Common.{Again, CallRecord, State, Undoable, after, breaks_of, is_open, lt-ltb, reply, same_reply, state_through}
use Rattle.history_checker.proofs.Steps.Answers.{answered_there}
use Rattle.history_checker.proofs.Steps.Calls.{before_stays, made}
use Rattle.history_checker.proofs.Steps.Restarts.{IsReplayed, as_long, due_within, held_there, replayed_again, replayed_on}
use Rattle.history_checker.proofs.replays.replay_calls.Goals as goal
use Rattle.history_checker.proofs.replays.replay_calls.Goals.{After-is_due, then-is_due+else-is_irrevocable, else-is_due}

-- ## A call is served within a block, and its reply is right

inside : (c : After-is_due) → is_open c.loop-place.plain.state ≡ true
inside c = lt-ltb 0 (length c.loop-place.plain.state.blocks) (omega (arith, c.depth.ensures, c.if-depth-eq0.false))

same : (c : After-is_due)
    → same_reply (get_or c.args.calls.now c.loop-place.place c.index-calls-place.result).reply (reply c.args.plain.now.deepest c.loop-place.plain.state (get_or c.args.calls.now c.loop-place.place c.index-calls-place.result).call) ≡ true
same c =
    let s = c.loop-place.plain.state in
    let e = c.index-calls-place.result in
    subst (λ (x : CallRecord). same_reply x.reply (reply c.args.plain.now.deepest s x.call) ≡ true) c.index-calls-place.is
    (ap (λ (k : ℕ). same_reply e.reply (reply k s e.call)) (sym c.loop-place.invariant.deepest)
    ∙ (ap (same_reply e.reply) (sym c.in_ok-reply.ensures.reply) ∙ (sym c.same_reply.ensures ∙ c.if-not-same_reply.false)))

served : (c : After-is_due) → c.one.new.self.state ≡ after c.args.plain.now.deepest c.loop-place.plain.state (get_or c.args.calls.now c.loop-place.place c.index-calls-place.result).call
served c = c.in_ok-reply.ensures.after ∙ (λ t. after (c.loop-place.invariant.deepest t) c.loop-place.plain.state (c.index-calls-place.is t).call)

there : (c : After-is_due) → c.is_due.result ≡ true → c.loop-place.next < length c.args.restarts.now
there c on = due_within c.args.restarts.now c.loop-place.next (c.loop-place.place + 1) (sym c.is_due.ensures.due ∙ on)

before : (c : After-is_due) → c.one.new.self.before ≡ c.args.plain.now.before
before c = c.in_ok-reply.ensures.before ∙ (before_stays c.loop-place.plain.deepest c.loop-place.plain c.index-calls-place.result.call (inside c) ∙ c.loop-place.invariant.before)

pub returns-then-not-same_reply-clause-before : goal.returns-then-not-same_reply-clause-before
returns-then-not-same_reply-clause-before c =
    let u = c.loop-place.plain in
    let within : is_open u.state ≡ true = lt-ltb 0 (length u.state.blocks) (omega (arith, c.depth.ensures, c.if-depth-eq0.false)) in
    c.in_ok-reply.ensures.before ∙ (before_stays u.deepest u c.index-calls-place.result.call within ∙ c.loop-place.invariant.before)

pub returns-then-not-same_reply-clause-answer : goal.returns-then-not-same_reply-clause-answer
returns-then-not-same_reply-clause-answer c =
    answered_there c.args.plain.now.deepest c.args.restarts.now c.args.plain.now.state c.args.calls.now c.loop-place.place c.index-calls-place.result c.loop-place.plain.deepest c.loop-place.plain.state c.in_ok-reply.reply
    c.loop-place-test.true c.index-calls-place.is c.loop-place.invariant.deepest c.loop-place.invariant.replayed.state c.in_ok-reply.ensures.reply

-- ## A block ran again

pub returns-then-is_irrevocable-clause-before : goal.returns-then-is_irrevocable-clause-before
returns-then-is_irrevocable-clause-before c = before (goal.at.returns-then-is_irrevocable-clause-before c).After-is_due

pub returns-then-is_irrevocable-clause-fault : goal.returns-then-is_irrevocable-clause-fault
returns-then-is_irrevocable-clause-fault c =
    let x = (goal.at.returns-then-is_irrevocable-clause-fault c).After-is_due in
    let held = sym (ap (λ (s : State). s.irrevocable) (served x)) ∙ (sym c.is_irrevocable.ensures ∙ c.if-is_irrevocable.true) in
    c.told_head-then-is_irrevocable.ensures.fault
    ∙ sym (held_there c.args.plain.now.deepest c.args.plain.now.state c.args.calls.now c.args.restarts.now c.loop-place.place c.loop-place.next c.loop-place.plain.state c.loop-place.invariant.replayed
    c.index-calls-place.result c.loop-place-test.true (inside x) (same x) (sym c.is_due.ensures.due ∙ c.if-is_due.true) held)

pub set_arena-requires : goal.set_arena-requires
set_arena-requires c =
    let x = (goal.at.set_arena-requires c).After-is_due in
    let a = c.index-restarts-next.result in
    ap (length {A = ℕ}) c.as_slice.ensures
    ∙ (ap (λ (x : Again). length x.arena) (sym c.index-restarts-next.is)
    ∙ (as_long c.args.plain.now.deepest c.args.plain.now.state c.args.calls.now c.args.restarts.now c.loop-place.place c.loop-place.next c.loop-place.plain.state c.loop-place.invariant.replayed
    c.index-calls-place.result c.loop-place-test.true (inside x) (same x) a (there x c.if-is_due.true) c.index-restarts-next.is (sym c.is_due.ensures.due ∙ c.if-is_due.true)
    ∙ ap (λ (s : State). length s.arena) (sym (served x))))

-- ## One call more

pub loop-place-preserved : goal.loop-place-preserved
loop-place-preserved c =
    let x = (goal.at.loop-place-preserved c).After-is_due in
    let s0 = c.args.plain.now.state in
    let deepest = c.args.plain.now.deepest in
    let es = c.args.calls.now in
    let rs = c.args.restarts.now in
    let i = c.loop-place.place in
    let e = c.index-calls-place.result in
    let next = c.loop-place.next in
    let s = c.loop-place.plain.state in
    let late : c.is_irrevocable-late-in-loop-place.result ≡ (state_through deepest (breaks_of rs) s0 (made (take (i + 1 - 1) es))).irrevocable =
    (let at : i ≡ i + 1 - 1 = omega arith in
    c.is_irrevocable-late-in-loop-place.ensures ∙ (ap (λ (t : State). t.irrevocable) c.loop-place.invariant.replayed.state ∙ ap (λ (n : ℕ). (state_through deepest (breaks_of rs) s0 (made (take n es))).irrevocable) at)) in
    elim c.if-is_due.branch [
      | then-is_due+else-is_irrevocable w ↦
          let a = w.index-restarts-next.result in
          let on = sym c.is_due.ensures.due ∙ w.if-is_due.true in
          let free = sym (ap (λ (t : State). t.irrevocable) (served x)) ∙ (sym w.is_irrevocable.ensures ∙ w.if-is_irrevocable.false) in
          let to : c.if-is_due.plain ≡ record c.one.new.self { state = record c.one.new.self.state { arena = w.as_slice.result.now } } = w.plain-is ∙ w.set_arena.ensures in
          let state : c.if-is_due.plain.state ≡ record (after deepest s (get_or es i e).call) { arena = a.arena } =
          ap (λ (u : Undoable). u.state) to
          ∙ ((λ t. record (served x t) { arena = w.as_slice.ensures t })
          ∙ ap (λ (r : Again). record (after deepest s (get_or es i e).call) { arena = r.arena }) (sym w.index-restarts-next.is)) in
          record {
            replayed = subst (IsReplayed deepest s0 es rs (i + 1) c.if-is_due.next) (sym state)
                (subst (λ (n : ℕ). IsReplayed deepest s0 es rs (i + 1) n (record (after deepest s (get_or es i e).call) { arena = a.arena })) (sym w.next-is)
                (replayed_again deepest s0 es rs i next s c.loop-place.invariant.replayed e c.loop-place-test.true (inside x) (same x) a (there x w.if-is_due.true) w.index-restarts-next.is on free));
            late = late;
            before = ap (λ (u : Undoable). u.before) to ∙ before x;
            deepest = ap (λ (u : Undoable). u.deepest) to ∙ (c.one.ensures.deepest ∙ c.loop-place.invariant.deepest);
          }
      | else-is_due w ↦
          let off = sym c.is_due.ensures.due ∙ w.if-is_due.false in
          let state : c.if-is_due.plain.state ≡ after deepest s (get_or es i e).call = ap (λ (u : Undoable). u.state) w.plain-is ∙ served x in
          record {
            replayed = subst (IsReplayed deepest s0 es rs (i + 1) c.if-is_due.next) (sym state)
                (subst (λ (n : ℕ). IsReplayed deepest s0 es rs (i + 1) n (after deepest s (get_or es i e).call)) (sym w.next-is)
                (replayed_on deepest s0 es rs i next s c.loop-place.invariant.replayed e c.loop-place-test.true (inside x) (same x) off));
            late = late;
            before = ap (λ (u : Undoable). u.before) w.plain-is ∙ before x;
            deepest = ap (λ (u : Undoable). u.deepest) w.plain-is ∙ (c.one.ensures.deepest ∙ c.loop-place.invariant.deepest);
          }
    ]
