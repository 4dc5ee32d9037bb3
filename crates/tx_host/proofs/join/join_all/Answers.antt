use Rattle.std.proofs.Common.{rules, arith, ◌≡◌, ℕ, ◌+◌, true, false, true≢false, length, vec_len, sym, subst, refl, ◌∙◌}
use Rattle.tx_host.proofs.Common.{HeldAmong, Joins, Listing, Promised, held_more, into_iter_items, joins_more, view_of}
use Rattle.report_rules.{specs.declared.done.Done.Done, proofs.Passes.WorkerViews.joined_left}
use Rattle.tx_host.{proofs.Parts.works_for, proofs.join.join_all.Goals.then-held, proofs.join.join_all.Goals.else-held}
use Rattle.tx_host.proofs.join.join_all.Goals as goal

pub take_in-holds-requires-clause-back : goal.take_in-holds-requires-clause-back
take_in-holds-requires-clause-back g c =
    let rest = subst (Promised c.args.words.now (view_of c.args.pass).base c.args.program.now (vec_len c.loop-handle.all)) c.in-Some.ensures.steps.0 c.loop-handle.invariant.rest in
    (works_for c.args.words.now (view_of c.args.pass).base c.args.program.now (vec_len c.loop-handle.all) g.G.Gate.answers c.in-Some.handle.promise c.join-attempts.result rest.0 c.join-attempts.ensures).finished.back

pub loop-handle-preserved : goal.loop-handle-preserved
loop-handle-preserved g c =
    let old = c.loop-handle.invariant in
    let n : ℕ = vec_len c.loop-handle.all in
    let start = view_of c.args.pass in
    let p : Listing = c.args.program.now in
    let rest = subst (Promised c.args.words.now start.base p n) c.in-Some.ensures.steps.0 old.rest in
    let many : length c.loop-handle.all.items ≡ n = search rules in
    let pushed = c.push_reserved.ensures in
    let done : Done = record { attempts = c.join-attempts.result.attempts; end = c.join-attempts.result.end } in
    let taken = c.take_in-holds.ensures in
    let promise = c.in-Some.handle.promise in
    let works = works_for c.args.words.now start.base p n g.G.Gate.answers promise c.join-attempts.result rest.0 c.join-attempts.ensures in
    record {
      own = taken.own;
      idle = taken.idle;
      joins = λ free.
          (let both : (c.loop-handle.held ≡ false) × (c.take_in-holds.result ≡ false) =
          elim c.if-held.branch [
            | then-held w ↦ absurd (true≢false (sym w.if-held.true ∙ (sym w.held-is ∙ free)))
            | else-held w ↦ (w.if-held.false, sym w.held-is ∙ free)
          ] in
          let more : Joins c.args.words.now start p g.G.Gate.answers (n + 1) (view_of c.take_in-holds.new.pass) c.push_reserved.new.self.items =
          subst (Joins c.args.words.now start p g.G.Gate.answers (n + 1) (view_of c.take_in-holds.new.pass)) (sym pushed.items)
          (joins_more c.args.words.now start.base p n g.G.Gate.answers promise.start.value promise.player.value c.join-attempts.result rest.0.begins works start (view_of c.loop-handle.pass) (view_of c.take_in-holds.new.pass) c.loop-handle.all.items done refl refl many (sym taken.held ∙ both.1) (old.joins both.0) (joined_left (view_of c.loop-handle.pass) (view_of c.take_in-holds.new.pass) c.join-attempts.result.pass (sym taken.held ∙ both.1) taken.joined)) in
          subst (λ (m : ℕ). Joins c.args.words.now start p g.G.Gate.answers m (view_of c.take_in-holds.new.pass) c.push_reserved.new.self.items) (sym pushed.len) more);
      held = λ holds.
          (let base = start.base in
          let among : HeldAmong c.args.words.now p base g.G.Gate.answers (n + 1) =
          elim c.if-held.branch [
            | then-held w ↦ held_more c.args.words.now p base g.G.Gate.answers n (n + 1) (omega arith) (old.held w.if-held.true)
            | else-held w ↦ (n, c.join-attempts.result, omega arith, record { start = promise.start.value; player = promise.player.value; begins = rest.0.begins; row = works.row }, sym taken.held ∙ (sym w.held-is ∙ holds))
          ] in
          subst (λ (m : ℕ). HeldAmong c.args.words.now p base g.G.Gate.answers m) (sym pushed.len) among);
      rest = subst (λ (m : ℕ). Promised c.args.words.now start.base p m (into_iter_items c.next.new.self)) (sym pushed.len) rest.1;
      count = search rules;
      room = search rules;
    }

pub returns : goal.returns
returns g c =
    let i = c.loop-handle.invariant in
    let count : vec_len c.loop-handle.all ≡ vec_len c.args.handles = search rules in
    record {
      own = i.own;
      idle = i.idle;
      len = count;
      held = λ held.
          held_more c.args.words.now c.args.program.now (view_of c.args.pass).base g.G.Gate.answers (vec_len c.loop-handle.all) (vec_len c.args.handles) (let at = i.count in omega arith) (i.held held);
      joins = λ free.
          subst (λ (n : ℕ). Joins c.args.words.now (view_of c.args.pass) c.args.program.now g.G.Gate.answers n (view_of c.loop-handle.pass) c.loop-handle.all.items) count (i.joins free);
    }
