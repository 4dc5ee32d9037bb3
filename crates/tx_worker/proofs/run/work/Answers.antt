use Rattle.std.proofs.Common.{◌≡◌, ◌<◌, ◌≤◌, ◌+◌, ◌^◌, ℕ, suc, Bool, None, refl, sym, ap, subst, ◌∙◌, arith}
use Rattle.norec_core.specs.Core.{in_transaction}
use Rattle.tx_runs.{specs.declared.player_run.PlayerRun.PlayerRun, specs.Nesting.whole, specs.Ranks.rank, specs.Ranks.restarts_left}
use Rattle.worker_rules.specs.Worker.{Worker}
use Rattle.worker_rules.specs.Accounts.{account_of, first_account}
use Rattle.worker_rules.specs.Calls.{AllBegun, IsBegunIn, IsMade, StopsAs, StopsAt}
use Rattle.worker_rules.specs.Gates.{IsLet, call_number}
use Rattle.worker_rules.specs.Workers.{Bounds, bounds_of}
use Rattle.worker_rules.specs.Works.{course_of}
use Rattle.worker_rules.proofs.Laws.Begins.{begins_bound, begins_works}
use Rattle.worker_rules.proofs.Laws.BegunAttempts.{told_begun}
use Rattle.worker_rules.proofs.Laws.Ends.{finished}
use Rattle.tx_worker.proofs.run.work.Goals as goal

-- one more is counted
counted : (n before now : ℕ) → before ≡ call_number n → now ≡ call_number (before + 1) → now ≡ call_number (suc n)
counted n before now b e = omega arith

pub loop-end-init : goal.loop-end-init
loop-end-init g c =
    let r = c.requires in
    let stands = c.clock-clock.ensures.stands in
    let limit : c.args.thread.engine.restarts < 2 ^ 32 = omega (arith, c.restarts-limit.ensures) in
    let first = begins_works g.P.Player c.args.words.now c.args.thread c.args.player c.args.number c.args.retries r.own stands r.outside r.depth limit r.few c.new-2.result c.new-2.ensures.items
    (record { run = c.new.result; thread = c.args.thread; ended = c.new-2.result; calls = 0 }) (ap (λ (run : PlayerRun g.row.P.Denot). record { run = run; thread = c.args.thread; ended = c.new-2.result; calls = 0 }) c.new.ensures) in
    record {
      works = first.0;
      made = (0, (first.1, refl), refl);
      bound =
          (subst (λ (run : PlayerRun g.row.P.Denot). whole g.P.Player (in_transaction c.args.thread.engine) run.player ≤ g.P.Player.calls_left c.args.player) (sym c.new.ensures)
          (begins_bound g.P.Player c.args.words.now c.args.thread c.args.player c.args.number c.args.retries r.own stands r.outside r.depth limit r.few));
      number = ap (λ (run : PlayerRun g.row.P.Denot). run.thread) c.new.ensures;
      retries = ap (λ (run : PlayerRun g.row.P.Denot). run.retries) c.new.ensures;
    }

pub finish-requires-clause-may_stop : goal.finish-requires-clause-may_stop
finish-requires-clause-may_stop g c = (c.in-Some.ensures (course_of c.args.thread c.args.player c.args.number c.args.retries) (bounds_of c.args.thread.engine) c.loop-end.invariant.works).stopped.may_stop

pub finish-requires-clause-may_tell : goal.finish-requires-clause-may_tell
finish-requires-clause-may_tell g c = (c.in-Some.ensures (course_of c.args.thread c.args.player c.args.number c.args.retries) (bounds_of c.args.thread.engine) c.loop-end.invariant.works).stopped.may_tell

pub returns-in-Some : goal.returns-in-Some
returns-in-Some g c =
    let course = course_of c.args.thread c.args.player c.args.number c.args.retries in
    let bounds = bounds_of c.args.thread.engine in
    let old = c.loop-end.invariant in
    let w : Worker g.row.P.Denot = c.loop-end.worker in
    let at = c.in-Some.ensures course bounds old.works in
    let x = at.stopped in
    let e = c.finish.ensures in
    let number : ℕ = call_number old.made.0 in
    let shuts : Bool = g.G.Gate.answers.shuts c.args.number number in
    let told : StopsAs c.args.words.now g.P.Player c.args.number c.args.retries shuts c.finish.result.end (account_of w) w.thread x.left c.call_next.new.self.thread =
    subst (λ (y : ℕ × ℕ × ℕ). StopsAs c.args.words.now g.P.Player y.0 y.1 (g.G.Gate.answers.shuts y.0 y.2) c.finish.result.end (account_of w) w.thread x.left c.call_next.new.self.thread) (λ i. (old.number i, old.retries i, old.made.2 i))
    (subst (λ (end : _). StopsAs c.args.words.now g.P.Player w.run.thread w.run.retries (g.G.Gate.answers.shuts w.run.thread w.calls) end (account_of w) w.thread x.left c.call_next.new.self.thread) (sym e.end) x.stops) in
    let stops : StopsAt c.args.words.now g.P.Player c.args.number c.args.retries g.G.Gate.answers number c.finish.result.end (account_of w) w.thread x.left c.call_next.new.self.thread =
    subst (λ (y : ℕ × ℕ × ℕ). StopsAt c.args.words.now g.P.Player y.0 y.1 g.G.Gate.answers y.2 c.finish.result.end (account_of w) w.thread x.left c.call_next.new.self.thread) (λ i. (old.number i, old.retries i, old.made.2 i))
    (subst (λ (end : _). StopsAt c.args.words.now g.P.Player w.run.thread w.run.retries g.G.Gate.answers w.calls end (account_of w) w.thread x.left c.call_next.new.self.thread) (sym e.end) at.stops) in
    record {
      number_is = e.number ∙ x.same.number;
      row = record {
        calls = old.made.0;
        account = account_of w;
        standing = w.thread;
        made = old.made.1;
        left = x.left;
        thread = c.call_next.new.self.thread;
        stops = stops;
        attempts = e.attempts ∙ x.told_is;
        begun =
            subst (AllBegun (IsBegunIn c.args.words.now g.P.Player c.args.number c.args.retries g.G.Gate.answers old.made.0 (first_account c.args.player) c.args.thread (account_of w) w.thread old.made.1)) (sym (e.attempts ∙ x.told_is))
            (told_begun c.args.words.now g.P.Player c.args.number c.args.retries g.G.Gate.answers c.args.player c.args.thread old.made.0 (account_of w) w.thread old.made.1 c.finish.result.end x.left c.call_next.new.self.thread stops);
        pass = e.pass;
      };
      finished = finished g.met.P.Player.laws c.args.words.now course c.args.thread.engine.max_commits shuts (account_of w) w.thread old.works.running old.works.same.own old.works.same.stands old.works.same.over (ap (λ (b : Bounds). b.max_commits) old.works.same.bounds)
          c.args.number c.args.retries refl refl c.finish.result x.left c.call_next.new.self.thread told x.over x.below x.same.own x.same.stands e.pass (e.attempts ∙ x.told_is);
    }

pub loop-end-preserved : goal.loop-end-preserved
loop-end-preserved g c =
    let t = c.in_default.ensures.0 in
    let old = c.loop-end.invariant in
    let bound = old.bound in
    let falls = t.falls.whole_falls in
    let w : Worker g.row.P.Denot = c.loop-end.worker in
    let new : Worker g.row.P.Denot = c.call_next.new.self in
    record {
      works = t.works (course_of c.args.thread c.args.player c.args.number c.args.retries) (bounds_of c.args.thread.engine) old.works;
      made = (
        suc old.made.0,
        (
          account_of w,
          w.thread,
          old.made.1,
          subst (λ (y : ℕ × ℕ). IsMade c.args.words.now g.P.Player y.0 y.1 (account_of w) w.thread None (account_of new) new.thread) (λ i. (old.number i, old.retries i)) t.made,
          subst (λ (y : ℕ × ℕ). IsLet g.G.Gate.answers y.0 y.1 w.thread) (λ i. (old.number i, old.made.2 i)) c.in_default.ensures.1,
        ),
        counted old.made.0 w.calls new.calls old.made.2 c.in_default.ensures.2,
      );
      bound = omega arith;
      number = t.thread ∙ old.number;
      retries = t.retries ∙ old.retries;
    }

pub loop-end-smaller : goal.loop-end-smaller
loop-end-smaller g c =
    let t = c.in_default.ensures.0 in
    let old = c.loop-end.invariant in
    let w : Worker g.row.P.Denot = c.loop-end.worker in
    let new : Worker g.row.P.Denot = c.call_next.new.self in
    let k : ℕ = g.P.Player.calls_left c.args.player in
    subst (λ (y : ℕ × ℕ). rank g.P.Player y.0 y.1 k (in_transaction new.thread.engine) new.run.nth (restarts_left new.thread.engine) new.run.player
    < rank g.P.Player y.0 y.1 k (in_transaction w.thread.engine) w.run.nth (restarts_left w.thread.engine) w.run.player)
    (λ i. (old.retries i, old.works.running.limit i)) (t.falls.rank_falls k old.bound)
