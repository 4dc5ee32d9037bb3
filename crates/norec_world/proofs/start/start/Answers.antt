use Rattle.std.proofs.Common.{◌<◌, ◌^◌, ℕ}
use Rattle.norec_world.proofs.{Core, IsBetween, IsSettled, PlayerRun, RunsFrom, begun_in, bytes_of, count_in, first_engine, first_of, fresh_runs, is_ready, laid_first, limits_as, limits_stay, open_in, opening, opening_settled, prior_of, rows_in, stage_of, starts_between, ◌≡◌, refl, replicate, length, ◌∙◌, ap, subst, sym, rules, arith}
use Rattle.norec_world.proofs.start.start.Goals.{After-fresh-actor, After-work}
use Rattle.norec_world.proofs.start.start.Goals as goal

-- the engine that it begins with
engine_is : (g : _) (c : After-fresh-actor g) → c.fresh-actor.result.engine ≡ first_engine (length c.args.memory.now.words) c.args.terms.arena c.args.terms.limits
engine_is g c =
    c.fresh-actor.ensures.engine ∙ (c.in_ok-engine.ensures.ok ∙ (λ i. opening (c.words.ensures i) (c.in_ok-arena.ensures i) c.args.terms.limits.patience c.args.terms.limits.max_commits c.args.terms.limits.depth c.args.terms.limits.restarts))

-- it is between two tries, and none has ended
begins_between : (g : _) (c : After-work g) → IsBetween c.args.memory.now.clock 1 c.work.new.actor × (c.work.new.ended.items ≡ c.args.ended.now.items)
begins_between g c =
    let run = c.fresh-actor.ensures.run in
    starts_between c.args.memory.now.clock 1 (prior_of (rows_in c.args.ended.now) c.fresh-actor.result) (rows_in c.work.new.ended) c.work.new.actor (c.work.ensures.worked.tries (ap is_ready c.fresh-actor.ensures.status))
    (ap (λ (x : PlayerRun g.row.P.Denot). open_in (stage_of x.current)) run) (ap (λ (x : PlayerRun g.row.P.Denot). begun_in (stage_of x.current)) run) (ap (λ (x : PlayerRun g.row.P.Denot). x.nth) run)

pub work-requires : goal.work-requires
work-requires g c =
    let engine = engine_is g (goal.at.work-requires g c).After-fresh-actor in
    record {
      tied = record {
        words = ap (λ (e : Core). e.words) engine;
        fit = c.requires.fresh.fit;
        late = search rules;
        holder = search rules;
        small = (let small : c.args.terms.limits.restarts < 2 ^ 32 = omega arith in subst (λ (n : ℕ). n < 2 ^ 32) (sym (ap (λ (e : Core). e.restarts) engine)) small);
        settled = subst IsSettled (sym engine) (opening_settled (length c.args.memory.now.words) (replicate c.args.terms.arena 0) c.args.terms.limits.patience c.args.terms.limits.max_commits c.args.terms.limits.depth c.args.terms.limits.restarts c.args.terms.commits c.args.terms.deep);
      };
      kept = search rules;
      acts = search rules;
      status = search rules;
      place = search rules;
    }

pub returns-in_default : goal.returns-in_default
returns-in_default g c =
    let at = goal.at.returns-in_default g c in
    let cells = c.args.memory.now in
    let limits = c.args.terms.limits in
    let run = c.fresh-actor.ensures.run in
    let engine = engine_is g at.After-fresh-actor in
    let between = begins_between g at.After-work in
    let worked = c.work.ensures.worked in
    record {
      sound = worked.sound;
      starts = record {
        fresh = c.fresh-actor.result;
        engine_is = engine;
        run = run;
        ready = c.fresh-actor.ensures.status;
        rows = rows_in c.args.ended.now;
        rows' = rows_in c.work.new.ended;
        works = worked.works;
        done = c.work.ensures.done;
        finishes = worked.finishes (ap is_ready c.fresh-actor.ensures.status);
        thread = worked.others.thread ∙ ap (λ (x : PlayerRun g.row.P.Denot). x.thread) run;
      };
      first = record {
        between = between.0;
        limits_are = limits_stay c.fresh-actor.result c.work.new.actor worked.retries worked.limit
            ∙ limits_as c.fresh-actor.result (length cells.words) c.args.terms.arena limits engine (ap (λ (x : PlayerRun g.row.P.Denot). x.retries) run);
        seen = worked.clock ∙ (ap (λ (e : Core). e.clock) engine ∙ sym c.requires.fresh.clock);
      };
      runs = λ none.
          (let fresh = fresh_runs g.P.Player g.met.P.Player.laws cells (rows_in c.args.ended.now) c.fresh-actor.result limits.depth (bytes_of cells.words) c.args.terms.arena limits.patience limits.max_commits limits.restarts
          (subst (λ (p : g.row.P.Denot). g.P.Player.depth p ≡ 0) (sym (ap (λ (x : PlayerRun g.row.P.Denot). x.player) run)) c.requires.outside) engine none (ap (λ (x : PlayerRun g.row.P.Denot). x.nth) run) (ap (λ (x : PlayerRun g.row.P.Denot). x.again) run) (ap (λ (x : PlayerRun g.row.P.Denot). x.current) run) c.fresh-actor.ensures.status in
          (worked.runs (first_of c.args.player c.args.terms.arena) limits.depth (bytes_of cells.words) (laid_first limits.depth (bytes_of cells.words) cells (rows_in c.args.ended.now) refl c.requires.fresh.fit c.requires.fresh.clock none)
          (subst (λ (p : g.row.P.Denot). RunsFrom g.P.Player (first_of p c.args.terms.arena) limits.depth (bytes_of cells.words) cells (rows_in c.args.ended.now) c.fresh-actor.result) (ap (λ (x : PlayerRun g.row.P.Denot). x.player) run) fresh)).1);
      free = search rules;
      fed = search rules;
      ended = between.1;
      others = λ others few room.
          (let none = ap (λ (x : PlayerRun g.row.P.Denot). count_in (stage_of x.current)) run in
          worked.others.room others few (omega arith));
    }
