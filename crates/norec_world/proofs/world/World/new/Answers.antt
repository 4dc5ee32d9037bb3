use Rattle.norec_world.proofs.{AreOfActors, HasStarted, RunsFrom, World, bytes_of, commits_first, dated_first, first_engine, first_of, laid_first, opens_none, rows_in, words_of, words_of-bytes_of, world_opaque, world_tied, rules, ◌≡◌, ◌/◌, ℕ, length, List, slice_get, sym, ap, subst, ◌∙◌, ◌++◌}
use Rattle.norec_world.proofs.world.World.new.Goals as goal

pub invariant_of-result : goal.invariant_of-result
invariant_of-result g c = let w : World g.row.P.Denot = record { opening = c.in_ok-opening.opening.items; base = c.new-base.result; arena = c.args.setup.arena; limits = c.args.setup.limits; cells = c.new-memory.result; actors = c.in_ok-actors.actors.items; attempts = (rows_in c.start_all.new.ended); events = 0 } in
    let based : c.new-base.result ≡ bytes_of c.new-memory.result.words = (c.new-base.ensures ∙ (c.in_ok-to_vec.ensures.items_if_clones_equal (λ x y e. e) ∙ c.as_slice.ensures)) ∙ (sym c.into_vec.ensures ∙ sym c.new-memory.ensures.bytes) in
    let commits = commits_first g.P.Player w c.in_ok-actors.ensures.sound c.new-memory.ensures.clock c.in_ok-actors.ensures.none c.in_ok-actors.ensures.first in record {
      actors = search rules;
      long = search rules;
      commits = commits;
      running = record {
        laid = laid_first c.args.setup.limits.depth c.new-base.result c.new-memory.result (rows_in c.start_all.new.ended) based c.new-memory.ensures.fit c.new-memory.ensures.clock c.in_ok-actors.ensures.none;
        threads = subst (AreOfActors (length c.in_ok-actors.actors.items)) (sym c.in_ok-actors.ensures.none) tt;
        each = λ place p a e f.
            (let players : c.in_ok-opening.opening.items ≡ c.args.players.items = search rules in
            subst (λ (base : List ℕ). RunsFrom g.P.Player (first_of p c.args.setup.arena) c.args.setup.limits.depth base c.new-memory.result (rows_in c.start_all.new.ended) a) (sym based)
            (c.in_ok-actors.ensures.runs place p a (ap (λ (xs : List g.row.P.Denot). slice_get xs place) (sym players) ∙ e) f));
      };
      dated = dated_first w c.new-memory.ensures.clock c.in_ok-actors.ensures.none (λ place a e. (c.in_ok-actors.ensures.first place a e).between);
    }

pub returns-clause-commits : goal.returns-clause-commits
returns-clause-commits g c = (invariant_of-result g c).commits

pub returns-clause-opaque : goal.returns-clause-opaque
returns-clause-opaque g c = world_opaque g.P.Player g.met.P.Player.laws _ (invariant_of-result g c)

pub returns-clause-tied : goal.returns-clause-tied
returns-clause-tied g c = world_tied g.P.Player g.met.P.Player.laws _ (invariant_of-result g c)

pub returns-clause-begins : goal.returns-clause-begins
returns-clause-begins g c =
    let given : c.new-base.result ≡ c.args.setup.bytes = c.new-base.ensures ∙ (c.in_ok-to_vec.ensures.items_if_clones_equal (λ x y e. e) ∙ c.as_slice.ensures) in
    let based : c.new-base.result ≡ bytes_of c.new-memory.result.words = given ∙ (sym c.into_vec.ensures ∙ sym c.new-memory.ensures.bytes) in
    record {
      opening = search rules;
      memory = search rules;
      setup_is = search rules;
      anew = record {
        starts = λ place p a e f.
            (let players : c.in_ok-opening.opening.items ≡ c.args.players.items = search rules in
            let words : length c.new-memory.result.words ≡ length c.args.setup.bytes / 8 = search rules in
            subst (λ (n : ℕ). HasStarted g.P.Player c.new-memory.result.clock (first_engine n c.args.setup.arena c.args.setup.limits) c.args.setup.limits.retries place p a)
            (words ∙ ap (λ (b : List ℕ). length b / 8) (sym given)) (c.in_ok-actors.ensures.starts place p a (ap (λ (xs : List g.row.P.Denot). slice_get xs place) (sym players) ∙ e) f));
        first = c.in_ok-actors.ensures.first;
        clock = c.new-memory.ensures.clock;
        words = sym (ap words_of based ∙ words_of-bytes_of c.new-memory.result.words c.new-memory.ensures.fit);
        none = (λ i. c.in_ok-actors.ensures.none i ++ opens_none c.in_ok-actors.actors.items c.in_ok-actors.ensures.none_open i);
        events = search rules;
        actors = search rules;
        fed = search rules;
      };
    }
