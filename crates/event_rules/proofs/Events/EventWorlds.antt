-- An actor of a world took an event, a step and the local work that follows it: the world that it leaves, and that the event says so.
use Rattle.std.proofs.Common.{◌≡◌, ℕ, Bool, true, false, List, length-set, slice_get, slice_set, Option, None, Some, IsSome, refl, sym, ap, subst, ◌∙◌, arith}
use Rattle.event_rules.proofs.Common.{Actor, ActorGoes, AreOpaque, AreTied, Cells, ClocksOn, Continues, Finished, Goes, HasLess, HasRead, HasStepped, HasWorked, IsEvent, IsWorld, KeepsOthers, Obeys, Rows, Rules, TellsCall, TellsEvent, Tries, World, asks_further, calls_of, continues_on, ending_at, ending_of, event_less, event_result, going_in, is_ready, is_step, is_waiting, lawful_at, observed, others_twice, prior_of, same_Some, slice_get-set_same, slice_get_within, slice_index_or, waiting_step, waits_at}
use Rattle.event_rules.proofs.Events.FurtherSteps.{asks_as, waits_on}
use Rattle.world_rules.proofs.Events.WorldEvents.{no_fault, told_event, waits_not_ended}
use Rattle.event_rules.proofs.Runs.Others.{has_read, running_after, world_opaque, world_tied}
use Rattle.std.specs.Option.{option_map_or, option_and_then}
use Rattle.event_rules.proofs.{Commits.CommitCounts.commits_after, Engines.ClockHolders.clocks_still, Engines.ClockHolders.clocks_twice, Engines.Intakes.ready_of, Engines.SoundSteps.rests, Events.SoundOthers.actors_after, Tries.Dates.dated_after, Tries.TryChains.tries_then}
use Rattle.world_rules.specs.World.{counted}

-- ## A step and its local work are one event

module _ {P : Type 0} {rules : Rules P} {cells cells' : Cells} {r r1 r2 : Rows} {a a1 a2 : Actor P} (x : HasStepped rules cells r a cells' r1 a1) (y : HasWorked rules cells' r1 a1 r2 a2) where
  event_others : KeepsOthers a r a2 r2
  event_others = others_twice a a1 a2 r r1 r2 x.others y.others

  event_clocks : ClocksOn cells a.engine cells' a2.engine
  event_clocks = clocks_twice cells cells' cells' a.engine a1.engine a2.engine x.clocks (clocks_still cells' a1.engine a2.engine y.holds y.clock y.limit)

  event_then : (deepest : ℕ) (base : List ℕ) → HasRead deepest base r1 a1 → (event : IsEvent rules cells r a cells' r2 a2) × HasRead deepest base event.rows event.stepped
  event_then deepest base read =
      let tries = tries_on (is_ready a1.status) refl in
      (record { rows = r1; stepped = a1; takes = x.takes; works = y.works; tries = tries; finishes = finishes_on (is_ready a1.status) refl; others = event_others; clocks = event_clocks; retries = y.retries ∙ x.takes.same.retries }, read)
    where
      tries_on : (b : Bool) → is_ready a1.status ≡ b → Tries (Continues cells.clock) cells.clock (prior_of r a) cells'.clock r2 a2
      tries_on true w =
          let ready = ready_of a1.status w in
          tries_then (Continues cells.clock) (continues_on cells.clock) cells.clock cells'.clock (prior_of r a) r1 r2 a1 a2 ready (rests x.sound ready).nothing x.clocks.limit.0 x.takes.same.retries x.clocks.limit.3 y.snapshot (y.tries w) x.tries
      tries_on false n =
          let same = y.still n in
          subst (λ (z : Rows). Tries (Continues cells.clock) cells.clock (prior_of r a) cells'.clock z a2) (sym same.1) (subst (Tries (Continues cells.clock) cells.clock (prior_of r a) cells'.clock r1) (sym same.0) x.tries)

      finishes_on : (b : Bool) → is_ready a1.status ≡ b → ending_of a2.status ≡ Some Finished → rules.next_call a2.run.player ≡ None
      finishes_on true w end = y.finishes w end
      finishes_on false n end = absurd (x.unfinished (ap (λ (z : Actor P). ending_of z.status) (sym (y.still n).0) ∙ end))

-- ## In a world

-- what holds of a world holds of it by another name
module _ {P : Type 0} {rules : Rules P} (laws : Obeys rules) {w v : World P} (is : w ≡ v) (kept : IsWorld rules w) where
  pub opaque_as : AreOpaque rules (observed v)
  opaque_as = subst (λ (x : World P). AreOpaque rules (observed x)) is (world_opaque rules laws w kept)

  pub tied_as : AreTied rules v
  tied_as = subst (AreTied rules) is (world_tied rules laws w kept)

-- the world with these cells, rows and events, and this actor at this place
abbrev pub led : {P : Type 0} → World P → ℕ → Cells → Rows → Actor P → ℕ → World P
led w i cells r a events = record w { cells = cells; actors = slice_set w.actors i a; attempts = r; events = events }

module _ {P : Type 0} {rules : Rules P} (laws : Obeys rules) {w v : World P} (is : w ≡ v) (kept : IsWorld rules w) (i : ℕ) (got : Actor P) (some : IsSome (waits_at v i)) (read : got ≡ slice_index_or w.actors i got)
    {cells' : Cells} {r1 r2 : Rows} {a1 a2 : Actor P} (x : HasStepped rules w.cells w.attempts got cells' r1 a1) (y : HasWorked rules cells' r1 a1 r2 a2) (done : is_ready a2.status ≡ false) where
  here : slice_get w.actors i ≡ Some got
  here = (going_in is i got some read).0

  event : (events : ℕ) → (e : IsEvent rules w.cells w.attempts got cells' r2 a2) × HasRead w.limits.depth w.base e.rows e.stepped
  event events = event_then x y w.limits.depth w.base (has_read rules laws w kept i got a1 here cells' r1 events x.others x.clocks x.runs x.sound.tied)

  pub world_after : (events : ℕ) → IsWorld rules (led w i cells' r2 a2 events)
  world_after events =
      let commits = commits_after rules w kept.commits i got a2 here cells' r2 events (event events).0 in
      record {
        actors = actors_after rules w.cells cells' w.attempts r2 w.actors kept.actors i got a2 here y.sound done (event_others x y) (event_clocks x y);
        long = length-set w.actors i a2 ∙ kept.long;
        commits = commits;
        running = running_after rules laws w kept i got a2 here cells' r2 events (event_others x y) (event_clocks x y) (λ first deepest base laid runs. (let z = x.runs first deepest base laid runs in y.runs first deepest base z.0 z.1));
        dated = dated_after w kept i got a2 here cells' r2 events (event events).0 (going_in is i got some read).1 commits.counted.all;
      }

  pub goes_after : (events : ℕ) → events ≡ counted w.events 1 → Goes rules i v (event_result (ending_at (led w i cells' r2 a2 events) i)) (led w i cells' r2 a2 events)
  goes_after events counts =
      let after : World P = led w i cells' r2 a2 events in
      let waits = subst (λ (z : World P). IsSome (waits_at z i)) (sym is) some in
      let kept' = world_after events in
      let e = event events in
      subst (λ (z : World P). Goes rules i z (event_result (ending_at after i)) after) is (record {
        no_such = (λ e. no_fault (ending_at after i) e refl, λ l. absurd (let n = slice_get_within w.actors i got here in omega arith));
        ended = (λ e. no_fault (ending_at after i) e refl, λ e. absurd (waits_not_ended w i waits e));
        event = (λ e. waits, λ e. told_event (ending_at after i));
        answer = λ e. refl;
        lawful = lawful_at rules w w.attempts kept.actors i;
        operation = λ step e. x.cells_are step (sym (ap (option_and_then (λ (a : Actor P). waiting_step a.status)) here) ∙ e);
        counts = λ e. counts;
        unchanged = λ e. absurd (let u = told_event (ending_at after i) in cc);
        event_of = λ a there taken. subst (λ (z : Actor P). ActorGoes rules i w z after) (same_Some _ _ (sym here ∙ there)) (a2, refl, e.0, done, e.1);
        commits = kept'.commits;
        opaque = world_opaque rules laws after kept';
        tied = world_tied rules laws after kept';
        opening = record { opening = refl; base = refl; arena = refl; limits = refl };
        actors = length-set w.actors i a2;
      })

  pub less_after : (on : Bool) → is_waiting a1.status ≡ on → (a b : Actor P) → slice_get v.actors i ≡ Some a → slice_get (slice_set w.actors i a2) i ≡ Some b → HasLess rules on a b
  less_after on on_is a b there there' =
      let first : got ≡ a = same_Some _ _ (sym here ∙ (ap (λ (z : World P). slice_get z.actors i) is ∙ there)) in
      let last : a2 ≡ b = same_Some _ _ (sym (slice_get-set_same w.actors i a2 (slice_get_within w.actors i got here)) ∙ there') in
      subst (λ (z : Actor P). HasLess rules on z b) first (subst (HasLess rules on got) last (event_less rules got a1 a2 (going_in is i got some read).1 x.goes_on x.falls (λ e. (y.still e).0) y.less on on_is))

  -- whether its call goes on
  module _ (on : Bool) (on_is : is_waiting a1.status ≡ on) (events : ℕ) where
    asked : on ≡ is_step x.takes.what
    asked = sym on_is ∙ waits_on x.takes

    told_here : TellsCall rules i on w (led w i cells' r2 a2 events)
    told_here =
        let further : on ≡ asks_further w.cells got.engine (waiting_step got.status) = asked ∙ sym (asks_as x.takes) in
        record {
          before = further ∙ sym (ap (λ (o : Option (Actor P)). option_map_or (λ a. asks_further w.cells a.engine (waiting_step a.status)) o false) here);
          event = λ a a' there e. further ∙ (ap (λ (z : Actor P). asks_further w.cells z.engine (waiting_step z.status)) (same_Some _ _ (sym here ∙ there)) ∙ asks_as e.takes);
        }

    pub tells_after : TellsCall rules i on v (led w i cells' r2 a2 events)
    tells_after = subst (λ (z : World P). TellsCall rules i on z (led w i cells' r2 a2 events)) is told_here

    -- and how many calls of its open attempt had a reply once its step was done
    pub told_after : (calls : ℕ) → calls ≡ calls_of a1 → TellsEvent rules i on calls v (led w i cells' r2 a2 events)
    unfolding event event_then
    told_after calls replied =
        subst (λ (z : World P). TellsEvent rules i on calls z (led w i cells' r2 a2 events)) is (record {
          call = told_here;
          was = got;
          now = a2;
          there = here;
          here = slice_get-set_same w.actors i a2 (slice_get_within w.actors i got here);
          event = (event events).0;
          asks = asked;
          replied = replied;
        })
