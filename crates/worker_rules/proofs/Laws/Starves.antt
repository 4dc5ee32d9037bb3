-- A worker to whose player's next call memory was refused.
use Rattle.std.proofs.Common.{◌≡◌, ◌/◌, Bool, true, false, true≢false, if◌then◌else◌, List, ◌++◌, ◌≤◌, length, length-append, refl, sym, ap, subst, ◌∙◌, arith}
use Rattle.worker_rules.proofs.Common.{Account, AreFew, AreOver, Attempt, Bounds, Call, Commit, Core, Course, Current, HasPlaces, Idle, IsHungry, IsRoomier, IsSame, IsStopped, IsToldBy, MayStop, MayTell, Open, Outside, Owns, Ran, Rules, RunsOn, Stage, Standing, Stands, Within, Words, Worker, account_of, after_undoing, begins, bounds_of, in_transaction, outside, over_as, rolled_back, stage_of, stand_of, start_of, told_in, total, undone_of, view_of, within}
use Rattle.norec_core.specs.declared.answer.Undone.TheVariants.{Done, Held, Nothing}
use Rattle.tx_attempts.specs.declared.attempt.Outcome.TheVariants as outcomes
use Rattle.tx_runs.specs.declared.ending.End.TheVariants as ends
use Rattle.worker_rules.proofs.Laws.Places.{if_open, tells_in}
use Rattle.worker_rules.proofs.Laws.Rooms.{same_over, within_inside}
use Rattle.worker_rules.proofs.Laws.Rows.{few_more, few_over, over_more}
use Rattle.worker_rules.proofs.Laws.Shortages.{used_here}
use Rattle.worker_rules.proofs.Machines.PlainActions.{given_up_runs}

-- the clock is held just where the answer says so
held_clock : (holds inside : Bool) → (if holds then Held else (if inside then Done else Nothing)) ≡ Held → holds ≡ true
held_clock true inside e = refl
held_clock false true e = absurd (cc)
held_clock false false e = absurd (cc)

free_clock : (holds inside : Bool) → ((if holds then Held else (if inside then Done else Nothing)) ≡ Held → ⊥) → holds ≡ false
free_clock true inside n = absurd (n refl)
free_clock false inside n = refl

module _ {P : Type 0} {rules : Rules P} {words : Words} {c : Course P} {b : Bounds} {old self : Worker P} {call : Call} (k : IsHungry rules words c b old call self) where
  -- all that had come to run is told in the open attempt
  told_is : (o' : Open) → self.run.current ≡ Within o' → told_in o'.row ≡ length old.thread.engine.actions.ran
  told_is o' is = by_old old.run.current refl (subst (IsRoomier old.run.current) is k.unprepared.roomier)
    where
      by_old : (x : Current) → old.run.current ≡ x → IsRoomier x (Within o') → told_in o'.row ≡ length old.thread.engine.actions.ran
      by_old (Within o) was r =
          let inside = within_inside old k.works.running o.row o.points (ap stage_of was) in
          ap told_in r.0 ∙ (ap told_in (sym inside.1) ∙ sym (k.works.running.inside inside.0).try.is_open.due)
      by_old x was r = absurd r

  pub told_by : IsToldBy self.thread.engine.actions.ran self.run.current
  told_by = if_open (IsToldBy self.thread.engine.actions.ran) tt (λ o. tt) self.run.current (λ o is. (let told = told_is o is in let same = ap (λ (t : Standing). length t.engine.actions.ran) k.thread in let r : told_in o.row ≤ length self.thread.engine.actions.ran = omega arith in r))

module _ {P : Type 0} {rules : Rules P} {words : Words} {c : Course P} {b : Bounds} {old self : Worker P} {call : Call} (k : IsHungry rules words c b old call self) (thread : Standing) (engine : thread.engine ≡ after_undoing self.thread.engine) (pass : thread.pass ≡ self.thread.pass) where
  abbrev e : Core
  e = old.thread.engine

  engine_is : thread.engine ≡ after_undoing old.thread.engine
  engine_is = engine ∙ ap (λ (t : Standing). after_undoing t.engine) k.thread

  pass_is : thread.pass ≡ old.thread.pass
  pass_is = pass ∙ ap (λ (t : Standing). t.pass) k.thread

  limits : (x : Core) → bounds_of (after_undoing x) ≡ bounds_of x
  limits x = by_held x.holds
    where
      by_held : (h : Bool) → bounds_of (if h then x else record (rolled_back x) { stage = Idle; tries = 0 }) ≡ bounds_of x
      by_held true = refl
      by_held false = refl

  same_with : Stands (view_of thread.pass) thread.engine → (new : Worker P) → new.thread ≡ thread → new.run.thread ≡ old.run.thread → new.run.retries ≡ old.run.retries → AreOver new.ended.items → AreFew b.max_commits new.ended.items → IsSame words c b new
  same_with stands new is number retries over below = record {
    own = subst (λ (t : Standing). Owns words t.pass) (sym is) (subst (Owns words) (sym pass_is) k.works.same.own);
    stands = subst (λ (t : Standing). Stands (view_of t.pass) t.engine) (sym is) stands;
    number = number ∙ k.works.same.number;
    retries = retries ∙ k.works.same.retries;
    few = k.works.same.few;
    limit = k.works.same.limit;
    over = over;
    below = below;
    bounds = ap (λ (t : Standing). bounds_of t.engine) is ∙ (ap bounds_of engine_is ∙ (limits e ∙ k.works.same.bounds));
  }

  roomy : HasPlaces old.thread.engine self.ended self.run.current
  roomy = k.unprepared.roomy

  -- ## It is rolled back

  module _ (given_up : undone_of self.thread.engine ≡ Held → ⊥) where
    free : old.thread.engine.holds ≡ false
    free = ap (λ (t : Standing). t.engine.holds) (sym k.thread) ∙ free_clock self.thread.engine.holds (in_transaction self.thread.engine) given_up

    revocable : old.thread.engine.irrevocable ≡ false
    revocable = sym k.works.same.stands.mode ∙ free

    runs : RunsOn 0 old.thread.engine.actions thread.engine.actions
    runs = given_up_runs (start_of old.thread Commit false) thread.engine k.works.same.stands revocable engine_is

    pub may_stop : MayStop (thread.engine.snapshot / 2) thread.engine.actions.ran self.run.current
    may_stop = if_open (MayStop (thread.engine.snapshot / 2) thread.engine.actions.ran) tt (λ o. tt) self.run.current
        (λ o is. (let told = told_is k o is in
        let places = subst (HasPlaces old.thread.engine self.ended) is roomy in
        let most = runs.most in
        let room = places.1 in
        let longer = ap (length {A = Ran}) runs.ran ∙ length-append old.thread.engine.actions.ran runs.later in
        (omega arith, omega arith)))

    pub may_tell : MayTell self.run.current self.ended
    may_tell = tells_in old.thread.engine self.ended self.run.current roomy

    pub starves : (shuts : Bool) → Stands (view_of thread.pass) thread.engine → (new : Worker P) → new.thread ≡ thread → new.run ≡ record self.run { current = Outside } → new.ended.items ≡ self.ended.items ++ over_as outcomes.NoMemory (stand_of thread.engine) (stage_of self.run.current)
        → IsStopped rules words c b shuts ends.NoMemory old new
    starves shuts stands new is run ended =
        let over : List Attempt = over_as outcomes.NoMemory (stand_of thread.engine) (stage_of old.run.current) in
        let ended_is : new.ended.items ≡ old.ended.items ++ over = ended ∙ (λ i. k.unprepared.ended i ++ same_over outcomes.NoMemory (stand_of thread.engine) old.run.current self.run.current k.unprepared.roomier i) in
        let left : Account P = record (account_of old) { stage = outside; ended = old.ended.items ++ over_as outcomes.NoMemory (stand_of new.thread.engine) (stage_of old.run.current) } in
        let shut : new.run.current ≡ Outside = ap (λ (r : _). r.current) run in
        let here : old.ended.items ++ over ≡ left.ended = ap (λ (t : Standing). old.ended.items ++ over_as outcomes.NoMemory (stand_of t.engine) (stage_of old.run.current)) (sym is) in
        record {
          same = same_with stands new is (ap (λ (r : _). r.thread) run ∙ ap (λ (r : _). r.thread) k.run) (ap (λ (r : _). r.retries) run ∙ ap (λ (r : _). r.retries) k.run) (subst AreOver (sym ended_is) (over_more old.ended.items over k.works.same.over (ended_over (stage_of old.run.current)))) (subst (AreFew b.max_commits) (sym ended_is) (few_more b.max_commits old.ended.items over k.works.same.below (few_over b.max_commits outcomes.NoMemory refl (stand_of thread.engine) (stage_of old.run.current))));
          left = left;
          stops = record {
            call = call;
            asks = k.asks;
            begins = k.unprepared.begins;
            used = used_here k;
            pass = ap (λ (t : Standing). t.pass) is ∙ pass_is;
            engine = ap (λ (t : Standing). t.engine) is ∙ engine_is;
            held = λ held. absurd (true≢false (sym held ∙ revocable));
            over = λ r. refl;
          };
          over = subst AreOver here (over_more old.ended.items over k.works.same.over (ended_over (stage_of old.run.current)));
          below = subst (AreFew b.max_commits) here (few_more b.max_commits old.ended.items over k.works.same.below (few_over b.max_commits outcomes.NoMemory refl (stand_of thread.engine) (stage_of old.run.current)));
          told_is = (λ i. (ended_is ∙ here) i ++ over_as outcomes.Unfinished (stand_of new.thread.engine) (stage_of (shut i)));
          may_stop = subst (MayStop (new.thread.engine.snapshot / 2) new.thread.engine.actions.ran) (sym shut) tt;
          may_tell = subst (λ (x : Current). MayTell x new.ended) (sym shut) tt;
        }
      where
        ended_over : (g : Stage) → AreOver (over_as outcomes.NoMemory (stand_of thread.engine) g)
        ended_over outside = tt
        ended_over (begins row) = tt
        ended_over (within row points) = ((λ e. cc), tt)

  -- ## It stays, with the clock held

  pub holds_on : undone_of self.thread.engine ≡ Held → (shuts : Bool) → Stands (view_of thread.pass) thread.engine → IsStopped rules words c b shuts ends.NoMemory old (record self { thread = thread })
  holds_on held shuts stands =
      let holds : old.thread.engine.holds ≡ true = ap (λ (t : Standing). t.engine.holds) (sym k.thread) ∙ held_clock self.thread.engine.holds (in_transaction self.thread.engine) held in
      let still : thread.engine ≡ old.thread.engine = engine_is ∙ ap (λ (h : Bool). if h then old.thread.engine else record (rolled_back old.thread.engine) { stage = Idle; tries = 0 }) holds in
      let irrevocable : old.thread.engine.irrevocable ≡ true = sym k.works.same.stands.mode ∙ holds in
      record {
        same = same_with stands (record self { thread = thread }) refl (ap (λ (r : _). r.thread) k.run) (ap (λ (r : _). r.retries) k.run) (subst AreOver (sym k.unprepared.ended) k.works.same.over) (subst (AreFew b.max_commits) (sym k.unprepared.ended) k.works.same.below);
        left = account_of old;
        stops = record {
          call = call;
          asks = k.asks;
          begins = k.unprepared.begins;
          used = used_here k;
          pass = pass_is;
          engine = engine_is;
          held = λ h. refl;
          over = λ r. absurd (true≢false (sym irrevocable ∙ r));
        };
        over = k.works.same.over;
        below = k.works.same.below;
        told_is = (λ i. k.unprepared.ended i ++ same_over outcomes.Unfinished (stand_of thread.engine) old.run.current self.run.current k.unprepared.roomier i);
        may_stop = if_open (MayStop (thread.engine.snapshot / 2) thread.engine.actions.ran) tt (λ o. tt) self.run.current
            (λ o is. (let told = told_is k o is in
            let same = ap (λ (x : Core). length x.actions.ran) still in
            let all = ap (λ (x : Core). total x.actions) still in
            let room = (subst (HasPlaces old.thread.engine self.ended) is roomy).1 in
            (omega arith, omega arith)));
        may_tell = tells_in old.thread.engine self.ended self.run.current roomy;
      }
