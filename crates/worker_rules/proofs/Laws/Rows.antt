-- What a worker's next call makes of it.
use Rattle.std.proofs.Common.{◌≡◌, ℕ, ◌+◌, ◌/◌, ◌<◌, Bool, true, false, List, [], ◌∷◌, ◌++◌, length, Option, None, Some, refl, sym, ap, subst, ◌∙◌, arith, inl, inr, unwrap_or, true≢false, vec_len, vec_capacity}
use Rattle.worker_rules.proofs.Common.{Account, Answer, AreFew, AreOver, Attempt, Begins, Bounds, Call, Committed, Core, Course, Current, End, Falls, GoesOnOrStops, HasActionPlaces, HasBlockPlaces, HasPlaces, IsAsked, IsMade, IsPromised, IsReadyFor, IsRunning, IsSame, IsStopped, IsWorking, KeepsPlaces, MayStop, MayTell, Obeys, Open, OpensBy, Outcome, Outside, Owns, Rules, Served, Stage, Stand, Standing, Stands, Start, StopsAs, Taken, Tally, View, Within, Words, Worker, account_after, account_of, asked, begins_again, begins, bounds_of, in_transaction, irrevocable_room, is_committed, is_inside, is_taken, outcome_by, outside, over_as, restarts_left, stage_of, stand_of, start_of, tally_of, took_in, view_in, view_of, within, within_untold}
use Rattle.tx_attempts.specs.declared.attempt.Outcome.TheVariants as outcomes
use Rattle.tx_runs.specs.declared.ending.End.TheVariants as ends
use Rattle.std.proofs.lemmas.Bool.{cases_Bool}
use Rattle.worker_rules.proofs.Laws.Places.{blocks_opened, if_open, none_at}
use Rattle.worker_rules.proofs.Laws.Rooms.{begins_call, begun_places, last, open_places, promises_opened, room_back, still_within}
use Rattle.worker_rules.proofs.Machines.PlainActions.{begun_none}
use Rattle.worker_rules.proofs.Laws.Answers.{Both, both}

-- what is over has ended
over_ended : {P : Type 0} (rules : Rules P) (retries : ℕ) (t : Tally P) (call : Call) (answer : Answer) (s : Stand) → AreOver (took_in rules retries t call answer s).over
over_ended rules retries t call answer s = elim (is_taken call s rules retries t.player t.nth t.again t.stage answer).over [
  | inl none ↦ subst AreOver (sym none) tt
  | inr y ↦ subst AreOver (sym y.4) ((λ e. ended answer (sym y.6 ∙ e)), tt)
]
  where
    ended : (x : Answer) → outcome_by x ≡ outcomes.Unfinished → ⊥
    ended (Committed at true) e = cc
    ended (Committed at false) e = cc
    ended x e = cc

pub over_more : (xs ys : List Attempt) → AreOver xs → AreOver ys → AreOver (xs ++ ys)
over_more [] ys o p = p
over_more (x ∷ xs) ys o p = (o.0, over_more xs ys o.1 p)

pub few_more : (most : ℕ) (xs ys : List Attempt) → AreFew most xs → AreFew most ys → AreFew most (xs ++ ys)
few_more most [] ys o p = p
few_more most (x ∷ xs) ys o p = (o.0, few_more most xs ys o.1 p)

pub few_over : (most : ℕ) (outcome : Outcome) → is_committed outcome ≡ false → (s : Stand) (g : Stage) → AreFew most (over_as outcome s g)
few_over most outcome none s (within row points) = ((λ c. absurd (true≢false (sym c ∙ none))), tt)
few_over most outcome none s outside = tt
few_over most outcome none s (begins row) = tt

-- what is over has not committed, or stands below the limit
pub over_few : {P : Type 0} (rules : Rules P) (retries : ℕ) (t : Tally P) (call : Call) (s : Start) (answer : Answer) (v : View) (e : Core) → Served s answer v e → AreFew s.engine.max_commits (took_in rules retries t call answer (stand_of e)).over
over_few rules retries t call s answer v e served = elim (is_taken call (stand_of e) rules retries t.player t.nth t.again t.stage answer).over [
  | inl none ↦ subst (AreFew s.engine.max_commits) (sym none) tt
  | inr y ↦ subst (AreFew s.engine.max_commits) (sym y.4) ((λ c. (let at = y.7 in let l = below answer served (ap is_committed (sym y.6) ∙ c) in omega arith)), tt)
]
  where
    below : (x : Answer) → Served s x v e → is_committed (outcome_by x) ≡ true → e.snapshot / 2 < s.engine.max_commits
    below (Committed at true) served c = (let l = served.tells.few refl in let is = served.tells.closes.at_is in omega arith)
    below (Committed at false) served c = absurd (cc)
    below x served c = absurd (cc)

-- what the worker is after it
pub record Took_in {P : Type 0} (rules : Rules P) (call : Call) (answer : Answer) (mid : Worker P) (end : Option End) (new : Worker P) : Type 0 where
  pub thread : new.thread ≡ mid.thread
  pub number : new.run.thread ≡ mid.run.thread
  pub retries : new.run.retries ≡ mid.run.retries
  pub tally : tally_of new.run ≡ (took_in rules mid.run.retries (tally_of mid.run) call answer (stand_of mid.thread.engine)).tally
  pub ended : new.ended.items ≡ mid.ended.items ++ (took_in rules mid.run.retries (tally_of mid.run) call answer (stand_of mid.thread.engine)).over
  pub end_is : end ≡ (took_in rules mid.run.retries (tally_of mid.run) call answer (stand_of mid.thread.engine)).end
  pub capacity : vec_capacity new.ended ≡ vec_capacity mid.ended
  pub len : vec_len new.ended ≡ vec_len mid.ended + length (took_in rules mid.run.retries (tally_of mid.run) call answer (stand_of mid.thread.engine)).over
  pub places : KeepsPlaces mid.thread.engine.actions.ran mid.run.current new.run.current

-- what it makes of the worker's run
asked_both : {P : Type 0} {rules : Rules P} (laws : Obeys rules) {words : Words} {c : Course P} {b : Bounds} {old mid : Worker P} {call : Call} {answer : Answer} (k : IsAsked rules words c b old call answer mid) → Both laws words c (account_of old) old.thread k.works.running k.works.same.own k.works.same.stands old.run.thread old.run.retries k.works.same.number k.works.same.retries call k.asks answer mid.thread k.answered
    (took_in rules old.run.retries (asked words rules old.run.thread old.run.retries old.thread (account_of old) call) call answer (stand_of mid.thread.engine))
asked_both laws {words} {c} {b} {old} {mid} {call} {answer} k = both laws words c (account_of old) old.thread k.works.running k.works.same.own k.works.same.stands old.run.thread old.run.retries k.works.same.number k.works.same.retries call k.asks answer mid.thread k.answered

module _ {P : Type 0} {rules : Rules P} (laws : Obeys rules) {words : Words} {c : Course P} {b : Bounds} {old mid : Worker P} {call : Call} {answer : Answer} (k : IsAsked rules words c b old call answer mid) (new : Worker P) (end : Option End) (t : Took_in rules call answer mid end new) where
  abbrev Told : Taken P
  Told = took_in rules mid.run.retries (tally_of mid.run) call answer (stand_of mid.thread.engine)

  abbrev TookIn : Taken P
  TookIn = took_in rules old.run.retries (asked words rules old.run.thread old.run.retries old.thread (account_of old) call) call answer (stand_of mid.thread.engine)

  told_is : Told ≡ TookIn
  told_is = λ i. took_in rules (k.prepared.retries i) (k.prepared.came i) call answer (stand_of mid.thread.engine)

  tally_is : tally_of new.run ≡ TookIn.tally
  tally_is = t.tally ∙ ap (λ (x : Taken P). x.tally) told_is

  ended_is : new.ended.items ≡ old.ended.items ++ TookIn.over
  ended_is = t.ended ∙ (λ i. k.prepared.ended i ++ (told_is i).over)

  account_is : account_of new ≡ account_after (account_of old) TookIn
  account_is = λ i. record { player = (tally_is i).player; nth = (tally_is i).nth; again = (tally_is i).again; stage = (tally_is i).stage; ended = ended_is i }

  end_told : end ≡ TookIn.end
  end_told = t.end_is ∙ ap (λ (x : Taken P). x.end) told_is

  pub is_made : IsMade words rules old.run.thread old.run.retries (account_of old) old.thread end (account_of new) new.thread
  is_made = subst (IsMade words rules old.run.thread old.run.retries (account_of old) old.thread end (account_of new)) (sym t.thread)
      (record { call = call; asks = k.asks; answer = answer; answered = k.answered; account = account_is; end_is = sym end_told })

  same_now : IsSame words c b new
  same_now =
      let limits = k.answered.served.limits in
      let bounds : bounds_of mid.thread.engine ≡ b = (λ i. record { max_commits = limits.0 i; patience = limits.1 i; depth = limits.2 i }) ∙ k.works.same.bounds in
      record {
        own = subst (λ (x : Standing). Owns words x.pass) (sym t.thread) k.answered.own;
        stands = subst (λ (x : Standing). Stands (view_of x.pass) x.engine) (sym t.thread) k.answered.stands;
        number = t.number ∙ (k.prepared.thread ∙ k.works.same.number);
        retries = t.retries ∙ (k.prepared.retries ∙ k.works.same.retries);
        few = k.works.same.few;
        limit = k.works.same.limit;
        over = subst AreOver (sym ended_is) (over_more old.ended.items TookIn.over k.works.same.over (over_ended rules old.run.retries (asked words rules old.run.thread old.run.retries old.thread (account_of old) call) call answer (stand_of mid.thread.engine)));
        below = subst (AreFew b.max_commits) (sym ended_is)
            (few_more b.max_commits old.ended.items TookIn.over k.works.same.below
            (subst (λ (n : ℕ). AreFew n TookIn.over) (ap (λ (x : Bounds). x.max_commits) k.works.same.bounds) (over_few rules old.run.retries (asked words rules old.run.thread old.run.retries old.thread (account_of old) call) call (start_of old.thread call (begins_again (stage_of old.run.current) old.run.again call)) answer (view_in mid) mid.thread.engine k.answered.served)));
        bounds = ap (λ (x : Standing). bounds_of x.engine) t.thread ∙ bounds;
      }

  -- ## Room

  stage_within : (o' : Open) → new.run.current ≡ Within o' → Told.tally.stage ≡ within o'.row o'.points
  stage_within o' is = sym (ap (λ (x : Tally P). x.stage) t.tally) ∙ ap stage_of is

  -- where an attempt is open then, none has ended, and the place is still there
  place_still : (o' : Open) → new.run.current ≡ Within o' → vec_len mid.ended < vec_capacity mid.ended → vec_len new.ended < vec_capacity new.ended
  place_still o' is l =
      let none : Told.over ≡ [] = within_untold rules mid.run.retries (tally_of mid.run) call answer (stand_of mid.thread.engine) o'.row o'.points (stage_within o' is) in
      let len : vec_len new.ended ≡ vec_len mid.ended + 0 = t.len ∙ ap (λ (xs : List Attempt). vec_len mid.ended + length xs) none in
      (let same = t.capacity in omega arith)

  ready_as : (x : Current) → mid.run.current ≡ x → IsReadyFor old.thread.engine call (unwrap_or (irrevocable_room old.thread.engine call) 0) mid.ended x
  ready_as x is = subst (IsReadyFor old.thread.engine call (unwrap_or (irrevocable_room old.thread.engine call) 0) mid.ended) is k.prepared.ready

  places_as : (x y : Current) → mid.run.current ≡ x → new.run.current ≡ y → KeepsPlaces mid.thread.engine.actions.ran x y
  places_as x y i j = subst (λ (z : Current × Current). KeepsPlaces mid.thread.engine.actions.ran z.0 z.1) (λ h. (i h, j h)) t.places

  roomy_now : in_transaction mid.thread.engine ≡ true → HasPlaces mid.thread.engine new.ended new.run.current
  roomy_now now = if_open (HasPlaces mid.thread.engine new.ended) tt (λ o. tt) new.run.current (λ o' is. within_so o' is mid.run.current refl)
    where
      within_so : (o' : Open) → new.run.current ≡ Within o' → (x : Current) → mid.run.current ≡ x → HasPlaces mid.thread.engine new.ended (Within o')
      within_so o' is Outside was = absurd (places_as Outside (Within o') was is)
      within_so o' is (Begins o) was =
          let begin = begins_call k o was in
          let none = begun_none k.works.same.stands (last k) (ap is_inside (last k).is_mid.kept.blocks ∙ begin.3) now in
          (place_still o' is (ready_as (Begins o) was).0, (let z = none in omega arith))
      within_so o' is (Within o) was =
          let ready = ready_as (Within o) was in
          let still = still_within k o was in
          let same = (places_as (Within o) (Within o') was is).0 in
          (place_still o' is ready.0, omega arith)

  -- the attempt that is open then is so by the answer
  opens_now : (o' : Open) → new.run.current ≡ Within o' → OpensBy (stage_of mid.run.current) call answer (stand_of mid.thread.engine) o'.row o'.points
  opens_now o' is = ((is_taken call (stand_of mid.thread.engine) rules mid.run.retries mid.run.player mid.run.nth mid.run.again (stage_of mid.run.current) answer).still o'.row o'.points (stage_within o' is)).2

  -- there is room for as many calls as are promised, at most
  promises_now : IsPromised mid.thread.engine new.run.current
  promises_now = if_open (IsPromised mid.thread.engine) tt (λ o. tt) new.run.current (λ o' is. promises_opened k answer k.answered.served (last k) o' (opens_now o' is))

  -- and each of them finds a place for a block
  blocks_now : HasBlockPlaces new.run.current
  blocks_now = if_open HasBlockPlaces tt (λ o. tt) new.run.current (λ o' is. (let opened = opens_now o' is in
      blocks_opened call answer (stand_of mid.thread.engine) mid.thread.engine.actions.ran mid.run.current o' (λ back. room_back k answer k.answered.served back o' opened) (places_as mid.run.current (Within o') refl is) k.prepared.blocks opened))

  -- and each commit action that an irrevocable transaction may still register
  actions_now : HasActionPlaces mid.thread.engine new.run.current
  actions_now = if_open (HasActionPlaces mid.thread.engine) tt (λ o. tt) new.run.current (λ o' is. within_so o' is mid.run.current refl)
    where
      within_so : (o' : Open) → new.run.current ≡ Within o' → (x : Current) → mid.run.current ≡ x → HasActionPlaces mid.thread.engine (Within o')
      within_so o' is Outside was = absurd (places_as Outside (Within o') was is)
      within_so o' is (Begins o) was =
          let places = places_as (Begins o) (Within o') was is in
          λ held some. (let had = begun_places k o was held some in let a = had.0 in let b = had.1 in (omega arith, omega arith))
      within_so o' is (Within o) was =
          let places = places_as (Within o) (Within o') was is in
          λ held some. (let had = open_places k o was held some in let a = had.0 in let b = had.1 in let same = places.1 had.2 in (omega arith, omega arith))

  -- ## It goes on, or it has stopped

  goes : TookIn.end ≡ None → IsRunning rules c (view_in mid) mid.thread.engine (account_of new)
  goes none = subst (IsRunning rules c (view_in mid) mid.thread.engine) (sym account_is) ((asked_both laws k).0 none).0

  roomy_after : TookIn.end ≡ None → HasPlaces mid.thread.engine new.ended new.run.current
  roomy_after none = elim (cases_Bool (in_transaction mid.thread.engine)) [
    | inl now ↦ roomy_now now
    | inr shut ↦ if_open (HasPlaces mid.thread.engine new.ended) tt (λ o. tt) new.run.current (λ o is. absurd (let stage = sym ((goes none).outside shut).stage_is ∙ ap stage_of is in cc))
  ]

  works_on : end ≡ None → IsWorking rules words c b new
  works_on is = (let none : TookIn.end ≡ None = sym end_told ∙ is in record {
    same = same_now;
    running = subst (λ (x : Standing). IsRunning rules c (view_of x.pass) x.engine (account_of new)) (sym t.thread) (goes none);
    roomy = subst (λ (x : Standing). HasPlaces x.engine new.ended new.run.current) (sym t.thread) (roomy_after none);
    actions = subst (λ (x : Standing). HasActionPlaces x.engine new.run.current) (sym t.thread) actions_now;
    blocks = blocks_now;
    promises = subst (λ (x : Standing). IsPromised x.engine new.run.current) (sym t.thread) promises_now;
  })

  abbrev FallsTo : ℕ → ℕ → Core → ℕ → P → Type 0
  FallsTo retries restarts e nth player = Falls rules retries restarts (in_transaction old.thread.engine) (in_transaction e) old.run.nth nth (restarts_left old.thread.engine) (restarts_left e) old.run.player player

  falls_on : end ≡ None → Falls rules old.run.retries old.thread.engine.restarts (in_transaction old.thread.engine) (in_transaction new.thread.engine) old.run.nth new.run.nth (restarts_left old.thread.engine) (restarts_left new.thread.engine) old.run.player new.run.player
  falls_on is =
      let falls = ((asked_both laws k).0 (sym end_told ∙ is)).1 in
      let here : FallsTo c.retries c.restarts mid.thread.engine new.run.nth new.run.player = subst (λ (x : Tally P). FallsTo c.retries c.restarts mid.thread.engine x.nth x.player) (sym tally_is) falls in
      subst (λ (x : ℕ × ℕ × Standing). FallsTo x.0 x.1 x.2.engine new.run.nth new.run.player) (λ i. (sym k.works.same.retries i, sym k.works.running.limit i, sym t.thread i)) here

  stops_so : (shuts : Bool) (last : End) → end ≡ Some last → IsStopped rules words c b shuts last old new
  stops_so shuts last is =
      let over = (asked_both laws k).1 last (sym end_told ∙ is) in
      let shut : new.run.current ≡ Outside = none_at new.run.current (ap (λ (x : Account P). x.stage) account_is ∙ over.stage) in
      let made : IsMade words rules old.run.thread old.run.retries (account_of old) old.thread (Some last) (account_of new) new.thread = subst (λ (x : Option End). IsMade words rules old.run.thread old.run.retries (account_of old) old.thread x (account_of new) new.thread) is is_made in
      record {
        same = same_now;
        left = account_of new;
        stops = subst (λ (x : End). StopsAs words rules old.run.thread old.run.retries shuts x (account_of old) old.thread (account_of new) new.thread) (sym over.end_is)
            (inr (subst (λ (x : End). IsMade words rules old.run.thread old.run.retries (account_of old) old.thread (Some x) (account_of new) new.thread) over.end_is made));
        over = same_now.over;
        below = same_now.below;
        told_is = refl;
        may_stop = subst (MayStop (new.thread.engine.snapshot / 2) new.thread.engine.actions.ran) (sym shut) tt;
        may_tell = subst (λ (x : Current). MayTell x new.ended) (sym shut) tt;
      }

-- whichever it is
pub turns : {P : Type 0} {rules : Rules P} (laws : Obeys rules) {words : Words} {c : Course P} {b : Bounds} {old mid : Worker P} {call : Call} {answer : Answer} → IsAsked rules words c b old call answer mid → (new : Worker P) (end : Option End) → Took_in rules call answer mid end new
    → (shuts : Bool) → GoesOnOrStops rules words shuts old end new
turns laws k new None t shuts = record {
  made = is_made laws k new None t;
  works = λ c b w. works_on laws (record { works = w; asks = k.asks; prepared = k.prepared; answered = k.answered }) new None t refl;
  falls = falls_on laws k new None t refl;
  thread = t.number ∙ k.prepared.thread;
  retries = t.retries ∙ k.prepared.retries;
}
turns laws k new (Some end) t shuts = λ c b w. stops_so laws (record { works = w; asks = k.asks; prepared = k.prepared; answered = k.answered }) new (Some end) t shuts end refl
