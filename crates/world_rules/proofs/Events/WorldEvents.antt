-- Events of a world: what their answers tell, many in a row, and the events of one call of an actor and of one call after the other.
use Rattle.std.proofs.Common.{inl, inr, ◌≡◌, ◌↔◌, ◌≤◌, zero, suc, ℕ, ◌+◌, ◌<◌, Bool, true, false, cond, length, take, get_or, arith, List, [], ◌∷◌, ◌++◌, count_by, IsTrue, Option, None, Some, Result, Ok, Err, IsSome, refl, sym, ap, subst, ◌∙◌, slice_get, min, if◌then◌else◌}
use Rattle.world_rules.proofs.Common.{Actor, AreActors, AreOpaque, AreTied, CommitsInOrder, Finished, Goes, IsNoMore, Leads, LeavesLess, Rules, SameOpening, Status, Takes, Waits, World, cases_lt, counted, ending_at, ending_of, event_result, in_transaction, is_event, is_passed, is_ready, is_starved, is_taken, is_waiting, observed, option_and_then, option_map, option_map_or, passes_of, run_left, slice_get_within, steps_left, take_more, there_is, waiting_step, waits_at, whole}
use Rattle.tx_runs.specs.declared.ending.End.{End}
use Rattle.world_rules.specs.declared.passes.Passes.{Passes}
use Rattle.world_rules.specs.declared.fault.WorldFault.{WorldFault}
use Rattle.world_rules.proofs.Events.Worlds.{some_ended, some_waiting, waits_there, waiting_going}
use Rattle.world_rules.proofs.Events.Measures.{HasLessSoFar, less_so_far, same_less, less_less}
use Rattle.std.{proofs.lemmas.List.Sums.sum_by-append}
use Rattle.world_rules.specs.declared.fault.WorldFault.TheVariants as faults

-- an event is answered by no fault of the other two
pub told_event : (e : Option End) → IsTrue (is_event (event_result e))
told_event None = refl
told_event (Some Finished) = refl
told_event e = refl

-- who waits has not ended
pub waits_not_ended : {P : Type 0} (w : World P) (actor : ℕ) → IsSome (waits_at w actor) → IsSome (ending_at w actor) → ⊥
waits_not_ended {P} w actor waits ended =
    let y = waits_there w actor waits in
    absurd (let none = subst IsSome (ap (option_and_then (λ (a : Actor P). ending_of a.status)) y.1 ∙ waiting_going y.0.status y.2) ended in cc)

-- nor by a fault that is none
pub no_fault : {A : Type 0} {fault : WorldFault} (end : Option End) → event_result end ≡ Err fault → is_event (Err fault) ≡ false → A
no_fault end e none = absurd (let u = subst (λ (r : Result (Unit {0}) WorldFault). IsTrue (is_event r)) e (told_event end) in cc)

-- the world keeps its beginning
pub opening_same : {P : Type 0} (w : World P) → SameOpening w w
opening_same w = record { opening = refl; base = refl; arena = refl; limits = refl }

-- ## Where the actor waits for no operation

pub mapped_none : {A B : Type 0} (f : A → B) (o : Option A) → None ≡ option_map f o → o ≡ None
mapped_none f None e = refl
mapped_none f (Some x) e = absurd (cc)

pub mapped_some : {A B : Type 0} (f : A → B) (o : Option A) (y : B) → Some y ≡ option_map f o → (x : A) × (o ≡ Some x) × (f x ≡ y)
mapped_some f None y e = absurd (cc)
mapped_some f (Some x) y e = (x, refl, cc)

pub not_there : {P A : Type 0} (w : World P) (actor : ℕ) → actor < length w.actors → slice_get w.actors actor ≡ None → A
not_there w actor within none = absurd (let here = there_is w.actors actor within in let both : Some here.0 ≡ None = sym here.1 ∙ none in cc)

waits_none : (s : Status) → is_waiting s ≡ false → waiting_step s ≡ None
waits_none (Waits call step) e = absurd (cc)
waits_none s e = refl

module _ {P : Type 0} (rules : Rules P) (w : World P) (i : ℕ)
    (commits : CommitsInOrder w) (opaque : AreOpaque rules (observed w)) (tied : AreTied rules w) where
  nothing_done : (result : Result (Unit {0}) WorldFault) → is_event result ≡ false → waits_at w i ≡ None
      → ((result ≡ Err faults.NoSuchActor) ↔ (length w.actors ≤ i)) → ((result ≡ Err faults.Ended) ↔ IsSome (ending_at w i)) → Goes rules i w result w
  nothing_done result none still no_such ended = record {
    no_such = no_such;
    ended = ended;
    event = (λ e. absurd (cc), λ e. absurd (let z = subst IsSome still e in cc));
    answer = λ e. absurd (cc);
    lawful = λ a step here waits. absurd (let z : None ≡ Some step = sym still ∙ (ap (option_and_then (λ (x : Actor P). waiting_step x.status)) here ∙ waits) in cc);
    operation = λ step e. absurd (let z : None ≡ Some step = sym still ∙ e in cc);
    counts = λ e. absurd (cc);
    unchanged = λ e. refl;
    event_of = λ x is e. absurd (cc);
    commits = commits;
    opaque = opaque;
    tied = tied;
    opening = opening_same w;
    actors = refl;
  }

  pub goes_nowhere : slice_get w.actors i ≡ None → Goes rules i w (Err faults.NoSuchActor) w
  goes_nowhere none =
      let no_end : ending_at w i ≡ None = ap (option_and_then (λ (a : Actor P). ending_of a.status)) none in
      nothing_done (Err faults.NoSuchActor) refl (ap (option_and_then (λ (a : Actor P). waiting_step a.status)) none)
      (λ e. (elim (cases_lt i (length w.actors)) [ inl l ↦ not_there w i l none | inr le ↦ le ]), λ l. refl) (λ e. absurd (cc), λ e. absurd (let z = subst IsSome no_end e in cc))

  pub goes_no_more : (a : Actor P) → slice_get w.actors i ≡ Some a → is_waiting a.status ≡ false → is_ready a.status ≡ false → Goes rules i w (Err faults.Ended) w
  goes_no_more a here still done =
      let end_is : ending_at w i ≡ ending_of a.status = ap (option_and_then (λ (x : Actor P). ending_of x.status)) here in
      nothing_done (Err faults.Ended) refl (ap (option_and_then (λ (x : Actor P). waiting_step x.status)) here ∙ waits_none a.status still)
      (λ e. absurd (cc), λ l. absurd (let n = slice_get_within w.actors i a here in omega arith)) (λ e. subst IsSome (sym end_is) (some_ended a.status still done), λ e. refl)

-- ## Many in a row

module _ {P : Type 0} (rules : Rules P) where
  -- one entry more
  pub leads_on : (old between new : World P) (schedule : List ℕ) (results : List (Result (Unit {0}) WorldFault)) (actor : ℕ) (result : Result (Unit {0}) WorldFault)
      → Leads rules old schedule results between → Goes rules actor between result new
      → Leads rules old (schedule ++ actor ∷ []) (results ++ result ∷ []) new
  leads_on old between new [] [] actor result l g = (new, subst (λ (w : World P). Goes rules actor w result new) l g, refl)
  leads_on old between new (a ∷ rest) (r ∷ rs) actor result l g = (l.0, l.1, leads_on l.0 between new rest rs actor result l.2 g)
  leads_on old between new schedule results actor result l g = absurd l

  -- what each entry keeps is kept by all of them
  pub leads_keep : (K : World P → Type 0) → ((i : ℕ) (w new : World P) (result : Result (Unit {0}) WorldFault) → K w → Goes rules i w result new → K new)
      → (schedule : List ℕ) (results : List (Result (Unit {0}) WorldFault)) (w new : World P) → K w → Leads rules w schedule results new → K new
  leads_keep K keeps [] [] w new k l = subst K (sym l) k
  leads_keep K keeps (i ∷ rest) (r ∷ rs) w new k l = leads_keep K keeps rest rs l.0 new (keeps i w l.0 r k l.1) l.2
  leads_keep K keeps schedule results w new k l = absurd l

-- the counts with one result more
abbrev pub noted : Passes → Result (Unit {0}) WorldFault → Passes
noted p (Ok done) = record p { taken = p.taken + 1 }
noted p (Err faults.NoSuchActor) = record p { passed = p.passed + 1 }
noted p (Err faults.Ended) = record p { passed = p.passed + 1 }
noted p (Err faults.NoMemory) = record p { starved = p.starved + 1 }

pub noted_all : (p : Passes) (r : Result (Unit {0}) WorldFault) → (noted p r).taken + (noted p r).passed + (noted p r).starved ≡ p.taken + p.passed + p.starved + 1
noted_all p (Ok done) = omega arith
noted_all p (Err faults.NoMemory) = omega arith
noted_all p r = omega arith

pub noted_counts : (p : Passes) (r : Result (Unit {0}) WorldFault) (first before now : ℕ) → before ≡ counted first (p.taken + p.starved) → (IsTrue (is_event r) → now ≡ counted before 1) → (is_event r ≡ false → now ≡ before)
    → now ≡ counted first ((noted p r).taken + (noted p r).starved)
noted_counts p (Ok done) first before now is event none = (let e = event refl in omega arith)
noted_counts p (Err faults.NoMemory) first before now is event none = (let e = event refl in omega arith)
noted_counts p r first before now is event none = none refl ∙ is

module _ {A : Type 0} (p : A → Bool) (xs : List A) (x : A) where
  count_more : (b : Bool) → p x ≡ b → count_by p (xs ++ x ∷ []) ≡ (if b then count_by p xs + 1 else count_by p xs)
  count_more true e = omega (arith, sum_by-append (λ y. cond (p y) 1 0) xs (x ∷ []), ap (λ (b : Bool). cond {A = ℕ} b 1 0) e)
  count_more false e = omega (arith, sum_by-append (λ y. cond (p y) 1 0) xs (x ∷ []), ap (λ (b : Bool). cond {A = ℕ} b 1 0) e)

pub passes_more : (results : List (Result (Unit {0}) WorldFault)) (r : Result (Unit {0}) WorldFault) → passes_of (results ++ r ∷ []) ≡ noted (passes_of results) r
passes_more results (Ok done) = (λ i. record { taken = count_more is_taken results (Ok done) true refl i; passed = count_more is_passed results (Ok done) false refl i; starved = count_more is_starved results (Ok done) false refl i })
passes_more results (Err faults.NoMemory) = (λ i. record { taken = count_more is_taken results (Err faults.NoMemory) false refl i; passed = count_more is_passed results (Err faults.NoMemory) false refl i; starved = count_more is_starved results (Err faults.NoMemory) true refl i })
passes_more results r = (λ i. record { taken = count_more is_taken results r false refl i; passed = count_more is_passed results r true refl i; starved = count_more is_starved results r false refl i })

-- an entry of a schedule more, and its result
module _ {P : Type 0} (rules : Rules P) where
  -- what has come of the schedule so far
  abbrev pub HasLed : World P → List ℕ → World P → Passes → Type 0
  HasLed old schedule new passes = (results : List (Result (Unit {0}) WorldFault)) × Leads rules old schedule results new × (passes ≡ passes_of results)

  pub led_on : (old between new : World P) (schedule : List ℕ) (i d : ℕ) → i < length schedule → (passes passes' : Passes) (result : Result (Unit {0}) WorldFault)
      → HasLed old (take i schedule) between passes → Goes rules (get_or schedule i d) between result new → passes' ≡ noted passes result
      → HasLed old (take (i + 1) schedule) new passes'
  led_on old between new schedule i d within passes passes' result led goes is = (
    led.0 ++ result ∷ [],
    subst (λ (entries : List ℕ). Leads rules old entries (led.0 ++ result ∷ []) new) (sym (take_more schedule i d within))
        (leads_on rules old between new (take i schedule) led.0 (get_or schedule i d) result led.1 goes),
    is ∙ (ap (λ (p : Passes). noted p result) led.2 ∙ sym (passes_more led.0 result)),
  )

-- ## Counts that stand still at the highest number

pub counted_one : (n before now : ℕ) → before ≡ counted 0 n → now ≡ min (before + 1) 18446744073709551615 → now ≡ counted 0 (suc n)
counted_one n before now b e = omega arith

pub counts_both : (n k m before more now : ℕ) → before ≡ counted 0 n → more ≡ counted 0 k → m ≡ n + k → now ≡ min (before + more) 18446744073709551615 → now ≡ counted 0 m
counts_both n k m before more now b f s e = omega arith

pub events_both : (first between last before more now : ℕ) → between ≡ counted first before → last ≡ counted between more → now ≡ min (before + more) 18446744073709551615 → last ≡ counted first now
events_both first between last before more now b l n = omega arith

-- ## A number of the actor at a place

abbrev pub at_place : {A : Type 0} → (A → ℕ) → List A → ℕ → ℕ
at_place f xs place = option_map_or f (slice_get xs place) 0

pub at_place_is : {A : Type 0} (f : A → ℕ) (xs : List A) (place : ℕ) (x : A) → slice_get xs place ≡ Some x → at_place f xs place ≡ f x
at_place_is {A} f xs place x e = ap (λ (o : Option A). option_map_or f o 0) e

-- ## Worlds

pub opening_both : {P : Type 0} (a b c : World P) → SameOpening a b → SameOpening b c → SameOpening a c
opening_both a b c f g = record { opening = g.opening ∙ f.opening; base = g.base ∙ f.base; arena = g.arena ∙ f.arena; limits = g.limits ∙ f.limits }

module _ {P : Type 0} (rules : Rules P) (actor : ℕ) where
  pub takes_one : (n : ℕ) (old between new : World P) → Takes rules actor n old between → Goes rules actor between (event_result (ending_at new actor)) new
      → Takes rules actor (suc n) old new
  takes_one n old between new f g = (between, event_result (ending_at new actor), f, told_event (ending_at new actor), g)

  pub takes_both : (n k : ℕ) (a b c : World P) → Takes rules actor n a b → Takes rules actor k b c → (m : ℕ) × (m ≡ n + k) × Takes rules actor m a c
  takes_both n zero a b c f g = (n, (let e : n ≡ n + 0 = omega arith in e), subst (λ (w : World P). Takes rules actor n a w) (sym g) f)
  takes_both n (suc k) a b c f g =
      let r = takes_both n k a b g.0 f g.2 in
      (suc r.0, (let e = r.1 in omega arith), (g.0, g.1, r.2, g.3, g.4))

module _ {P : Type 0} (rules : Rules P) (actor : ℕ) where
  -- of the actor there
  abbrev pub LeavesLessSoFar : Bool → World P → World P → Type 0
  LeavesLessSoFar on old new = (a b : Actor P) → slice_get old.actors actor ≡ Some a → slice_get new.actors actor ≡ Some b → HasLessSoFar rules on a b

  abbrev pub LeavesNoMore : World P → World P → Type 0
  LeavesNoMore old new = (a b : Actor P) → slice_get old.actors actor ≡ Some a → slice_get new.actors actor ≡ Some b → is_waiting b.status ≡ true → IsNoMore rules a b

  pub leaves_on : (was on : Bool) (a b c : World P) → was ≡ true → IsSome (waits_at b actor) → LeavesLessSoFar was a b → LeavesLess rules actor on b c → LeavesLessSoFar on a c
  leaves_on false on a b c e waits f g x z here there = absurd (cc)
  leaves_on true on a b c e waits f g x z here there = (let y = waits_there b actor waits in less_so_far rules on x y.0 z (f x y.0 here y.1) (g y.0 z y.1 there))

  -- while the call goes on, it has fewer and fewer steps left
  abbrev pub call_left_at : Bool → World P → ℕ
  call_left_at on w = if on then at_place (λ (a : Actor P). steps_left a.engine) w.actors actor + 1 else 0

  pub call_falls : (on : Bool) (old new : World P) → IsSome (waits_at old actor) → length new.actors ≡ length old.actors → LeavesLess rules actor on old new → call_left_at on new < call_left_at true old
  call_falls false old new waits long f = omega arith
  call_falls true old new waits long f =
      let steps : Actor P → ℕ = λ (a : Actor P). steps_left a.engine in
      let y = waits_there old actor waits in
      let z = there_is new.actors actor (omega (arith, long, slice_get_within old.actors actor y.0 y.1)) in
      omega (arith, ((f y.0 z.0 y.1 z.1).on refl).1, at_place_is steps old.actors actor y.0 y.1, at_place_is steps new.actors actor z.0 z.1)

  -- what is left of the whole run, once a call is over
  abbrev pub whole_at : World P → ℕ
  whole_at w = at_place (λ (a : Actor P). whole rules (in_transaction a.engine) a.run.player) w.actors actor

  abbrev pub run_left_at : ℕ → World P → ℕ
  run_left_at k w = at_place (run_left rules k) w.actors actor

  pub run_falls : (first old new : World P) → length old.actors ≡ length first.actors → length new.actors ≡ length old.actors → IsSome (waits_at old actor) → LeavesNoMore first old → LeavesLess rules actor false old new
      → run_left_at (whole_at first) new < run_left_at (whole_at first) old
  run_falls first old new same long waits f g =
      let whole_of : Actor P → ℕ = λ (a : Actor P). whole rules (in_transaction a.engine) a.run.player in
      let k : ℕ = whole_at first in
      let y = waits_there old actor waits in
      let within = slice_get_within old.actors actor y.0 y.1 in
      let x = there_is first.actors actor (omega (arith, same, within)) in
      let z = there_is new.actors actor (omega (arith, long, within)) in
      let top : k ≡ whole_of x.0 = at_place_is whole_of first.actors actor x.0 x.1 in
      let fell = (g y.0 z.0 y.1 z.1).over refl k (omega (arith, (f x.0 y.0 x.1 y.1 y.2).whole_falls)) in
      omega (arith, at_place_is (run_left rules k) old.actors actor y.0 y.1, at_place_is (run_left rules k) new.actors actor z.0 z.1)

  pub no_more_on : (first old new : World P) → length old.actors ≡ length first.actors → IsSome (waits_at old actor) → LeavesNoMore first old → LeavesLess rules actor false old new → LeavesNoMore first new
  no_more_on first old new same waits f g a c here there waiting =
      let y = waits_there old actor waits in
      less_less rules a y.0 c (f a y.0 here y.1 y.2) ((g y.0 c y.1 there).less waiting)

  pub no_more_first : (w : World P) → LeavesNoMore w w
  no_more_first w a b here there waiting =
      (let same : a ≡ b = (let z : Some a ≡ Some b = sym here ∙ there in cc) in subst (IsNoMore rules a) same (same_less rules a))

  -- who goes on with its call waits for its next operation
  pub waits_still : (on : Bool) (old new : World P) → IsSome (waits_at old actor) → length new.actors ≡ length old.actors → LeavesLess rules actor on old new → on ≡ true → IsSome (waits_at new actor)
  waits_still on old new waits long f e =
      let y = waits_there old actor waits in
      let z = there_is new.actors actor (omega (arith, long, slice_get_within old.actors actor y.0 y.1)) in
      subst IsSome (sym (ap (option_and_then (λ (a : Actor P). waiting_step a.status)) z.1)) (some_waiting z.0.status ((f y.0 z.0 y.1 z.1).on e).0)

  -- the actor of a call that is over
  pub over_less : (on : Bool) (old new : World P) → on ≡ false → LeavesLessSoFar on old new → LeavesLess rules actor false old new
  over_less true old new e f = absurd (cc)
  over_less false old new e f = f

-- who does not wait has ended, once all local work is done
pub ended_there : {P : Type 0} {rules : Rules P} (w : World P) (actor : ℕ) → AreActors rules w.cells w.attempts w.actors → (a : Actor P) → slice_get w.actors actor ≡ Some a → is_waiting a.status ≡ false → IsSome (ending_at w actor)
ended_there {P} w actor sound a here still =
    subst IsSome (sym (ap (option_and_then (λ (x : Actor P). ending_of x.status)) here)) (some_ended a.status still (sound.each actor a here).done)
