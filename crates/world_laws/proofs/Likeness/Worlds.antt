-- Of two worlds that are the same, one event of the same actor makes two that are the same.
use Rattle.std.proofs.Common.{◌≡◌, ◌⊎◌, ℕ, true, false, IsTrue, List, Option, None, Some, Result, Ok, Err, IsSome, slice_get, slice_set, inl, inr, refl, sym, ap, subst, ◌∙◌, arith}
use Rattle.world_laws.proofs.Common.{Actor, AreAlike, Cells, Goes, IsEvent, Rules, SameOpening, SameWorld, Status, Step, World, WorldFault, cases_Bool, cells_after, counted, ending_at, ending_of, event_result, is_event, is_waiting, option_and_then, set_place, slice_get-set_same, slice_get_within as within_of, there_is, waiting_step, waits_at, waits_there}
use Rattle.world_rules.specs.declared.fault.WorldFault.TheVariants as faults
use Rattle.world_laws.proofs.Likeness.Work.{IsFed, event_alike}

is_none : {A : Type 0} (xs : List A) (i : ℕ) → (slice_get xs i ≡ None) ⊎ ((x : A) × (slice_get xs i ≡ Some x))
is_none {A} xs i = of_got (slice_get xs i) refl
  where
    of_got : (o : Option A) → slice_get xs i ≡ o → (slice_get xs i ≡ None) ⊎ ((x : A) × (slice_get xs i ≡ Some x))
    of_got None e = inl e
    of_got (Some x) e = inr (x, e)

fault_of : (r : Result (Unit {0}) WorldFault) → is_event r ≡ false → (r ≡ Err faults.NoSuchActor) ⊎ (r ≡ Err faults.Ended)
fault_of (Ok done) e = absurd (cc)
fault_of (Err faults.NoSuchActor) e = inl refl
fault_of (Err faults.Ended) e = inr refl
fault_of (Err faults.NoMemory) e = absurd (cc)

module _ {P : Type 0} (v w : World P) (s : SameWorld v w) (actor : ℕ) where
  -- what is told of the one actor is told of the other
  of_status : {B : Type 0} (f : Status → Option B) → option_and_then (λ (a : Actor P). f a.status) (slice_get v.actors actor) ≡ option_and_then (λ (a : Actor P). f a.status) (slice_get w.actors actor)
  of_status f = elim (is_none v.actors actor) [
    | inl e ↦ elim (is_none w.actors actor) [
      | inl d ↦ ap (option_and_then (λ (a : Actor P). f a.status)) (e ∙ sym d)
      | inr d ↦ absurd (let l = within_of w.actors actor d.0 d.1 in let n = s.count in let x = there_is v.actors actor (omega arith) in let z = sym e ∙ x.1 in cc)
    ]
    | inr e ↦
        (let l = within_of v.actors actor e.0 e.1 in
        let n = s.count in
        let d = there_is w.actors actor (omega arith) in
        ap (option_and_then (λ (a : Actor P). f a.status)) e.1 ∙ (ap f (s.actors actor e.0 d.0 e.1 d.1).status ∙ sym (ap (option_and_then (λ (a : Actor P). f a.status)) d.1)))
  ]

  pub waits_same : waits_at v actor ≡ waits_at w actor
  waits_same = of_status waiting_step

  pub ending_same : ending_at v actor ≡ ending_at w actor
  ending_same = of_status ending_of

some_of : {A : Type 0} (o : Option A) → IsSome o → (x : A) × (o ≡ Some x)
some_of None e = absurd (cc)
some_of (Some x) e = (x, refl)

-- both keep their beginning
opening_same : {P : Type 0} (v w v' w' : World P) → SameOpening v w → SameOpening v v' → SameOpening w w' → SameOpening v' w'
opening_same v w v' w' s f g = record {
  opening = g.opening ∙ (s.opening ∙ sym f.opening);
  base = g.base ∙ (s.base ∙ sym f.base);
  arena = g.arena ∙ (s.arena ∙ sym f.arena);
  limits = g.limits ∙ (s.limits ∙ sym f.limits);
}

module _ {P : Type 0} (rules : Rules P) (actor : ℕ) (v w : World P) (s : SameWorld v w)
    (result result' : Result (Unit {0}) WorldFault) (v' w' : World P)
    (f : Goes rules actor v result v') (g : Goes rules actor w result' w') where
  -- ## No event

  passed_same : is_event result ≡ false → result ≡ result'
  passed_same e = elim (fault_of result e) [
    | inl x ↦ (let l = f.no_such.0 x in let n = s.count in x ∙ sym (g.no_such.1 (omega arith)))
    | inr x ↦ x ∙ sym (g.ended.1 (subst IsSome (ending_same v w s actor) (f.ended.0 x)))
  ]

  passes_alike : is_event result ≡ false → (result ≡ result') × SameWorld v' w'
  passes_alike e =
      let same = passed_same e in
      (same, subst (λ (x : World P). SameWorld x w') (sym (f.unchanged e)) (subst (SameWorld v) (sym (g.unchanged (sym (ap is_event same) ∙ e))) s))

  -- ## An event

  module _ (taken : IsTrue (is_event result)) (fed : result ≡ Err faults.NoMemory → ⊥) (fed' : result' ≡ Err faults.NoMemory → ⊥) where
    waits : IsSome (waits_at v actor)
    waits = f.event.0 taken

    waits' : IsSome (waits_at w actor)
    waits' = subst IsSome (waits_same v w s actor) waits

    taken' : IsTrue (is_event result')
    taken' = g.event.1 waits'

    here : (a : Actor P) × (slice_get v.actors actor ≡ Some a) × (is_waiting a.status ≡ true)
    here = waits_there v actor waits

    here' : (a : Actor P) × (slice_get w.actors actor ≡ Some a) × (is_waiting a.status ≡ true)
    here' = waits_there w actor waits'

    step : (x : Step) × (waits_at v actor ≡ Some x)
    step = some_of (waits_at v actor) waits

    cells_same : v'.cells ≡ w'.cells
    cells_same = f.operation step.0 step.1 ∙ ((λ i. cells_after (s.cells i) step.0) ∙ sym (g.operation step.0 (sym (waits_same v w s actor) ∙ step.1)))

    -- the actor that has changed stands at its place
    set_here : (x x' : World P) (a a' : Actor P) → slice_get x.actors actor ≡ Some a → x'.actors ≡ slice_set x.actors actor a' → slice_get x'.actors actor ≡ Some a'
    set_here x x' a a' e is = ap (λ (xs : List (Actor P)). slice_get xs actor) is ∙ slice_get-set_same x.actors actor a' (within_of x.actors actor a e)

    ending_is : (x : World P) (a : Actor P) → slice_get x.actors actor ≡ Some a → ending_at x actor ≡ ending_of a.status
    ending_is x a e = ap (option_and_then (λ (y : Actor P). ending_of y.status)) e

    not_starved : (x : World P) (r : Result (Unit {0}) WorldFault) (a : Actor P) → slice_get x.actors actor ≡ Some a → r ≡ event_result (ending_at x actor) → (r ≡ Err faults.NoMemory → ⊥) → IsFed a
    not_starved x r a e is fed e' = fed (is ∙ ap event_result (ending_is x a e ∙ e'))

    events_alike : (result ≡ result') × SameWorld v' w'
    events_alike =
        let x = f.event_of here.0 here.1 taken in
        let y = g.event_of here'.0 here'.1 taken' in
        let a' : Actor P = x.0 in
        let b' : Actor P = y.0 in
        let there : slice_get v'.actors actor ≡ Some a' = set_here v v' here.0 a' here.1 x.1 in
        let there' : slice_get w'.actors actor ≡ Some b' = set_here w w' here'.0 b' here'.1 y.1 in
        let go = event_alike rules v.cells v'.cells v.attempts w.attempts v'.attempts w'.attempts here.0 here'.0 a' b' (s.actors actor here.0 here'.0 here.1 here'.1) x.2 (subst (λ (c : Cells). IsEvent rules c w.attempts here'.0 v'.cells w'.attempts b') (sym s.cells) (subst (λ (c : Cells). IsEvent rules w.cells w.attempts here'.0 c w'.attempts b') (sym cells_same) y.2)) x.3 y.3
        (not_starved v' result a' there (f.answer taken) fed) (not_starved w' result' b' there' (g.answer taken') fed') in (
          f.answer taken ∙ (ap event_result (ending_is v' a' there ∙ (ap ending_of go.alike.status ∙ sym (ending_is w' b' there'))) ∙ sym (g.answer taken')),
          record {
            opening = opening_same v w v' w' s.opening f.opening g.opening;
            cells = cells_same;
            events = f.counts taken ∙ (ap (λ (n : ℕ). counted n 1) s.events ∙ sym (g.counts taken'));
            ended = go.ended s.ended;
            count = f.actors ∙ (s.count ∙ sym g.actors);
            actors = λ place a b e d. elim (set_place v.actors actor here.0 a' here.1 place a (sym (ap (λ (xs : List (Actor P)). slice_get xs place) x.1) ∙ e)) [
              | inl k ↦
                  (let one : Some b' ≡ Some b = sym there' ∙ (ap (slice_get w'.actors) k.0 ∙ d) in
                  let same : b ≡ b' = (cc) in
                  subst (λ (z : Actor P). AreAlike z b) (sym k.1) (subst (AreAlike a') (sym same) go.alike))
              | inr k ↦ elim (set_place w.actors actor here'.0 b' here'.1 place b (sym (ap (λ (xs : List (Actor P)). slice_get xs place) y.1) ∙ d)) [
                | inl l ↦ absurd (k.0 l.0)
                | inr l ↦ s.actors place a b k.1 l.1
              ]
            ];
          },
        )

  pub goes_alike : (result ≡ Err faults.NoMemory → ⊥) → (result' ≡ Err faults.NoMemory → ⊥) → (result ≡ result') × SameWorld v' w'
  goes_alike fed fed' = elim (cases_Bool (is_event result)) [ inl e ↦ events_alike e fed fed' | inr e ↦ passes_alike e ]
