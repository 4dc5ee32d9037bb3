-- Two worlds that are the same still are after equal schedules, and after one actor has run to its end.
use Rattle.std.proofs.Common.{◌≡◌, ℕ, zero, suc, ◌+◌, ◌<◌, cond, IsTrue, List, [], ◌∷◌, ◌++◌, count_by, length, slice_get, Option, Some, Result, Err, IsSome, inl, inr, refl, sym, ap, subst, ◌∙◌, arith}
use Rattle.world_laws.proofs.Common.{Actor, AreAlike, Cells, End, Goes, Leads, NoMemory, Rules, SameWorld, ShowSame, Takes, World, WorldFault, bytes_of, cases_lt, ending_at, event_result, is_event, is_starved, open_in, opens, waits_at, waits_not_ended, with_open}
use Rattle.std.proofs.lemmas.List.Sums.{sum_by-append}
use Rattle.world_rules.specs.declared.fault.WorldFault.TheVariants as faults
use Rattle.world_laws.proofs.Likeness.Worlds.{waits_same, ending_same, goes_alike}

-- as many actors, each of them alike, have the same open attempts
opens_same : {P : Type 0} (xs ys : List (Actor P)) → length xs ≡ length ys → ((place : ℕ) (a b : Actor P) → slice_get xs place ≡ Some a → slice_get ys place ≡ Some b → AreAlike a b) → opens xs ≡ opens ys
opens_same [] [] long each = refl
opens_same (x ∷ xs) (y ∷ ys) long each =
    let rest = opens_same xs ys (omega arith) (λ place a b e d. each (suc place) a b e d) in
    let first = each zero x y refl refl in
    λ i. with_open (open_in (first.tally i).stage) (rest i)
opens_same xs ys long each = absurd (omega arith)

pub shows_same : {P : Type 0} (v w : World P) → SameWorld v w → ShowSame v w
shows_same v w s = record {
  attempts = λ i. s.ended i ++ opens_same v.actors w.actors s.count s.actors i;
  bytes = ap (λ (c : Cells). bytes_of c.words) s.cells;
  clock = ap (λ (c : Cells). c.clock) s.cells;
  events = s.events;
  endings = λ actor. ending_same v w s actor;
}

-- none of these results is a starved one
none_starved : (r : Result (Unit {0}) WorldFault) (rs : List (Result (Unit {0}) WorldFault)) → count_by is_starved (r ∷ rs) ≡ 0 → (r ≡ Err faults.NoMemory → ⊥) × (count_by is_starved rs ≡ 0)
none_starved r rs e =
    let all : count_by is_starved (r ∷ rs) ≡ (0 + cond (is_starved r) 1 0) + count_by is_starved rs = sum_by-append (λ y. cond (is_starved y) 1 0) (r ∷ []) rs in
    (λ is. (let one : ◌≡◌ {A = ℕ} (cond (is_starved r) 1 0) 1 = ap (λ (x : Result (Unit {0}) WorldFault). cond {A = ℕ} (is_starved x) 1 0) is in omega arith), omega arith)

told_starved : (e : Option End) → event_result e ≡ Err faults.NoMemory → e ≡ Some NoMemory
told_starved (Some NoMemory) h = refl
told_starved e h = absurd (cc)

module _ {P : Type 0} (rules : Rules P) where
  pub leads_alike : (schedule : List ℕ) (results results' : List (Result (Unit {0}) WorldFault)) (v w v' w' : World P) → SameWorld v w
      → Leads rules v schedule results v' → Leads rules w schedule results' w'
      → count_by is_starved results ≡ 0 → count_by is_starved results' ≡ 0 → (results ≡ results') × SameWorld v' w'
  leads_alike [] [] [] v w v' w' s f g fed fed' = (refl, subst (λ (x : World P). SameWorld x w') (sym f) (subst (SameWorld v) (sym g) s))
  leads_alike [] [] (r ∷ rs) v w v' w' s f g fed fed' = absurd g
  leads_alike [] (r ∷ rs) results' v w v' w' s f g fed fed' = absurd f
  leads_alike (actor ∷ schedule) [] results' v w v' w' s f g fed fed' = absurd f
  leads_alike (actor ∷ schedule) (r ∷ rs) [] v w v' w' s f g fed fed' = absurd g
  leads_alike (actor ∷ schedule) (r ∷ rs) (q ∷ qs) v w v' w' s f g fed fed' =
      let x = none_starved r rs fed in
      let y = none_starved q qs fed' in
      let one = goes_alike rules actor v w s r q f.0 g.0 f.1 g.1 x.0 y.0 in
      let rest = leads_alike schedule rs qs f.0 g.0 v' w' one.1 f.2 g.2 x.1 y.1 in
      (λ i. one.0 i ∷ rest.0 i, rest.1)

  module _ (actor : ℕ) where
    -- no memory was refused to it
    abbrev pub HasMemory : World P → Type 0
    HasMemory w = ending_at w actor ≡ Some NoMemory → ⊥

    waits_fed : (w : World P) → IsSome (waits_at w actor) → HasMemory w
    waits_fed w waits e = waits_not_ended w actor waits (subst IsSome (sym e) refl)

    goes_fed : (v v' : World P) (result : Result (Unit {0}) WorldFault) → Goes rules actor v result v' → IsTrue (is_event result) → HasMemory v' → result ≡ Err faults.NoMemory → ⊥
    goes_fed v v' result f taken fed e = fed (told_starved (ending_at v' actor) (sym (f.answer taken) ∙ e))

    takes_alike : (n : ℕ) (v w v' w' : World P) → SameWorld v w → Takes rules actor n v v' → Takes rules actor n w w' → HasMemory v' → HasMemory w' → SameWorld v' w'
    takes_alike zero v w v' w' s f g fed fed' = subst (λ (x : World P). SameWorld x w') (sym f) (subst (SameWorld v) (sym g) s)
    takes_alike (suc n) v w v' w' s f g fed fed' =
        let before = takes_alike n v w f.0 g.0 s f.2 g.2 (waits_fed f.0 (f.4.event.0 f.3)) (waits_fed g.0 (g.4.event.0 g.3)) in
        (goes_alike rules actor f.0 g.0 before f.1 g.1 v' w' f.4 g.4 (goes_fed f.0 v' f.1 f.4 f.3 fed) (goes_fed g.0 w' g.1 g.4 g.3 fed')).1

    -- before each event the actor waited
    before_last : (n k : ℕ) (v v' : World P) → n < k → Takes rules actor k v v' → (x : World P) × Takes rules actor n v x × IsSome (waits_at x actor)
    before_last n zero v v' l f = absurd (omega arith)
    before_last n (suc k) v v' l f = elim (cases_lt n k) [
      | inl less ↦ before_last n k v f.0 less f.2
      | inr more ↦ (let same : k ≡ n = omega arith in (f.0, subst (λ (m : ℕ). Takes rules actor m v f.0) same f.2, f.4.event.0 f.3))
    ]

    -- up to its end it takes as many events in the one world as in the other
    pub ends_alike : (n k : ℕ) (v w v' w' : World P) → SameWorld v w → Takes rules actor n v v' → Takes rules actor k w w'
        → IsSome (ending_at v' actor) → IsSome (ending_at w' actor) → HasMemory v' → HasMemory w' → (n ≡ k) × SameWorld v' w'
    ends_alike n k v w v' w' s f g done done' fed fed' = elim (cases_lt n k) [
      | inl less ↦
          (let x = before_last n k w w' less g in
          let y = takes_alike n v w v' x.0 s f x.1 fed (waits_fed x.0 x.2) in
          absurd (waits_not_ended v' actor (subst IsSome (sym (waits_same v' x.0 y actor)) x.2) done))
      | inr more ↦ elim (cases_lt k n) [
        | inl less ↦
            (let x = before_last k n v v' less f in
            let y = takes_alike k v w x.0 w' s x.1 g (waits_fed x.0 x.2) fed' in
            absurd (waits_not_ended w' actor (subst IsSome (waits_same x.0 w' y actor) x.2) done'))
        | inr less ↦ (let same : n ≡ k = omega arith in (same, takes_alike n v w v' w' s f (subst (λ (m : ℕ). Takes rules actor m w w') (sym same) g) fed fed'))
      ]
    ]
