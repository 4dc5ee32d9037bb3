-- A world that one player has to itself, after any schedule.
use Rattle.std.proofs.Common.{◌≡◌, ℕ, zero, suc, List, [], ◌∷◌, ◌++◌, length, replicate, Result, refl, ap, subst, ◌∙◌}
use Rattle.world_laws.proofs.Common.{AreOpaque, AreTied, CommitsInOrder, Goes, IsNew, Leads, Obeys, Rules, ShowsAlone, Takes, World, WorldFault, leads_on, observed}
use Rattle.world_rules.proofs.Events.WorldEvents.{leads_keep}
use Rattle.world_laws.{proofs.Solos.Worlds.HasSole, proofs.Solos.Worlds.sole_first, proofs.Solos.Worlds.sole_goes, proofs.Solos.Results.shows_alone}

module _ {P : Type 0} (rules : Rules P) (laws : Obeys rules) where
  -- what the contracts say of a world, and that its one player has it to itself
  record HasOne (w : World P) : Type 0 where
    one : length w.opening ≡ 1
    commits : CommitsInOrder w
    opaque : AreOpaque rules (observed w)
    tied : AreTied rules w
    sole : HasSole rules w

  over : (i : ℕ) (w new : World P) (result : Result (Unit {0}) WorldFault) → HasOne w → Goes rules i w result new → HasOne new
  over i w new result x goes = record {
    one = ap (λ (l : List P). length l) goes.opening.opening ∙ x.one;
    commits = goes.commits;
    opaque = goes.opaque;
    tied = goes.tied;
    sole = sole_goes rules i w new result x.one x.commits x.tied x.sole goes;
  }

  pub led_alone : (schedule : List ℕ) (results : List (Result (Unit {0}) WorldFault)) (first w : World P) → IsNew rules first → CommitsInOrder first → AreOpaque rules (observed first) → AreTied rules first
      → Leads rules first schedule results w → length first.opening ≡ 1 → ShowsAlone rules w
  led_alone schedule results first w new commits opaque tied leads one =
      let x = leads_keep rules HasOne over schedule results first w (record { one = one; commits = commits; opaque = opaque; tied = tied; sole = sole_first rules first new }) leads in
      shows_alone rules laws w x.commits x.opaque x.tied x.sole

-- events of one actor are entries of a schedule
replicate_more : (n actor : ℕ) → replicate n actor ++ actor ∷ [] ≡ replicate (suc n) actor
replicate_more zero actor = refl
replicate_more (suc n) actor = ap (λ (l : List ℕ). actor ∷ l) (replicate_more n actor)

module _ {P : Type 0} (rules : Rules P) where
  pub takes_led : (actor n : ℕ) (old new : World P) → Takes rules actor n old new → (results : List (Result (Unit {0}) WorldFault)) × Leads rules old (replicate n actor) results new
  takes_led actor zero old new t = ([], t)
  takes_led actor (suc n) old new t =
      let l = takes_led actor n old t.0 t.2 in (
        l.0 ++ t.1 ∷ [],
        subst (λ (schedule : List ℕ). Leads rules old schedule (l.0 ++ t.1 ∷ []) new) (replicate_more n actor) (leads_on rules old t.0 new (replicate n actor) l.0 actor t.1 l.1 t.4),
      )
