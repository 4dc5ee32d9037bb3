-- The open attempt of an actor that found no memory is irrevocable; so there is none where no such attempt is.
use Rattle.std.proofs.Common.{inl, inr, ◌≡◌, ℕ, true, List, None, Some, slice_get, Result, sym, ap, subst, ◌∙◌}
use Rattle.world_laws.proofs.Common.{Actor, All-append, Attempt, FedLeaveNoneOpen, Goes, IsFed, IsNew, Leads, NoMemory, Prior, Rows, Rules, Tries, World, WorldFault, active_of, between, both_ways, cases_Bool, ending_at, ending_of, is_event, none-some, opens, option_and_then, over, set_place, waits_there}
use Rattle.tx_attempts.specs.declared.attempt.Outcome.TheVariants as outcomes
use Rattle.world_rules.{proofs.Events.WorldEvents.leads_keep, proofs.Tries.ToldTries.stays_or_none}
use Rattle.world_laws.proofs.LegalHistories.Holders.{all_ended, each_open, placed_there}

-- ## One actor

module _ {P : Type 0} where
  -- if it found no memory, its open attempt is irrevocable
  abbrev StaysHeld : Actor P → Type 0
  StaysHeld a = ending_of a.status ≡ Some NoMemory → (row : Attempt) → active_of a ≡ Some row → a.engine.irrevocable ≡ true

  none_held : (a : Actor P) → active_of a ≡ None → StaysHeld a
  none_held a none e row unclosed = absurd (none-some row (sym none ∙ unclosed))

  tries_held : {IsLater : Attempt → Attempt → Type 0} (clock : ℕ) (p : Prior) (clock' : ℕ) (r : Rows) (a : Actor P) → Tries IsLater clock p clock' r a → StaysHeld a
  tries_held clock p clock' r a t = elim (stays_or_none clock clock' p r a t) [ inl t ↦ λ e row unclosed. t.fed e | inr none ↦ none_held a none ]

-- ## All of a world's

module _ {P : Type 0} (rules : Rules P) where
  abbrev StayHeld : World P → Type 0
  StayHeld w = (place : ℕ) (a : Actor P) → slice_get w.actors place ≡ Some a → StaysHeld a

  held_goes : (i : ℕ) (w new : World P) (result : Result (Unit {0}) WorldFault) → StayHeld w → Goes rules i w result new → StayHeld new
  held_goes i w new result held goes = elim (cases_Bool (is_event result)) [
    | inl done ↦
        (let there = waits_there w i (goes.event.0 done) in
        let went = goes.event_of there.0 there.1 done in
        λ place a here. elim (set_place w.actors i there.0 went.0 there.1 place a (ap (λ (l : List (Actor P)). slice_get l place) (sym went.1) ∙ here)) [
          | inl x ↦ subst StaysHeld (sym x.1) (tries_held w.cells.clock _ new.cells.clock new.attempts went.0 went.2.tries)
          | inr x ↦ held place a x.1
        ])
    | inr none ↦ subst StayHeld (sym (goes.unchanged none)) held
  ]

  -- ## At the end

  -- who found none has no open attempt, where the world is fed
  pub starved_shut : (schedule : List ℕ) (results : List (Result (Unit {0}) WorldFault)) (first w : World P) → IsNew rules first → Leads rules first schedule results w → IsFed w
      → (place : ℕ) (a : Actor P) (row : Attempt) → slice_get w.actors place ≡ Some a → active_of a ≡ Some row → ending_at w place ≡ Some NoMemory → ⊥
  starved_shut schedule results first w new leads fed place a row here some starved =
      let ended : ending_of a.status ≡ Some NoMemory = sym (ap (option_and_then (λ (x : Actor P). ending_of x.status)) here) ∙ starved in
      both_ways a.engine.irrevocable (fed place a here ended) (leads_keep rules StayHeld held_goes schedule results first w (λ place a here. none_held a (new.first place a here).between.none) leads place a here ended row some)

  pub fed_leave_none_open : FedLeaveNoneOpen rules
  fed_leave_none_open schedule results first w new leads commits tied fed =
      let Q : Attempt → Type 0 = λ row. ending_at w row.thread ≡ Some NoMemory → row.outcome ≡ outcomes.Unfinished → ⊥ in
      All-append Q w.attempts.ended (opens w.actors) (all_ended Q w.attempts.ended commits.ended (λ row over starved. over))
      (each_open Q w.actors (λ place a row here some starved unfinished.
      starved_shut schedule results first w new leads fed place a row here some (ap (ending_at w) (sym (placed_there tied place a row here some)) ∙ starved)))
