-- An event whose call goes on ends no attempt.
use Rattle.std.proofs.Common.{◌≡◌, ℕ, zero, suc, Bool, true, IsSome, sym, ap, ◌∙◌}
use Rattle.event_rules.proofs.Common.{Actor, Asks, Answers, Call, Goes, Next, Rows, Rules, Step, World, event_result, waits_at}
use Rattle.world_rules.proofs.Events.WorldEvents.{told_event}
use Rattle.world_rules.proofs.Events.Worlds.{waits_there}
use Rattle.world_rules.specs.LocalWork.{ActsOn}
use Rattle.world_rules.specs.Progress.{TellsCall, is_step}
use Rattle.world_rules.specs.Records.{Tells, told}
use Rattle.world_rules.specs.World.{ending_at}
use Rattle.world_rules.specs.declared.actor.Status.TheVariants.{Ready, Waits}

module _ {P : Type 0} (rules : Rules P) where
  -- who waits makes no call
  none_made : (clock n : ℕ) (r r' : Rows) (a a' : Actor P) (call : Call) (step : Step) → a.status ≡ Waits call step → ActsOn rules clock n r a r' a' → a'.status ≡ Ready → ⊥
  none_made clock zero r r' a a' call step w f ready = (let both : Waits call step ≡ Ready = sym w ∙ (sym (ap (λ (x : Actor P). x.status) f.1) ∙ ready) in absurd (let no = both in cc))
  none_made clock (suc n) r r' a a' call step w f ready = none_made clock n r f.0 a f.1 call step w f.2 f.3

  -- so its attempts stay
  rows_stay : (clock n : ℕ) (r r' : Rows) (a a' : Actor P) (call : Call) (step : Step) → a.status ≡ Waits call step → ActsOn rules clock n r a r' a' → r' ≡ r
  rows_stay clock zero r r' a a' call step w f = f.0
  rows_stay clock (suc n) r r' a a' call step w f = absurd (none_made clock n r f.0 a f.1 call step w f.2 f.3)

  -- where the engine asks for a step, that is waited for, and nothing is recorded
  told_waits : (what : Next) (r r' : Rows) (a b : Actor P) (call : Call) → is_step what ≡ true → Tells rules r r' a b call what → (r' ≡ r) × (step : Step) × ((told b).status ≡ Waits call step)
  told_waits (Asks step) r r' a b call is f = (f.1, step, ap (λ (x : Actor P). (told x).status) f.0)
  told_waits (Answers answer) r r' a b call is f = absurd (let no = is in cc)

  pub quiet_event : (actor : ℕ) (goes_on : Bool) (old new : World P) → IsSome (waits_at old actor) → Goes rules actor old (event_result (ending_at new actor)) new → TellsCall rules actor goes_on old new → goes_on ≡ true
      → new.attempts.ended ≡ old.attempts.ended
  quiet_event actor goes_on old new waits g tells on =
      let there = waits_there old actor waits in
      let goes = g.event_of there.0 there.1 (told_event (ending_at new actor)) in
      let event = goes.2 in
      let takes = event.takes in
      let t = told_waits takes.what old.attempts event.rows _ takes.recorded takes.call (sym (tells.event there.0 goes.0 there.1 event) ∙ on) takes.tells in
      let status = ap (λ (x : Actor P). x.status) takes.moves ∙ t.2 in
      ap (λ (r : Rows). r.ended) (rows_stay new.cells.clock event.works.0 event.rows new.attempts event.stepped goes.0 takes.call t.1 status event.works.1 ∙ t.0)
