-- The attempts that have ended, before an event and after it.
use Rattle.std.proofs.Common.{◌≡◌, ℕ, ◌≤◌, List, [], ◌∷◌, ◌++◌, length, IsSome, sym, ◌∙◌, append-nil, arith}
use Rattle.world_rules.proofs.Common.{Actor, Attempt, Goes, Prior, Rows, Rules, Tries, World, begins, between, ending_at, event_result, outrun, over, prior_of, runs, shut_out, turned_away, waits_at}
use Rattle.std.proofs.lemmas.Grind.{common_steps}
use Rattle.world_rules.{proofs.Events.WorldEvents.told_event, proofs.Events.Worlds.waits_there}

-- those that had ended before stay, and others may follow them
abbrev pub Grown : List Attempt → List Attempt → Type 0
Grown old new = (more : List Attempt) × (new ≡ old ++ more)

still : (old new : List Attempt) → new ≡ old → Grown old new
still old new e = ([], e ∙ sym (append-nil old))

tries_grown : {P : Type 0} {IsLater : Attempt → Attempt → Type 0} (clock : ℕ) (p : Prior) (clock' : ℕ) (r : Rows) (a : Actor P) → Tries IsLater clock p clock' r a → Grown p.ended r.ended
tries_grown clock p clock' r a (between t) = still _ _ t.ended
tries_grown clock p clock' r a (begins t) = still _ _ t.ended
tries_grown clock p clock' r a (runs t) = still _ _ t.ended
tries_grown clock p clock' r a (over t) = (t.row' ∷ [], t.ended)
tries_grown clock p clock' r a (turned_away t) = still _ _ t.ended
tries_grown clock p clock' r a (outrun t) = still _ _ t.ended
tries_grown clock p clock' r a (shut_out t) = still _ _ t.ended

pub event_grown : {P : Type 0} (rules : Rules P) (old new : World P) (thread : ℕ) → IsSome (waits_at old thread) → Goes rules thread old (event_result (ending_at new thread)) new → Grown old.attempts.ended new.attempts.ended
event_grown rules old new thread waits g =
    let there = waits_there old thread waits in
    let goes = g.event_of there.0 there.1 (told_event (ending_at new thread)) in
    tries_grown old.cells.clock (prior_of old.attempts there.0) new.cells.clock new.attempts goes.0 goes.2.tries

-- as many as had ended before an event have ended after it
pub ended_within : {P : Type 0} (rules : Rules P) (old new : World P) (thread n : ℕ) → IsSome (waits_at old thread) → Goes rules thread old (event_result (ending_at new thread)) new → n ≡ length old.attempts.ended → n ≤ length new.attempts.ended
ended_within rules old new thread n waits g long = within old.attempts.ended new.attempts.ended n long (event_grown rules old new thread waits g)
  where
    within : (xs ys : List Attempt) (k : ℕ) → k ≡ length xs → Grown xs ys → k ≤ length ys
    within xs ys k e (more, f) = grind (arith, common_steps)
