-- The limits of an actor, at its begin and later.
use Rattle.std.proofs.Common.{◌≡◌, ℕ}
use Rattle.event_rules.proofs.Common.{Actor, Limits, first_engine, limits_of}

-- they stay where the engine's and the retries do
pub limits_stay : {P : Type 0} (a a' : Actor P) → a'.run.retries ≡ a.run.retries
    → (a'.engine.max_commits ≡ a.engine.max_commits) × (a'.engine.patience ≡ a.engine.patience) × (a'.engine.depth ≡ a.engine.depth) × (a'.engine.restarts ≡ a.engine.restarts)
    → limits_of a' ≡ limits_of a
limits_stay a a' retries same = λ i. record { patience = same.1 i; retries = retries i; max_commits = same.0 i; depth = same.2 i; restarts = same.3 i }

-- they are those that its engine was made with
pub limits_as : {P : Type 0} (a : Actor P) (words arena : ℕ) (limits : Limits) → a.engine ≡ first_engine words arena limits → a.run.retries ≡ limits.retries → limits_of a ≡ limits
limits_as a words arena limits engine retries = λ i. record { patience = (engine i).patience; retries = retries i; max_commits = (engine i).max_commits; depth = (engine i).depth; restarts = (engine i).restarts }
