-- The tries of a body in a row, and the transactions that it cancels.
use Rattle.std.specs.Prelude.{◌≡◌, ℕ, zero, suc, ◌<◌, ◌≤◌, Bool, true, false, Result, Ok, Err}
use Rattle.std.specs.Borrow.{MutBor}
use Rattle.std.specs.Fn.{Mut}
use Rattle.transactions.specs.declared.failed.Failed.{Failed}
use Rattle.transactions.specs.declared.failed.Failed.TheVariants as failures
use Rattle.transactions.specs.declared.tried.Done.{Done as Value}
use Rattle.transactions.specs.declared.tried.Tried.{Tried}
use Rattle.transactions.specs.declared.tried.Tried.TheVariants.{Done, Failed as Fails, Conflict, Busy}
use Rattle.transactions.specs.declared.stopped.Stopped.{Stopped}
use Rattle.transactions.specs.Lent.{Lent}
use Rattle.transactions.specs.Runs.{IsCancelled, IsTry}

-- after a try that is told so comes another one
abbrev pub ComesAgain : {R E : Type 0} → Tried R E → Type 0
ComesAgain (Done done) = ⊥
ComesAgain (Fails why) = ⊥
ComesAgain Conflict = Unit {0}
ComesAgain Busy = Unit {0}

-- whether a try came to a conflict: this one, which is told so, or one before it
abbrev pub again_after : {R E : Type 0} → Bool → Tried R E → Bool
again_after again Conflict = true
again_after again told = again

module _ {F R E : Type 0} (fn : Mut F (MutBor Lent × Unit {0}) (Result R (Stopped E) × (MutBor Lent × Unit {0}))) where
  -- n tries in order, each on what the one before left, after each of which another one comes; `again` where one of them came to a conflict
  abbrev pub AreTries : F → Lent → ℕ → Bool → F → Lent → Type 0
  AreTries f old zero again f' new = (f' ≡ f) × (new ≡ old) × (again ≡ false)
  AreTries f old (suc n) again f' new = (g : F) × (mid : Lent) × (was : Bool) × (told : Tried R E) × AreTries f old n was g mid × IsTry fn g mid was told f' new × ComesAgain told × (again ≡ again_after was told)

  -- some tries were made, fewer than there may be, after each of which another one comes
  pub record AfterTries (f : F) (old : Lent) (tries : ℕ) (f' : F) (new : Lent) (again : Bool) : Type 0 where
    pub times : ℕ
    pub fewer : times < tries
    pub before : AreTries f old times again f' new

  -- after such tries the next one is told so
  pub record EndsTries (f : F) (old : Lent) (tries : ℕ) (told : Tried R E) (f' : F) (new : Lent) : Type 0 where
    pub body : F
    pub mid : Lent
    pub again : Bool
    pub after : AfterTries f old tries body mid again
    pub last : IsTry fn body mid again told f' new

  -- the tries of a body, so many at most, come to this: what the first one is told as after which none comes, or `Tries` where another one comes after each of them
  abbrev pub HasTried : F → Lent → ℕ → Result (Value R) (Failed E) → F → Lent → Type 0
  HasTried f old tries (Ok done) f' new = EndsTries f old tries (Done done) f' new
  HasTried f old tries (Err failures.Tries) f' new = (again : Bool) × AreTries f old tries again f' new
  HasTried f old tries (Err why) f' new = EndsTries f old tries (Fails why) f' new

  -- n transactions in order, each on what the one before left and tried at most so often, which the body cancelled
  abbrev pub AreCancelled : F → Lent → ℕ → ℕ → F → Lent → Type 0
  AreCancelled f old tries zero f' new = (f' ≡ f) × (new ≡ old)
  AreCancelled f old tries (suc n) f' new = (g : F) × (mid : Lent) × (why : E) × AreCancelled f old tries n g mid × HasTried g mid tries (Err (failures.Cancelled why)) f' new

  -- transactions were made that the body cancelled, no more of them than so many, and then some tries of the next one
  pub record AfterCancelled (f : F) (old : Lent) (tries retries : ℕ) (f' : F) (new : Lent) (again : Bool) : Type 0 where
    pub times : ℕ
    pub most : times ≤ retries
    pub next : F
    pub mid : Lent
    pub before : AreCancelled f old tries times next mid
    pub after : AfterTries next mid tries f' new again

  -- after transactions that the body cancelled, no more of them than so many, the next one comes to this; where the body cancelled that one too, there were as many before it
  pub record HasRetried (f : F) (old : Lent) (tries retries : ℕ) (told : Result (Value R) (Failed E)) (f' : F) (new : Lent) : Type 0 where
    pub times : ℕ
    pub most : times ≤ retries
    pub all : IsCancelled told → times ≡ retries
    pub body : F
    pub mid : Lent
    pub before : AreCancelled f old tries times body mid
    pub last : HasTried body mid tries told f' new
