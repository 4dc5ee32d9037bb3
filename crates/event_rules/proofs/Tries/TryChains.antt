-- Local work after an event, or after other local work: what becomes of the try.
-- Also what holds of actors that have taken no step.
use Rattle.std.proofs.Common.{◌≡◌, ℕ, ◌+◌, ◌/◌, Bool, true, false, nat_lt, List, [], ◌∷◌, ◌++◌, Option, None, Some, sym, ap, subst, ◌∙◌, arith, zero, suc}
use Rattle.event_rules.proofs.Common.{Actor, Attempt, EndsAt, Extends, GoesOnAfter, IsBetween, NoMemory, Outcome, Prior, Ready, Rows, Tries, TriesAgain, begins, between, current_of, ending_in, ending_of, outrun, over, pending_of, prior_of, runs, shut_out, tries_from, turned_away}
use Rattle.tx_attempts.specs.declared.attempt.Outcome.TheVariants as outcomes
use Rattle.event_rules.proofs.Engines.Intakes.{still_going}

-- none found no memory
pub fed_joined : {P : Type 0} (actors : List (Actor P)) (a : Actor P) → ((place : ℕ) → ending_in actors place ≡ Some NoMemory → ⊥) → (ending_of a.status ≡ Some NoMemory → ⊥)
    → (place : ℕ) → ending_in (actors ++ a ∷ []) place ≡ Some NoMemory → ⊥
fed_joined [] a before last zero e = last e
fed_joined [] a before last (suc place) e = absurd (cc)
fed_joined (x ∷ xs) a before last zero e = before 0 e
fed_joined (x ∷ xs) a before last (suc place) e = fed_joined xs a (λ n. before (suc n)) last place e

-- an actor with no try under way is still between two tries after its local work
pub starts_between : {P : Type 0} (clock nth : ℕ) (p : Prior) (r : Rows) (a : Actor P) → Tries Extends clock p clock r a → p.active ≡ None → p.pending ≡ None → p.nth ≡ nth → IsBetween clock nth a × (r.ended ≡ p.ended)
starts_between {P} clock nth p r a t none nothing first = by_try t
  where
    idle : current_of p.active p.pending ≡ None
    idle = ap (λ (o : Option Attempt). current_of o p.pending) none ∙ nothing

    by_try : Tries Extends clock p clock r a → IsBetween clock nth a × (r.ended ≡ p.ended)
    by_try (between t) = (subst (λ (n : ℕ). IsBetween clock n a) first t.between, t.ended)
    by_try (begins t) = absurd (let n = sym nothing ∙ t.was in cc)
    by_try (runs t) = absurd (let n = sym idle ∙ t.was in cc)
    by_try (over t) = absurd (let n = sym idle ∙ t.was in cc)
    by_try (turned_away t) = absurd (let n = sym nothing ∙ t.was in cc)
    by_try (outrun t) = absurd (let n = sym nothing ∙ t.was in cc)
    by_try (shut_out t) = absurd (let n = sym nothing ∙ t.was in cc)

-- with no step an attempt ends as it would have at the event before
ends_on : (max_commits clock clock1 at : ℕ) (o : Outcome) → clock1 / 2 ≡ clock / 2 → EndsAt max_commits clock1 clock1 at o → EndsAt max_commits clock clock1 at o
ends_on max_commits clock clock1 at outcomes.Committed half e = absurd (let x = e.0 in let y = e.1 in omega arith)
ends_on max_commits clock clock1 at outcomes.Full half e = (half, e.1, e.2)
ends_on max_commits clock clock1 at outcomes.Unfinished half e = absurd e
ends_on max_commits clock clock1 at o half e = (half, e.1)

module _ {P : Type 0} (IsLater : Attempt → Attempt → Type 0) (then_on : (x y z : Attempt) → IsLater x y → Extends y z → IsLater x z) (clock clock1 : ℕ) (p : Prior) (r1 r2 : Rows) (a1 a2 : Actor P) (ready : a1.status ≡ Ready) (nothing : pending_of a1 ≡ None)
    (limit : a1.engine.max_commits ≡ p.max_commits) (retries : a1.run.retries ≡ p.retries) (most : a1.engine.restarts ≡ p.restarts) (still : a2.engine.snapshot ≡ a1.engine.snapshot) (work : Tries Extends clock1 (prior_of r1 a1) clock1 r2 a2) where
  -- between two tries, it stays there
  from_between : (nth : ℕ) → IsBetween clock1 nth a1 → IsBetween clock1 nth a2 × (r2.ended ≡ r1.ended)
  from_between nth b = starts_between clock1 nth (prior_of r1 a1) r2 a2 work b.none nothing b.tries

  again : (b : Bool) → TriesAgain b clock1 p.nth a1 → TriesAgain b clock1 p.nth a2 × (r2.ended ≡ r1.ended)
  again true t = still_going ready (ap ending_of t.status)
  again false t = from_between (p.nth + 1) t

  after : (o : Outcome) → GoesOnAfter o clock1 p a1 → GoesOnAfter o clock1 p a2 × (r2.ended ≡ r1.ended)
  after outcomes.Conflict t = again (nat_lt p.retries p.nth) t
  after outcomes.Full t = still_going ready (ap ending_of t.status)
  after outcomes.NoMemory t = still_going ready (ap ending_of t.status)
  after outcomes.Unfinished t = absurd t
  after o t = from_between 1 t

  pub tries_then : Tries IsLater clock p clock1 r1 a1 → Tries IsLater clock p clock1 r2 a2
  tries_then (between t) = (let b = from_between p.nth t.between in between (record { idle = t.idle; ended = b.1 ∙ t.ended; half = t.half; between = b.0 }))
  tries_then (begins t) = absurd (let n = sym nothing ∙ t.now in cc)
  tries_then (over t) =
      let b = after t.row'.outcome t.after in
      over (record { row = t.row; row' = t.row'; was = t.was; ended = b.1 ∙ t.ended; continues = t.continues; reads = t.reads ∙ ap (λ (n : ℕ). n / 2) (sym still); at = t.at; closed = t.closed; spent = t.spent; few = t.few; after = b.0 })
  tries_then (turned_away t) =
      let b = again (nat_lt p.retries p.nth) t.after in
      turned_away (record { none = t.none; row = t.row; was = t.was; ended = b.1 ∙ t.ended; odd = t.odd; same = t.same; after = b.0 })
  tries_then (outrun t) =
      let b = again (nat_lt p.retries p.nth) t.after in
      outrun (record { none = t.none; row = t.row; was = t.was; ended = b.1 ∙ t.ended; moved = t.moved; same = t.same; after = b.0 })
  tries_then (shut_out t) = still_going ready (ap ending_of t.after.status)
  tries_then (runs t) =
      tries_from IsLater then_on clock clock1 clock1 (prior_of r1 a1) p r2 a2 t.row t.row' t.now t.continues t.was t.ended t.tries retries most t.half (λ at o e. subst (λ (n : ℕ). EndsAt n clock clock1 at o) limit (ends_on a1.engine.max_commits clock clock1 at o t.half e)) work
