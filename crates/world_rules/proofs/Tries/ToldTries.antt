-- An open attempt that is told where its engine reads goes on with its try.
use Rattle.std.proofs.Common.{◌≡◌, ◌⊎◌, inl, inr, ℕ, ◌/◌, Bool, true, false, nat_lt, None, refl, sym, subst}
use Rattle.world_rules.proofs.Common.{Actor, Attempt, Continues, GoesOnAfter, HasRow, IsKept, Outcome, Prior, ReadsAt, Rows, Tries, TriesAgain, active_of, begins, between, in_transaction, outrun, over, runs, shut_out, told, turned_away}
use Rattle.tx_attempts.specs.declared.attempt.Outcome.TheVariants as outcomes
use Rattle.world_rules.specs.Tries.{StaysOpen}
use Rattle.world_rules.proofs.Tries.LaterTries.{continues_on, extends_calls}
use Rattle.world_rules.proofs.Tries.Stages.{moved_here, moved_none, moved_row}

module _ {P : Type 0} (a : Actor P) where
  -- with none open nothing is told
  pub told_none : active_of a ≡ None → told a ≡ a
  told_none none = λ i. record a { run = record a.run { current = moved_none (a.engine.snapshot / 2) a.run.current none i } }

  -- nor where it is known
  pub told_here : ReadsAt a → told a ≡ a
  told_here reads = λ i. record a { run = record a.run { current = moved_here (a.engine.snapshot / 2) a.run.current reads i } }

  pub told_row : (b : Bool) → HasRow b a → HasRow b (told a)
  told_row false none = subst (HasRow false) (sym (told_none none)) none
  told_row true row = (record row.0 { at = a.engine.snapshot / 2 }, moved_row (a.engine.snapshot / 2) a.run.current row.0 row.1, row.2, row.3)

  pub told_kept : IsKept (in_transaction a.engine) a → IsKept (in_transaction a.engine) (told a)
  told_kept kept = record { row = told_row (in_transaction a.engine) kept.row; tried = kept.tried; tries = kept.tries; retries = kept.retries }

pub none_again : {P : Type 0} (clock nth : ℕ) (a : Actor P) (b : Bool) → TriesAgain b clock nth a → active_of a ≡ None
none_again clock nth a true t = t.none
none_again clock nth a false t = t.none

module _ {P : Type 0} (clock clock' : ℕ) (p : Prior) (r : Rows) (a : Actor P) where
  -- no row where one has stopped or is between two tries
  none_after : (o : Outcome) → GoesOnAfter o clock' p a → active_of a ≡ None
  none_after outcomes.Conflict t = none_again clock' p.nth a (nat_lt p.retries p.nth) t
  none_after outcomes.Unfinished t = absurd t
  none_after o t = t.none

  -- the attempt stays open, or none is
  pub stays_or_none : {IsLater : Attempt → Attempt → Type 0} → Tries IsLater clock p clock' r a → StaysOpen IsLater clock p clock' r a ⊎ (active_of a ≡ None)
  stays_or_none (between t) = inr t.between.none
  stays_or_none (begins t) = inr t.still
  stays_or_none (runs t) = inl t
  stays_or_none (over t) = inr (none_after t.row'.outcome t.after)
  stays_or_none (turned_away t) = inr (none_again clock' p.nth a (nat_lt p.retries p.nth) t.after)
  stays_or_none (outrun t) = inr (none_again clock' p.nth a (nat_lt p.retries p.nth) t.after)
  stays_or_none (shut_out t) = inr t.after.none

  pub told_tries : Tries (Continues clock) clock p clock' r a → Tries (Continues clock) clock p clock' r (told a)
  told_tries t = elim (stays_or_none t) [
    | inl t ↦ runs (record {
      row = t.row;
      row' = record t.row' { at = a.engine.snapshot / 2 };
      was = t.was;
      now = moved_row (a.engine.snapshot / 2) a.run.current t.row' t.now;
      continues = continues_on clock t.row t.row' (record t.row' { at = a.engine.snapshot / 2 }) t.continues (extends_calls t.row' t.row'.calls (a.engine.snapshot / 2) refl);
      ended = t.ended;
      half = t.half;
      tries = t.tries;
      goes_on = t.goes_on;
      fed = t.fed;
    })
    | inr none ↦ subst (Tries (Continues clock) clock p clock' r) (sym (told_none a none)) t
  ]
