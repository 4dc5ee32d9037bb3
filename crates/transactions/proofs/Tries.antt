-- What a try of a body tells.
use Rattle.std.proofs.Common.{◌≡◌, ◌∙◌, inr, Bool, true, false, ℕ, List, Result, ap, refl, subst}
use Rattle.transactions.proofs.Common.{Answer, Conflict, Fails, IsGivenUp, KeepsBody, KeepsLent, LeftBy, Lent, Mut, MutBor, Standing, Stop, Stopped, Tried, Words, cancel_told, commit_told, mine_then, stop_told}
use Rattle.norec_core.specs.declared.answer.Answer.TheVariants as answers
use Rattle.itm_runtime.specs.declared.stop.Stop.TheVariants as stops
use Rattle.transactions.specs.declared.failed.Failed.TheVariants as failures
use Rattle.transactions.{specs.declared.tried.Tried.TheVariants.Done, specs.Runs.Tells}

-- told of the words and the body that came first
pub rebased : {F R E : Type 0} (fn : Mut F (MutBor Lent × Unit {0}) (Result R (Stopped E) × (MutBor Lent × Unit {0}))) (words first : Words) → (KeepsLent fn → words ≡ first) → (body passed : F) → (KeepsBody fn → body ≡ passed) → (told : Tried R E) (new : Standing) → Tells fn body words told new → Tells fn passed first told new
rebased fn words first is body passed same told new t = record {
  body = t.body;
  same = λ steady. t.same steady ∙ same steady;
  old = t.old;
  here = λ keeps. t.here keeps ∙ is keeps;
  again = t.again;
  body' = t.body';
  words' = t.words';
  tried = t.tried;
}

module _ {R E : Type 0} (mine : List ℕ) where
  abbrev leaves : Tried R E → Type 0
  leaves told = mine_then mine told ≡ mine

  pub stopped_mine : (told : Tried R E) (why : Stop) (was_open : Bool) → told ≡ stop_told why was_open → leaves told
  stopped_mine told (stops.Refused refusal) true is = ap (mine_then mine) is
  stopped_mine told why was_open is = ap (mine_then mine) is

  pub cancelled_mine : (told : Tried R E) (why : E) (was_open : Bool) → told ≡ cancel_told why was_open → leaves told
  cancelled_mine told why true is = ap (mine_then mine) is
  cancelled_mine told why false is = ap (mine_then mine) is

-- a commit that is neither done nor refused for good is tried again
pub again_told : {R E : Type 0} (value : R) (a : Answer) → ((at : ℕ) (wrote : Bool) → a ≡ answers.Committed at wrote → ⊥) → ((at : ℕ) → a ≡ answers.Full at → ⊥) → Conflict ≡ commit_told {R = R} {E = E} value a
again_told value (answers.Committed at wrote) other full = absurd (other at wrote refl)
again_told value (answers.Full at) other full = absurd (full at refl)
again_told value a other full = refl

-- a commit that is not done is given up after
pub gave_up : (a : Answer) (then : Lent) (new : Standing) → ((at : ℕ) (wrote : Bool) → a ≡ answers.Committed at wrote → ⊥) → IsGivenUp then new → LeftBy a then new
gave_up (answers.Committed at wrote) then new other up = absurd (other at wrote refl)
gave_up a then new other up = inr up

abbrev pub told_at : {R E : Type 0} → Tried R E → ℕ
told_at (Done done) = done.at
told_at _ = 0

-- ## What neither a stop nor a body that cancels is told as

abbrev pub is_other : {R E : Type 0} → Tried R E → Type 0
is_other (Done done) = Unit {0}
is_other (Fails failures.Tries) = Unit {0}
is_other told = ⊥

pub not_stopped : {R E : Type 0} (told : Tried R E) (why : Stop) (was_open : Bool) → told ≡ stop_told why was_open → is_other told → ⊥
not_stopped told (stops.Refused refusal) true is other = subst is_other is other
not_stopped told why was_open is other = subst is_other is other

pub not_cancelled : {R E : Type 0} (told : Tried R E) (why : E) (was_open : Bool) → told ≡ cancel_told why was_open → is_other told → ⊥
not_cancelled told why true is other = subst is_other is other
not_cancelled told why false is other = subst is_other is other

-- nor is a commit told so, unless it is done
abbrev pub wants_tries : {R E : Type 0} → Tried R E → Type 0
wants_tries (Fails failures.Tries) = Unit {0}
wants_tries told = ⊥

pub not_committed : {R E : Type 0} (told : Tried R E) (value : R) (a : Answer) → told ≡ commit_told value a → wants_tries told → ⊥
not_committed told value (answers.Committed at wrote) is wants = subst wants_tries is wants
not_committed told value a is wants = subst wants_tries is wants
