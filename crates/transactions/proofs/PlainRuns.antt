-- The run that gave the value which is told.
use Rattle.std.proofs.Common.{◌≡◌, ◌∙◌, ℕ, zero, suc, Bool, Result, Ok, Err, IfOk, ap, refl}
use Rattle.transactions.proofs.Common.{AfterCancelled, AfterTries, AreCancelled, EndsTries, Failed, HasRetried, HasTried, IsPlainRun, KeepsBody, KeepsLent, Lent, Makings, Mut, MutBor, Stopped, Value, Words}
use Rattle.transactions.specs.declared.failed.Failed.TheVariants as failures
use Rattle.transactions.specs.declared.tried.Tried.TheVariants.{Done}
use Rattle.transactions.proofs.Chains.{tried_body, tried_words, tries_body, tries_words}
use Rattle.transactions.proofs.Plain.{plain_run}

module _ {F R E : Type 0} (fn : Mut F (MutBor Lent × Unit {0}) (Result R (Stopped E) × (MutBor Lent × Unit {0}))) (makings : Makings fn) (keeps : KeepsLent fn) (tries : ℕ) (f' : F) (new : Lent) where
  -- what came before that run is what came before its tries, and they
  module _ (After : F → Lent → Bool → Type 0) (passed : F) (first : Words) (f : F) (old : Lent) (same : KeepsBody fn → f ≡ passed) (here : old.words ≡ first) (after : (body : F) (mid : Lent) (again : Bool) → AfterTries fn f old tries body mid again → After body mid again) where
    ends_plain : (done : Value R) (t : EndsTries fn f old tries (Done done) f' new) → IsPlainRun fn makings After passed first done new.thread
    ends_plain done t =
        plain_run fn makings After passed first done new.thread t.body (λ steady. tries_body fn f old steady t.after.times t.again t.body t.mid t.after.before ∙ same steady) t.mid t.again (after t.body t.mid t.again t.after)
        (tries_words fn f old keeps t.after.times t.again t.body t.mid t.after.before ∙ here) f' new.words t.last

    all_plain : (told : Result (Value R) (Failed E)) → HasTried fn f old tries told f' new → IfOk told (λ done. IsPlainRun fn makings After passed first done new.thread)
    all_plain (Ok done) t = ends_plain done t
    all_plain (Err why) t = tt

  pub plain_tried : (f : F) (old : Lent) (told : Result (Value R) (Failed E)) → HasTried fn f old tries told f' new → IfOk told (λ done. IsPlainRun fn makings (AfterTries fn f old tries) f old.words done new.thread)
  plain_tried f old told t = all_plain (AfterTries fn f old tries) f old.words f old (λ steady. refl) refl (λ body mid again after. after) told t

  module _ (f : F) (old : Lent) where
    cancelled_body : KeepsBody fn → (n : ℕ) (g : F) (mid : Lent) → AreCancelled fn f old tries n g mid → g ≡ f
    cancelled_body steady zero g mid t = t.0
    cancelled_body steady (suc n) g mid t = tried_body fn t.0 t.1 tries g mid steady (Err (failures.Cancelled t.2)) t.4 ∙ cancelled_body steady n t.0 t.1 t.3

    cancelled_words : (n : ℕ) (g : F) (mid : Lent) → AreCancelled fn f old tries n g mid → mid.words ≡ old.words
    cancelled_words zero g mid t = ap (λ (l : Lent). l.words) t.1
    cancelled_words (suc n) g mid t = tried_words fn t.0 t.1 tries g mid keeps (Err (failures.Cancelled t.2)) t.4 ∙ cancelled_words n t.0 t.1 t.3

    pub plain_retried : (retries : ℕ) (told : Result (Value R) (Failed E)) → HasRetried fn f old tries retries told f' new → IfOk told (λ done. IsPlainRun fn makings (AfterCancelled fn f old tries retries) f old.words done new.thread)
    plain_retried retries told t =
        all_plain (AfterCancelled fn f old tries retries) f old.words t.body t.mid (λ steady. cancelled_body steady t.times t.body t.mid t.before) (cancelled_words t.times t.body t.mid t.before)
        (λ body mid again after. record { times = t.times; most = t.most; next = t.body; mid = t.mid; before = t.before; after = after }) told t.last
