-- What follows from how often a body was tried, and from what each try was told as.
use Rattle.std.proofs.Common.{◌≡◌, ◌∙◌, ◌+◌, ◌≤◌, inl, inr, ℕ, zero, suc, Bool, true, false, Result, Ok, Err, IfOk, add-one, ap, arith, subst, sym}
use Rattle.transactions.proofs.Common.{Answer, AreCancelled, AreTries, CalledAtMut, Cancelled, ComesAgain, ComesTo, Commit, EndsBy, EndsTries, Engine, Failed, Fails, HasRetried, HasTried, IsAnswered, IsCancelled, IsKept, IsTry, KeepsBody, KeepsLent, LeavesLent, Lent, Mut, MutBor, Standing, Stands, Stopped, Tried, Value, again_after, commit_told, in_transaction, looks_of, seen_of, start_of, view_of}
use Rattle.norec_core.specs.declared.answer.Answer.TheVariants as answers
use Rattle.shared_words.proofs.ListPlaces.{starts_le}
use Rattle.transactions.specs.declared.failed.Failed.TheVariants as failures
use Rattle.transactions.specs.declared.tried.Tried.TheVariants.{Done}
use Rattle.transactions.specs.Runs.{Tells}
use Rattle.transactions.proofs.Came.{left_after, tried_after}
use Rattle.transactions.proofs.Tries.{is_other, not_cancelled, not_committed, not_stopped, told_at, wants_tries}

-- ## One try

-- no try wants more tries
module _ {F R E : Type 0} (fn : Mut F (MutBor Lent × Unit {0}) (Result R (Stopped E) × (MutBor Lent × Unit {0}))) (f : F) (old : Lent) (again : Bool) (f' : F) (new : Lent) where
  ended_not : (told : Tried R E) (gives : Result R (Stopped E)) (last : Lent) (left : Standing) → EndsBy gives last told left → wants_tries told → is_other told → ⊥
  ended_not told (Ok value) last left ends wants other = not_committed told value ends.answer ends.told_is wants
  ended_not told (Err (Engine why)) last left ends wants other = not_stopped told why (in_transaction last.thread.engine) ends.1 other
  ended_not told (Err (Cancelled why)) last left ends wants other = not_cancelled told why (in_transaction last.thread.engine) ends.1 other

  pub tried_not : IsTry fn f old again (Fails failures.Tries) f' new → ⊥
  tried_not (inl run) = ended_not (Fails failures.Tries) run.gives run.last new.thread run.ends tt tt
  tried_not (inr none) = not_stopped {R = R} {E = E} (Fails failures.Tries) none.stop true none.told_is tt

  try_words : KeepsLent fn → (told : Tried R E) → IsTry fn f old again told f' new → new.words ≡ old.words
  try_words keeps told (inl run) = run.stays ∙ (keeps f run.began run.gives f' run.last run.runs).words ∙ run.here
  try_words keeps told (inr none) = none.stays ∙ none.here

  try_body : KeepsBody fn → (told : Tried R E) → IsTry fn f old again told f' new → f' ≡ f
  try_body steady told (inl run) = steady f run.began run.gives f' run.last run.runs
  try_body steady told (inr none) = none.not_run

-- the commit of a transaction comes no earlier than what its pass had seen by then
committed_late : {R E : Type 0} (done : Value R) (value : R) (last then : Lent) (a : Answer) → Stands (view_of last.thread.pass) last.thread.engine → IsAnswered last.words (start_of last.thread Commit false) a then.thread.pass then.thread.engine
    → Done done ≡ commit_told {R = R} {E = E} value a → seen_of last ≤ done.at
committed_late done value last then (answers.Committed at wrote) stood answered is =
    let commits = answered.served.tells in
    let told : done.at ≡ at = ap told_at is in
    let here = commits.closes.at_is in
    let count = (stood.reads commits.was_open).count in
    let late = commits.closes.late commits.was_open in
    omega (arith, told, here, count, late)
committed_late done value last then a stood answered is = absurd (subst is_other is tt)

module _ {F R E : Type 0} (fn : Mut F (MutBor Lent × Unit {0}) (Result R (Stopped E) × (MutBor Lent × Unit {0}))) (keeps : KeepsLent fn) (f : F) (old : Lent) (again : Bool) (done : Value R) (f' : F) (new : Lent) where
  late_by : (began last : Lent) (gives : Result R (Stopped E)) → seen_of old ≤ seen_of began → CalledAtMut fn f began gives f' last → EndsBy gives last (Done done) new.thread → seen_of old ≤ done.at
  late_by began last (Ok value) more runs ends =
      let kept = keeps f began (Ok value) f' last runs in
      let ran = starts_le (view_of last.thread.pass).seen (view_of began.thread.pass).seen kept.went.grows in
      let late = committed_late {E = E} done value last ends.then ends.answer ends.stood ends.answered ends.told_is in
      omega (arith, more, ran, late)
  late_by began last (Err (Engine why)) more runs ends = absurd (not_stopped {R = R} {E = E} (Done done) why (in_transaction last.thread.engine) ends.1 tt)
  late_by began last (Err (Cancelled why)) more runs ends = absurd (not_cancelled {R = R} {E = E} (Done done) why (in_transaction last.thread.engine) ends.1 tt)

  -- so does that of a try
  pub late_try : IsTry fn f old again (Done done) f' new → seen_of old ≤ done.at
  late_try (inl run) = late_by run.began run.last run.gives (starts_le (view_of run.began.thread.pass).seen (view_of old.thread.pass).seen run.begins.answered.served.went.grows) run.runs run.ends
  late_try (inr none) = absurd (not_stopped {R = R} {E = E} (Done done) none.stop true none.told_is tt)

-- what its pass has seen has only grown
pub seen_more : (old new : Lent) → IsKept old new → seen_of old ≤ seen_of new
seen_more old new kept = starts_le (view_of new.thread.pass).seen (view_of old.thread.pass).seen kept.went.grows

late_after : {R E : Type 0} (old mid : Lent) (told : Result (Value R) (Failed E)) → IsKept old mid → IfOk told (λ done. seen_of mid ≤ done.at) → IfOk told (λ done. seen_of old ≤ done.at)
late_after old mid (Ok done) kept late = let more = seen_more old mid kept in omega (arith, more, late)
late_after old mid (Err why) kept late = tt

-- what a transaction leaves, it leaves of all that came before it too
pub lent_after : {R E : Type 0} (old mid new : Lent) (tries tried : ℕ) (told : Result (Value R) (Failed E)) → IsKept old mid → tries ≡ tried → LeavesLent mid tries told new → LeavesLent old tried told new
lent_after old mid new tries tried told was same now = record {
  left = left_after old mid new told was now.left;
  late = late_after old mid told was now.late;
  tried = tried_after told (looks_of old) (looks_of mid) (looks_of new) tries tried now.tried was.went.looks same;
}

-- ## Tries in a row

module _ {F R E : Type 0} (fn : Mut F (MutBor Lent × Unit {0}) (Result R (Stopped E) × (MutBor Lent × Unit {0}))) (f : F) (old : Lent) where
  pub tries_words : KeepsLent fn → (n : ℕ) (again : Bool) (f' : F) (new : Lent) → AreTries fn f old n again f' new → new.words ≡ old.words
  tries_words keeps zero again f' new t = ap (λ (l : Lent). l.words) t.1
  tries_words keeps (suc n) again f' new t = try_words fn t.0 t.1 t.2 f' new keeps t.3 t.5 ∙ tries_words keeps n t.2 t.0 t.1 t.4

  pub tries_body : KeepsBody fn → (n : ℕ) (again : Bool) (f' : F) (new : Lent) → AreTries fn f old n again f' new → f' ≡ f
  tries_body steady zero again f' new t = t.0
  tries_body steady (suc n) again f' new t = try_body fn t.0 t.1 t.2 f' new steady t.3 t.5 ∙ tries_body steady n t.2 t.0 t.1 t.4

  -- another one, after which one more comes
  pub try_more : (n : ℕ) (was again : Bool) (g f' : F) (mid new : Lent) (told : Tried R E) → ComesAgain told → again ≡ again_after was told → AreTries fn f old n was g mid → IsTry fn g mid was told f' new → AreTries fn f old (n + 1) again f' new
  try_more n was again g f' mid new told comes is before tried = subst (λ (m : ℕ). AreTries fn f old m again f' new) (sym (add-one n)) (g, mid, was, told, before, tried, comes, is)

  -- ## All tries

  module _ (tries : ℕ) (f' : F) (new : Lent) where
    -- a try that failed is told as its error
    pub tried_failed : (why : Failed E) → EndsTries fn f old tries (Fails why) f' new → HasTried fn f old tries (Err why) f' new
    tried_failed failures.Tries t = absurd (tried_not fn t.body t.mid t.again f' new t.last)
    tried_failed why t = t

    ends_body : KeepsBody fn → (told : Tried R E) → EndsTries fn f old tries told f' new → f' ≡ f
    ends_body steady told t = try_body fn t.body t.mid t.again f' new steady told t.last ∙ tries_body steady t.after.times t.again t.body t.mid t.after.before

    -- they leave the body as it was, where each run does
    pub tried_body : KeepsBody fn → (told : Result (Value R) (Failed E)) → HasTried fn f old tries told f' new → f' ≡ f
    tried_body steady (Ok done) t = ends_body steady (Done done) t
    tried_body steady (Err failures.Tries) t = tries_body steady tries t.0 f' new t.1
    tried_body steady (Err why) t = ends_body steady (Fails why) t

    ends_words : KeepsLent fn → (told : Tried R E) → EndsTries fn f old tries told f' new → new.words ≡ old.words
    ends_words keeps told t = try_words fn t.body t.mid t.again f' new keeps told t.last ∙ tries_words keeps t.after.times t.again t.body t.mid t.after.before

    -- and on the same words
    pub tried_words : KeepsLent fn → (told : Result (Value R) (Failed E)) → HasTried fn f old tries told f' new → new.words ≡ old.words
    tried_words keeps (Ok done) t = ends_words keeps (Done done) t
    tried_words keeps (Err failures.Tries) t = tries_words keeps tries t.0 f' new t.1
    tried_words keeps (Err why) t = ends_words keeps (Fails why) t

    ends_tells : (told : Tried R E) → EndsTries fn f old tries told f' new → Tells fn f old.words told new.thread
    ends_tells told t = record {
      body = t.body;
      same = λ steady. tries_body steady t.after.times t.again t.body t.mid t.after.before;
      old = t.mid;
      here = λ keeps. tries_words keeps t.after.times t.again t.body t.mid t.after.before;
      again = t.again;
      body' = f';
      words' = new.words;
      tried = t.last;
    }

    -- what they come to is told of the last one
    pub came_of : (told : Result (Value R) (Failed E)) → HasTried fn f old tries told f' new → ComesTo fn f old.words told new.thread
    came_of (Ok done) t = ends_tells (Done done) t
    came_of (Err failures.Tries) t = tt
    came_of (Err why) t = ends_tells (Fails why) t

-- ## Transactions that the body cancels

module _ {F R E : Type 0} (fn : Mut F (MutBor Lent × Unit {0}) (Result R (Stopped E) × (MutBor Lent × Unit {0}))) (f : F) (old : Lent) (tries limit : ℕ) (limit_is : limit ≡ tries) (n : ℕ) (g f' : F) (mid new : Lent) (before : AreCancelled fn f old tries n g mid) where
  cancelled_at : (why : E) → HasTried fn g mid limit (Err (failures.Cancelled why)) f' new → AreCancelled fn f old tries (n + 1) f' new
  cancelled_at why tried =
      subst (λ (m : ℕ). AreCancelled fn f old tries m f' new) (sym (add-one n)) (g, mid, why, before, subst (λ (m : ℕ). HasTried fn g mid m (Err (failures.Cancelled why)) f' new) limit_is tried)

  -- another one
  pub cancelled_more : (told : Result (Value R) (Failed E)) → IsCancelled told → HasTried fn g mid limit told f' new → AreCancelled fn f old tries (n + 1) f' new
  cancelled_more (Err (failures.Cancelled why)) is tried = cancelled_at why tried
  cancelled_more told is tried = absurd is

  -- the one that is told
  pub retried : (retries : ℕ) (told : Result (Value R) (Failed E)) → n ≤ retries → (IsCancelled told → n ≡ retries) → HasTried fn g mid limit told f' new → HasRetried fn f old tries retries told f' new
  retried retries told most all tried = record {
    times = n;
    most = most;
    all = all;
    body = g;
    mid = mid;
    before = before;
    last = subst (λ (m : ℕ). HasTried fn g mid m told f' new) limit_is tried;
  }
