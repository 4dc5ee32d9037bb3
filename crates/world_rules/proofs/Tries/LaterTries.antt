-- A try later on: the same attempt with more calls, or once a block of it has gone back.
use Rattle.std.proofs.Common.{inl, inr, ◌≡◌, ℕ, ◌/◌, Bool, true, false, nat_lt, List, [], ◌∷◌, ◌++◌, Option, None, Some, refl, sym, ap, subst, ◌∙◌, arith, append-nil, append_assoc}
use Rattle.world_rules.proofs.Common.{Actor, Attempt, CallRecord, Continues, EndsAt, Extends, GoesBack, GoesOnAfter, HasRow, IsBetween, IsSame, Kept, Outcome, Prior, Ran, Rows, Tries, TriesAgain, active_of, begins, between, current_of, ending_of, none-some, outrun, over, pending_of, prior_of, runs, same_Some, shut_out, turned_away}
use Rattle.tx_attempts.specs.declared.attempt.Outcome.TheVariants as outcomes
use Rattle.tx_runs.specs.declared.ending.End.TheVariants as ends

-- with perhaps more calls and more actions that have run it is the same attempt
pub extends_to : (row : Attempt) (k : Kept) (more : List CallRecord) → k.list ≡ row.calls.list ++ more → (at : ℕ) (outcome : Outcome) (ran more_ran : List Ran) → ran ≡ row.ran ++ more_ran → Extends row (record row { calls = k; at = at; ran = ran; outcome = outcome })
extends_to row k more calls at outcome ran more_ran is = record { same = record { thread = refl; nth = refl; began = refl; props = refl; arena = refl }; restarts = refl; more = more; calls = calls; more_ran = more_ran; ran = is }

-- or with other places for its calls, elsewhere
pub extends_calls : (row : Attempt) (k : Kept) (at : ℕ) → k.list ≡ row.calls.list → Extends row (record row { calls = k; at = at })
extends_calls row k at same = extends_to row k [] (same ∙ sym (append-nil row.calls.list)) at row.outcome row.ran [] (sym (append-nil row.ran))

pub same_twice : (a b c : Attempt) → IsSame a b → IsSame b c → IsSame a c
same_twice a b c x y = record { thread = y.thread ∙ x.thread; nth = y.nth ∙ x.nth; began = y.began ∙ x.began; props = y.props ∙ x.props; arena = y.arena ∙ x.arena }

pub extends_twice : (a b c : Attempt) → Extends a b → Extends b c → Extends a c
extends_twice a b c x y = record {
  same = same_twice a b c x.same y.same;
  restarts = y.restarts ∙ x.restarts;
  more = x.more ++ y.more;
  calls = y.calls ∙ (ap (λ (l : List CallRecord). l ++ y.more) x.calls ∙ append_assoc a.calls.list x.more y.more);
  more_ran = x.more_ran ++ y.more_ran;
  ran = y.ran ∙ (ap (λ (l : List Ran). l ++ y.more_ran) x.ran ∙ append_assoc a.ran x.more_ran y.more_ran);
}

-- ## Where a block may have gone back

pub continues_as : (clock : ℕ) (a b : Attempt) → Extends a b → Continues clock a b
continues_as clock a b x = record { base = a; from = inl refl; on = x }

pub continues_on : (clock : ℕ) (a b c : Attempt) → Continues clock a b → Extends b c → Continues clock a c
continues_on clock a b c x y = record { base = x.base; from = x.from; on = extends_twice x.base b c x.on y }

pub continues_back : (clock : ℕ) (a b : Attempt) → GoesBack clock a b → Continues clock a b
continues_back clock a b x = record { base = b; from = inr x; on = extends_calls b b.calls b.at refl }

pub continues_same : (clock : ℕ) (a b : Attempt) → Continues clock a b → IsSame a b
continues_same clock a b x = elim x.from [ inl is ↦ subst (λ (y : Attempt). IsSame y b) is x.on.same | inr back ↦ same_twice a x.base b back.same x.on.same ]

-- the same of the whole try
pub tries_later : {P : Type 0} {IsLater : Attempt → Attempt → Type 0} {clock clock' : ℕ} {p : Prior} {r : Rows} {a : Actor P} → ((x y : Attempt) → Extends x y → IsLater x y) → Tries Extends clock p clock' r a → Tries IsLater clock p clock' r a
tries_later later (between t) = between t
tries_later later (begins t) = begins t
tries_later later (turned_away t) = turned_away t
tries_later later (outrun t) = outrun t
tries_later later (shut_out t) = shut_out t
tries_later later (runs t) = runs (record { row = t.row; row' = t.row'; was = t.was; now = t.now; continues = later t.row t.row' t.continues; ended = t.ended; half = t.half; tries = t.tries; goes_on = t.goes_on; fed = t.fed })
tries_later later (over t) = over (record { row = t.row; row' = t.row'; was = t.was; ended = t.ended; continues = later t.row t.row' t.continues; reads = t.reads; at = t.at; closed = t.closed; spent = t.spent; few = t.few; after = t.after })

-- the attempt that is open, or else is to be opened
pub current_open : {P : Type 0} (a : Actor P) {row : Attempt} → active_of a ≡ Some row → current_of (active_of a) (pending_of a) ≡ Some row
current_open a e = ap (λ (o : Option Attempt). current_of o (pending_of a)) e

pub current_shut : {P : Type 0} (a : Actor P) {o : Option Attempt} → active_of a ≡ None → pending_of a ≡ o → current_of (active_of a) (pending_of a) ≡ o
current_shut a none e = ap (λ (o : Option Attempt). current_of o (pending_of a)) none ∙ e

module _ {P : Type 0} (seen clock clock' : ℕ) (r r' : Rows) (a a' : Actor P) (ended : r'.ended ≡ r.ended) (half : clock' / 2 ≡ clock / 2) where
  -- no try is open before, and none after
  pub stays_between : active_of a ≡ None → pending_of a ≡ None → IsBetween clock' a.run.nth a' → Tries Extends clock (record (prior_of r a) { seen = seen }) clock' r' a'
  stays_between none nothing b = between (record { idle = current_shut a none nothing; ended = ended; half = half; between = b })

  -- the attempt is open, or was opened
  pub stays_open : (row row' : Attempt) → current_of (active_of a) (pending_of a) ≡ Some row → active_of a' ≡ Some row' → Extends row row' → a'.run.nth ≡ a.run.nth → (ending_of a'.status ≡ Some ends.GaveUp → ⊥) → (ending_of a'.status ≡ Some ends.NoMemory → a'.engine.irrevocable ≡ true)
      → Tries Extends clock (record (prior_of r a) { seen = seen }) clock' r' a'
  stays_open row row' was now continues nth goes_on fed = runs (record { row = row; row' = row'; was = was; now = now; continues = continues; ended = ended; half = half; tries = nth; goes_on = goes_on; fed = fed })

  -- either, where the actor has changed but in this
  pub stays : (b : Bool) → HasRow b a → pending_of a ≡ None → active_of a' ≡ active_of a → pending_of a' ≡ None → a'.run.nth ≡ a.run.nth → (ending_of a'.status ≡ Some ends.GaveUp → ⊥) → (ending_of a'.status ≡ Some ends.NoMemory → a'.engine.irrevocable ≡ true)
      → Tries Extends clock (record (prior_of r a) { seen = seen }) clock' r' a'
  stays true h nothing same still nth goes_on fed = stays_open h.0 h.0 (current_open a h.1) (same ∙ h.1) (extends_calls h.0 h.0.calls h.0.at refl) nth goes_on fed
  stays false h nothing same still nth goes_on fed = stays_between h nothing (record { none = same ∙ h; tries = nth; opens = λ row e. absurd (none-some row (sym still ∙ e)); goes_on = goes_on })

-- what comes after an attempt has to do with the tries alone
pub goes_for : {P : Type 0} (clock : ℕ) (p q : Prior) (a : Actor P) → q.nth ≡ p.nth → q.retries ≡ p.retries → (o : Outcome) → GoesOnAfter o clock p a → GoesOnAfter o clock q a
goes_for clock p q a nth retries outcomes.Conflict g = subst (λ (k : ℕ). TriesAgain (nat_lt k q.nth) clock q.nth a) (sym retries) (subst (λ (k : ℕ). TriesAgain (nat_lt p.retries k) clock k a) (sym nth) g)
goes_for clock p q a nth retries o g = g

-- the attempt that is open stood so earlier, and so did the tries
pub tries_from : {P : Type 0} (IsLater : Attempt → Attempt → Type 0) (then_on : (x y z : Attempt) → IsLater x y → Extends y z → IsLater x z) (clock0 clock clock' : ℕ) (p q : Prior) (r : Rows) (a : Actor P) (row row1 : Attempt) → p.active ≡ Some row1 → IsLater row row1 → current_of q.active q.pending ≡ Some row → p.ended ≡ q.ended → p.nth ≡ q.nth → p.retries ≡ q.retries → p.restarts ≡ q.restarts → clock / 2 ≡ clock0 / 2
    → ((at : ℕ) (o : Outcome) → EndsAt p.max_commits clock clock' at o → EndsAt q.max_commits clock0 clock' at o) → Tries Extends clock p clock' r a → Tries IsLater clock0 q clock' r a
tries_from {P} IsLater then_on clock0 clock clock' p q r a row row1 here continues was ended nth retries restarts half ends t = by_try t
  where
    is_current : {o : Option Attempt} → current_of p.active p.pending ≡ o → Some row1 ≡ o
    is_current e = sym (ap (λ (o : Option Attempt). current_of o p.pending) here) ∙ e

    not_shut : {A : Type 0} → p.active ≡ None → A
    not_shut none = absurd (none-some row1 (sym none ∙ here))

    since : (row2 row3 : Attempt) → current_of p.active p.pending ≡ Some row2 → Extends row2 row3 → IsLater row row3
    since row2 row3 is c = then_on row row1 row3 continues (subst (λ (x : Attempt). Extends x row3) (sym (same_Some _ _ (is_current is))) c)

    by_try : Tries Extends clock p clock' r a → Tries IsLater clock0 q clock' r a
    by_try (between t) = absurd (none-some row1 (sym (is_current t.idle)))
    by_try (begins t) = not_shut t.none
    by_try (turned_away t) = not_shut t.none
    by_try (outrun t) = not_shut t.none
    by_try (shut_out t) = not_shut t.none
    by_try (runs t) = runs (record { row = row; row' = t.row'; was = was; now = t.now; continues = since t.row t.row' t.was t.continues; ended = t.ended ∙ ended; half = t.half ∙ half; tries = t.tries ∙ nth; goes_on = t.goes_on; fed = t.fed })
    by_try (over t) = over (record {
      row = row;
      row' = t.row';
      was = was;
      ended = t.ended ∙ ap (λ (l : List Attempt). l ++ t.row' ∷ []) ended;
      continues = since t.row t.row' t.was t.continues;
      reads = t.reads;
      at = ends t.row'.at t.row'.outcome t.at;
      closed = t.closed;
      spent = t.spent;
      few = (let few = t.few in omega arith);
      after = goes_for clock' p q a (sym nth) (sym retries) t.row'.outcome t.after;
    })
