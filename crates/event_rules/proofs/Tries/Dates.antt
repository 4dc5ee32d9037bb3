-- Which try of its block an attempt is, and when it began: an event keeps what the attempts before it say of that.
use Rattle.std.proofs.Common.{◌≡◌, ℕ, ◌+◌, ◌/◌, ◌<◌, ◌≤◌, ◌==◌, Bool, true, false, nat_lt, List, [], ◌∷◌, ◌++◌, length, Option, None, Some, is_some, slice_get, slice_set, if◌then◌else◌, inl, inr, refl, sym, ap, subst, ◌∙◌, arith, eq-eqb, append_assoc}
use Rattle.event_rules.proofs.Common.{Actor, AllByRecursion, AllOf, AreActors, AreDated, AreFrom, AreOfActors, Attempt, BeginsAt, Call, Cells, CommitsInOrder, Continues, Core, End, GaveUp, GoesOnAfter, HasRow, HasStopped, IsBetween, IsDated, IsDatedActor, IsDatedWorld, IsEvent, IsSame, IsTry, IsWorld, Limits, NoMemory, Outcome, Phase, Prior, RestartAtMost, Rows, Rules, Status, StatusIs, Tries, TriesAgain, Waits, World, active_of, append-nil, attempts_of, begins, between, both_ways, cond_both, continues_same, count_committed, current_of, ending_of, in_transaction, is_begin, is_committed, is_waiting, led_by, ltb-false, ne_eqb, none-some, one_where, open_only, opens, outrun, over, pending_of, prior_of, runs, same_Some, set_place, shut_out, tried_by, tried_in, turned_away, up_to_last, waiting_going}
use Rattle.norec_core.specs.Phases as at
use Rattle.tx_attempts.specs.declared.attempt.Outcome.TheVariants as outcomes
use Rattle.run_rules.proofs.RestartLists.{few_both, few_more}
use Rattle.event_rules.proofs.Tries.ThreadAttempts.{are_open, opens_each}
use Rattle.event_rules.proofs.Commits.CommitCounts.{count_committed_both, some_ended}

-- ## Up to a thread's last attempt

-- none of these is the thread's
abbrev AreElse : ℕ → List Attempt → Type 0
AreElse thread [] = Unit {0}
AreElse thread (a ∷ rest) = (a.thread ≡ thread → ⊥) × AreElse thread rest

else_all : (thread other : ℕ) (xs : List Attempt) → (other ≡ thread → ⊥) → AllOf other xs → AreElse thread xs
else_all thread other [] apart all = tt
else_all thread other (x ∷ xs) apart all = ((λ e. apart (sym all.0 ∙ e)), else_all thread other xs apart all.1)

else_below : (thread n : ℕ) (xs : List Attempt) → n ≤ thread → AreOfActors n xs → AreElse thread xs
else_below thread n [] l all = tt
else_below thread n (x ∷ xs) l all = ((λ e. (let m = all.0 in omega arith)), else_below thread n xs l all.1)

none_last : (thread : ℕ) (xs : List Attempt) → AreElse thread xs → up_to_last thread xs ≡ []
none_last thread [] n = refl
none_last thread (x ∷ xs) n = ap (led_by thread x) (none_last thread xs n.1) ∙ ap (λ (b : Bool). if b then x ∷ [] else []) (ne_eqb x.thread thread n.0)

last_else : (thread : ℕ) (xs ys : List Attempt) → AreElse thread ys → up_to_last thread (xs ++ ys) ≡ up_to_last thread xs
last_else thread [] ys n = none_last thread ys n
last_else thread (x ∷ xs) ys n = ap (led_by thread x) (last_else thread xs ys n)

led_more : (thread : ℕ) (x : Attempt) (xs : List Attempt) (a : Attempt) → led_by thread x (xs ++ a ∷ []) ≡ x ∷ xs ++ a ∷ []
led_more thread x [] a = refl
led_more thread x (y ∷ ys) a = refl

last_own : (thread : ℕ) (xs : List Attempt) (a : Attempt) → a.thread ≡ thread → up_to_last thread (xs ++ a ∷ []) ≡ xs ++ a ∷ []
last_own thread [] a e = ap (λ (b : Bool). if b then a ∷ [] else []) (eq-eqb a.thread thread e)
last_own thread (x ∷ xs) a e = ap (led_by thread x) (last_own thread xs a e) ∙ led_more thread x xs a

tried_more : (xs : List Attempt) (a : Attempt) → tried_in (xs ++ a ∷ []) ≡ tried_by a.outcome a.nth
tried_more [] a = refl
tried_more (x ∷ []) a = refl
tried_more (x ∷ y ∷ ys) a = tried_more (y ∷ ys) a

last_few : (thread : ℕ) (xs : List Attempt) → count_committed (up_to_last thread xs) ≤ count_committed xs
last_few thread [] = omega arith
last_few thread (x ∷ xs) = by_rest (up_to_last thread xs) (last_few thread xs)
  where
    by_rest : (ys : List Attempt) → count_committed ys ≤ count_committed xs → count_committed (led_by thread x ys) ≤ one_where (is_committed x.outcome) + count_committed xs
    by_rest [] l = cond_both (x.thread == thread) (x ∷ []) [] (λ (zs : List Attempt). count_committed zs ≤ one_where (is_committed x.outcome) + count_committed xs) (λ h. omega arith) (λ h. omega arith)
    by_rest (y ∷ ys) l = omega arith

-- ## Dated attempts

-- after attempts that end at the same one of its thread, a later row of the same attempt
dated_by : (k : ℕ) (before before' : List Attempt) (row row' : Attempt) → up_to_last row'.thread before' ≡ up_to_last row.thread before → count_committed before ≤ count_committed before' → row'.nth ≡ row.nth → row'.began ≡ row.began → IsDated k before row → IsDated k before' row'
dated_by k before before' row row' led fewer nth began d =
    let tried : tried_in (up_to_last row'.thread before') ≡ tried_in (up_to_last row.thread before) = ap tried_in led in
    let count : count_committed (up_to_last row'.thread before') ≡ count_committed (up_to_last row.thread before) = ap count_committed led in
    record {
      later = (let l = d.later in omega arith);
      few = (let l = d.few in omega arith);
      after = (let l = d.after in omega arith);
      by_now = (let l = d.by_now in omega arith);
      at_once = λ e. (let here = d.at_once (sym nth ∙ (e ∙ ap (λ (n : ℕ). n + 1) tried)) in began ∙ (here ∙ sym count));
    }

dated_else : (k : ℕ) (before more : List Attempt) (a : Attempt) → AreElse a.thread more → IsDated k before a → IsDated k (before ++ more) a
dated_else k before more a n d = dated_by k before (before ++ more) a a (last_else a.thread before more n) (let both = count_committed_both before more in omega arith) refl refl d

dated_as : (k : ℕ) (before : List Attempt) (row row' : Attempt) → IsSame row row' → IsDated k before row → IsDated k before row'
dated_as k before row row' c d = dated_by k before before row row' (ap (λ (t : ℕ). up_to_last t before) c.thread) (let l : count_committed before ≤ count_committed before = omega arith in l) c.nth c.began d

dated_both : (k : ℕ) (before xs ys : List Attempt) → AreDated k before xs → AreDated k (before ++ xs) ys → AreDated k before (xs ++ ys)
dated_both k before [] ys d e = subst (λ (l : List Attempt). AreDated k l ys) (append-nil before) e
dated_both k before (x ∷ xs) ys d e = (d.0, dated_both k (before ++ x ∷ []) xs ys d.1 (subst (λ (l : List Attempt). AreDated k l ys) (sym (append_assoc before (x ∷ []) xs)) e))

-- the open ones, of which each comes next after those that have ended
open_dated : (k n : ℕ) (ended more xs : List Attempt) → AreOfActors n more → AreFrom n xs → AllByRecursion (IsDated k ended) xs → AreDated k (ended ++ more) xs
open_dated k n ended more [] below from each = tt
open_dated k n ended more (x ∷ xs) below from each = (
  dated_else k ended more x (else_below x.thread n more from.0 below) each.0,
  subst (λ (l : List Attempt). AreDated k l xs) (sym (append_assoc ended more (x ∷ [])))
      (open_dated k (x.thread + 1) ended (more ++ x ∷ []) xs (below_more more below) from.1 each.1),
)
  where
    below_more : (ys : List Attempt) → AreOfActors n ys → AreOfActors (x.thread + 1) (ys ++ x ∷ [])
    below_more [] all = ((let l : x.thread < x.thread + 1 = omega arith in l), tt)
    below_more (y ∷ ys) all = ((let l = all.0 in let m = from.0 in omega arith), below_more ys all.1)

pub all_dated : {P : Type 0} {rules : Rules P} (w : World P) → AreActors rules w.cells w.attempts w.actors → IsDatedWorld w → AreDated w.limits.retries [] (attempts_of w)
all_dated w sound d =
    let opened = opens w.actors in
    dated_both w.limits.retries [] w.attempts.ended opened d.ended
    (subst (λ (l : List Attempt). AreDated w.limits.retries l opened) (append-nil w.attempts.ended) (open_dated w.limits.retries 0 w.attempts.ended [] opened tt (are_open sound).by_actor
    (opens_each (AllByRecursion (IsDated w.limits.retries w.attempts.ended)) tt w.actors (λ place a row e here xs rest. (((d.each place a e).opened row here).dated, rest)))))

-- and of each no more blocks ran again than may

pub all_few : {P : Type 0} {rules : Rules P} (w : World P) → AreActors rules w.cells w.attempts w.actors → CommitsInOrder w → IsDatedWorld w → RestartAtMost w.limits.restarts (attempts_of w)
all_few w sound commits d =
    few_both w.limits.restarts w.attempts.ended (opens w.actors) d.few
    (opens_each (RestartAtMost w.limits.restarts) tt w.actors (λ place a row e here xs rest.
    (let s = (sound.each place a e).sound in let few = s.acts.few row here in let most = s.tied.settled.few in let same = ap (λ (l : Limits). l.restarts) (commits.limits place a e) in (omega arith, rest))))

-- ## An event

module _ {P : Type 0} (k clock : ℕ) (r : Rows) (a : Actor P) (counted : count_committed r.ended ≡ clock / 2) where
  stopped_dated : (end : End) → HasStopped end a → IsDatedActor k r a
  stopped_dated end s = record {
    opened = λ row e. absurd (none-some row (sym s.none ∙ e));
    next = λ on row e. absurd (none-some end (sym on ∙ ap ending_of s.status));
  }

  -- a begin that is called now, as the nth try
  between_dated : (nth : ℕ) → IsBetween clock nth a → tried_in (up_to_last a.run.thread r.ended) < nth → nth ≤ k + 1
      → (nth ≡ tried_in (up_to_last a.run.thread r.ended) + 1 → count_committed (up_to_last a.run.thread r.ended) ≡ clock / 2) → IsDatedActor k r a
  between_dated nth b later few at_once = record {
    opened = λ row e. absurd (none-some row (sym b.none ∙ e));
    next = λ on row e. subst (IsTry k r a) (sym (b.opens row e)) (record {
      thread = refl;
      nth = sym b.tries;
      dated = record { later = later; few = few; after = (let l = last_few a.run.thread r.ended in omega arith); by_now = omega arith; at_once = λ f. sym (at_once f) };
    });
  }

  -- the nth try came to nothing
  again_dated : (nth : ℕ) (b : Bool) → nat_lt k nth ≡ b → TriesAgain b clock nth a → tried_in (up_to_last a.run.thread r.ended) ≤ nth
      → (nth ≡ tried_in (up_to_last a.run.thread r.ended) → count_committed (up_to_last a.run.thread r.ended) ≡ clock / 2) → IsDatedActor k r a
  again_dated nth true e t later at_once = stopped_dated GaveUp t
  again_dated nth false e t later at_once = between_dated (nth + 1) t (omega arith) (let l = ltb-false k nth e in omega arith) (λ f. at_once (omega (arith, f)))

module _ {P : Type 0} (k clock clock' : ℕ) (p : Prior) (r : Rows) (a : Actor P) (limit : p.retries ≡ k) (counted : count_committed r.ended ≡ clock' / 2)
    (now : (row : Attempt) → current_of p.active p.pending ≡ Some row → (row.thread ≡ a.run.thread) × (row.nth ≡ p.nth) × IsDated k p.ended row) (some : current_of p.active p.pending ≡ None → ⊥) (all : AreDated k [] p.ended) where
  begun : (row : Attempt) → p.active ≡ None → p.pending ≡ Some row → current_of p.active p.pending ≡ Some row
  begun row none was = ap (λ (o : Option Attempt). current_of o p.pending) none ∙ was

  lost : (row : Attempt) → p.active ≡ None → p.pending ≡ Some row → r.ended ≡ p.ended → TriesAgain (nat_lt p.retries p.nth) clock' p.nth a → IsDatedActor k r a
  lost row none was same t =
      let d = now row (begun row none was) in
      let led = ap (λ (l : List Attempt). tried_in (up_to_last a.run.thread l)) same ∙ ap (λ (t : ℕ). tried_in (up_to_last t p.ended)) (sym d.0) in
      let later : tried_in (up_to_last a.run.thread r.ended) < p.nth = (let l = d.2.later in let n = d.1 in omega arith) in
      again_dated k clock' r a counted p.nth (nat_lt p.retries p.nth) (ap (λ (n : ℕ). nat_lt n p.nth) (sym limit)) t (omega arith) (λ e. absurd (omega arith))

  pub dated_actor : Tries (Continues clock) clock p clock' r a → IsDatedActor k r a
  dated_actor (between t) = absurd (some t.idle)
  dated_actor (begins t) =
      let d = now t.row (begun t.row t.none t.was) in
      record {
        opened = λ row e. absurd (none-some row (sym t.still ∙ e));
        next = λ on row e.
            (let same : t.row ≡ row = same_Some _ _ (sym t.now ∙ e) in
            subst (IsTry k r a) same (record { thread = d.0; nth = d.1 ∙ sym t.tries; dated = subst (λ (l : List Attempt). IsDated k l t.row) (sym t.ended) d.2 }));
      }
  dated_actor (runs t) =
      let d = now t.row t.was in
      record {
        opened = λ row e.
            (let same : t.row' ≡ row = same_Some _ _ (sym t.now ∙ e) in
            subst (IsTry k r a) same (record {
              thread = (continues_same clock t.row t.row' t.continues).thread ∙ d.0;
              nth = (continues_same clock t.row t.row' t.continues).nth ∙ (d.1 ∙ sym t.tries);
              dated = subst (λ (l : List Attempt). IsDated k l t.row') (sym t.ended) (dated_as k p.ended t.row t.row' (continues_same clock t.row t.row' t.continues) d.2);
            }));
        next = λ on row e. absurd (none-some row (sym (open_only _ t.now) ∙ e));
      }
  dated_actor (over t) = by_outcome t.row'.outcome refl t.after
    where
      led : up_to_last a.run.thread r.ended ≡ p.ended ++ t.row' ∷ []
      led = ap (up_to_last a.run.thread) t.ended ∙ last_own a.run.thread p.ended t.row' ((continues_same clock t.row t.row' t.continues).thread ∙ (now t.row t.was).0)

      count : count_committed (up_to_last a.run.thread r.ended) ≡ clock' / 2
      count = ap count_committed (led ∙ sym t.ended) ∙ counted

      tried : (o : Outcome) → t.row'.outcome ≡ o → tried_in (up_to_last a.run.thread r.ended) ≡ tried_by o t.row'.nth
      tried o e = ap tried_in led ∙ (tried_more p.ended t.row' ∙ ap (λ (x : Outcome). tried_by x t.row'.nth) e)

      first : tried_in (up_to_last a.run.thread r.ended) ≡ 0 → IsBetween clock' 1 a → IsDatedActor k r a
      first none b = between_dated k clock' r a counted 1 b (omega arith) (omega arith) (λ e. count)

      by_outcome : (o : Outcome) → t.row'.outcome ≡ o → GoesOnAfter o clock' p a → IsDatedActor k r a
      by_outcome outcomes.Committed e g = first (tried outcomes.Committed e) g
      by_outcome outcomes.ReadOnly e g = first (tried outcomes.ReadOnly e) g
      by_outcome outcomes.Cancelled e g = first (tried outcomes.Cancelled e) g
      by_outcome outcomes.Conflict e g =
          let same : t.row'.nth ≡ p.nth = (continues_same clock t.row t.row' t.continues).nth ∙ (now t.row t.was).1 in
          let n : tried_in (up_to_last a.run.thread r.ended) ≡ t.row'.nth = tried outcomes.Conflict e in
          again_dated k clock' r a counted p.nth (nat_lt p.retries p.nth) (ap (λ (m : ℕ). nat_lt m p.nth) (sym limit)) g (omega arith) (λ f. count)
      by_outcome outcomes.Full e g = stopped_dated k clock' r a counted GaveUp g
      by_outcome outcomes.NoMemory e g = stopped_dated k clock' r a counted NoMemory g
      by_outcome outcomes.Unfinished e g = absurd g
  dated_actor (turned_away t) = lost t.row t.none t.was t.ended t.after
  dated_actor (outrun t) = lost t.row t.none t.was t.ended t.after
  dated_actor (shut_out t) = stopped_dated k clock' r a counted GaveUp t.after

  -- what is true of those that had ended is true of all, if it is with one that ends
  by_ended : (Q : List Attempt → Type 0) → Q p.ended → ((row row' : Attempt) → current_of p.active p.pending ≡ Some row → Continues clock row row' → length row'.restarts ≤ p.restarts → Q (p.ended ++ row' ∷ [])) → Tries (Continues clock) clock p clock' r a → Q r.ended
  by_ended Q before more tries = elim (some_ended clock clock' p r a tries) [ inl still ↦ subst Q (sym still.0) before | inr t ↦ subst Q (sym t.ended) (more t.row t.row' t.was t.continues t.few) ]

  pub dated_ended : Tries (Continues clock) clock p clock' r a → AreDated k [] r.ended
  dated_ended = by_ended (AreDated k []) all (λ row row' was c few. dated_both k [] p.ended (row' ∷ []) all (dated_as k p.ended row row' (continues_same clock row row' c) (now row was).2, tt))

  pub few_ended : Tries (Continues clock) clock p clock' r a → RestartAtMost p.restarts p.ended → RestartAtMost p.restarts r.ended
  few_ended t few = by_ended (RestartAtMost p.restarts) few (λ row row' was c most. few_more p.restarts p.ended row' few most) t

-- ## In a world

module _ {P : Type 0} (rules : Rules P) where
  -- who waits for a step has an open attempt, or is to open one
  begin_at : (e : Core) (call : Call) (stage : Phase) → e.doing ≡ Some call → BeginsAt e stage → is_begin call ≡ true
  begin_at e call (at.Begin b) doing at_load = ap is_begin (same_Some _ _ (sym doing ∙ at_load.0))
  begin_at e call (at.Take b) doing at_load = ap is_begin (same_Some _ _ (sym doing ∙ at_load.0))
  begin_at e call stage doing at_load = absurd at_load

  current_some : (b : Bool) (cells : Cells) (r : Rows) (a : Actor P) (s : Status) → in_transaction a.engine ≡ b → HasRow b a → StatusIs rules a s → is_waiting s ≡ true → current_of (active_of a) (pending_of a) ≡ None → ⊥
  current_some true cells r a s shut row st w none = none-some row.0 (sym none ∙ ap (λ (o : Option Attempt). current_of o (pending_of a)) row.1)
  current_some false cells r a (Waits call step) shut row st w none =
      let i = st.in_call in
      let begin = begin_at a.engine call a.engine.stage st.doing (st.begun shut) in
      let some : is_some (pending_of a) ≡ true = i.begins shut ∙ begin in
      let nothing : pending_of a ≡ None = sym (ap (λ (o : Option Attempt). current_of o (pending_of a)) row) ∙ none in
      absurd (let no : is_some (pending_of a) ≡ false = ap is_some nothing in both_ways (is_some (pending_of a)) no some)
  current_some false cells r a s shut row st w none = absurd (cc)

module _ {P : Type 0} {rules : Rules P} (w : World P) (kept : IsWorld rules w) (i : ℕ) (got new : Actor P) (here : slice_get w.actors i ≡ Some got) (cells' : Cells) (r' : Rows) (events : ℕ)
    (event : IsEvent rules w.cells w.attempts got cells' r' new) (waits : is_waiting got.status ≡ true) (counted : count_committed r'.ended ≡ cells'.clock / 2) where
  tries_now : (row : Attempt) → current_of (active_of got) (pending_of got) ≡ Some row → (row.thread ≡ new.run.thread) × (row.nth ≡ got.run.nth) × IsDated w.limits.retries w.attempts.ended row
  tries_now row e = (let t = by_open (active_of got) refl e in (t.thread ∙ sym event.others.thread, t.nth, t.dated))
    where
      by_open : (o : Option Attempt) → active_of got ≡ o → current_of o (pending_of got) ≡ Some row → IsTry w.limits.retries w.attempts got row
      by_open None none e = (kept.dated.each i got here).next (waiting_going got.status waits) row e
      by_open (Some x) some e = (kept.dated.each i got here).opened row (some ∙ e)

  some_now : current_of (active_of got) (pending_of got) ≡ None → ⊥
  some_now none =
      let s = (kept.actors.each i got here).sound in
      current_some rules (in_transaction got.engine) w.cells w.attempts got got.status refl s.kept.row s.status waits none

  limit : got.run.retries ≡ w.limits.retries
  limit = ap (λ (l : Limits). l.retries) (kept.commits.limits i got here)

  most : got.engine.restarts ≡ w.limits.restarts
  most = ap (λ (l : Limits). l.restarts) (kept.commits.limits i got here)

  -- another one
  other_dated : (j : ℕ) (b : Actor P) → (i ≡ j → ⊥) → slice_get w.actors j ≡ Some b → IsDatedActor w.limits.retries r' b
  other_dated j b apart e =
      let d = kept.dated.each j b e in
      let own = event.others in
      let others : b.run.thread ≡ got.run.thread → ⊥ = (λ z. apart (sym (kept.actors.each i got here).thread ∙ (sym z ∙ (kept.actors.each j b e).thread))) in
      let later : (row : Attempt) → IsTry w.limits.retries w.attempts b row → IsTry w.limits.retries r' b row = (λ row t.
      record {
        thread = t.thread;
        nth = t.nth;
        dated = subst (λ (l : List Attempt). IsDated w.limits.retries l row) (sym own.ended)
            (dated_else w.limits.retries w.attempts.ended own.more row (else_all row.thread got.run.thread own.more (λ z. others (sym t.thread ∙ sym z)) own.mine) t.dated);
      }) in
      record {
        opened = λ row f. later row (d.opened row f);
        next = λ on row f. later row (d.next on row f);
      }

  pub dated_after : IsDatedWorld (record w { cells = cells'; actors = slice_set w.actors i new; attempts = r'; events = events })
  dated_after = record {
    ended = dated_ended w.limits.retries w.cells.clock cells'.clock (prior_of w.attempts got) r' new limit counted tries_now some_now kept.dated.ended event.tries;
    few = subst (λ (n : ℕ). RestartAtMost n r'.ended) most
        (few_ended w.limits.retries w.cells.clock cells'.clock (prior_of w.attempts got) r' new limit counted tries_now some_now kept.dated.ended event.tries (subst (λ (n : ℕ). RestartAtMost n w.attempts.ended) (sym most) kept.dated.few));
    each = λ j b e. elim (set_place w.actors i got new here j b e) [
      | inl h ↦ subst (IsDatedActor w.limits.retries r') (sym h.1) (dated_actor w.limits.retries w.cells.clock cells'.clock (prior_of w.attempts got) r' new limit counted tries_now some_now kept.dated.ended event.tries)
      | inr h ↦ other_dated j b h.0 h.1
    ];
  }

-- a world that has just begun
pub dated_first : {P : Type 0} (w : World P) → w.cells.clock ≡ 0 → w.attempts.ended ≡ [] → ((place : ℕ) (a : Actor P) → slice_get w.actors place ≡ Some a → IsBetween w.cells.clock 1 a) → IsDatedWorld w
dated_first {P} w zero_clock none first = record {
  ended = subst (AreDated w.limits.retries []) (sym none) tt;
  few = subst (RestartAtMost w.limits.restarts) (sym none) tt;
  each = λ place a e.
      (let tried = ap (λ (l : List Attempt). tried_in (up_to_last a.run.thread l)) none in
      let count = ap (λ (l : List Attempt). count_committed (up_to_last a.run.thread l)) none in
      let all = ap count_committed none in
      between_dated w.limits.retries w.cells.clock w.attempts a (omega arith) 1 (first place a e) (omega arith) (omega arith) (λ f. omega arith));
}
