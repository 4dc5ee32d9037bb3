-- An actor that has its world to itself goes on so over an event.
use Rattle.std.proofs.Common.{◌≡◌, inl, inr, ℕ, ◌+◌, ◌/◌, ◌%◌, ◌≤◌, true, false, nat_lt, if◌then◌else◌, List, [], ◌∷◌, ◌++◌, Option, None, Some, refl, sym, ap, subst, ◌∙◌, arith, eq-eqb}
use Rattle.world_laws.proofs.Common.{Actor, AreOfActors, AreSole, Attempt, Beginning, Between, CallRecord, Continues, End, Ended, EndsAt, EndsIt, EndsWith, Finished, GaveUp, GoesBack, GoesOnAfter, IsBetween, IsFirstTry, IsIdle, IsKeptOut, IsOnWay, IsRunOf, IsSole, NoMemory, Outcome, Props, Rows, Rules, StandsSole, Tries, active_of, after_try, begin_of, begins, begins_at, between, bytes_at, current_of, ending_of, is_committed, is_done, may_go, of_thread, one_if, outrun, over, pending_of, prior_of, run_after, runs, same_Some, shut_out, try_begun, turned_away}
use Rattle.tx_attempts.specs.declared.attempt.Outcome.TheVariants as outcomes
use Rattle.world_rules.proofs.Tries.ToldTries.{none_again}
use Rattle.tx_attempts.specs.Restarts.{open_in}

-- ## Lists of attempts

-- of the attempts of one actor none is another's
pub of_thread_all : (xs : List Attempt) → AreOfActors 1 xs → of_thread 0 xs ≡ xs
of_thread_all [] f = refl
of_thread_all (x ∷ xs) f = (λ i. if eq-eqb x.thread 0 (let own = f.0 in let zero : x.thread ≡ 0 = omega arith in zero) i then x ∷ of_thread 0 xs else of_thread 0 xs) ∙ ap (λ (l : List Attempt). x ∷ l) (of_thread_all xs f.1)

pub of_actors_first : (n : ℕ) (xs ys : List Attempt) → AreOfActors n (xs ++ ys) → AreOfActors n xs
of_actors_first n [] ys f = tt
of_actors_first n (x ∷ xs) ys f = (f.0, of_actors_first n xs ys f.1)

-- one attempt more
sole_more : (n k : ℕ) (xs : List Attempt) (a : Attempt) → AreSole n xs k → IsFirstTry k a → a.at ≡ k → is_done a.outcome ≡ true → a.calls.room ≡ 0 → AreSole n (xs ++ a ∷ []) (k + one_if (is_committed a.outcome))
sole_more n k [] a s f at d z = (subst (λ (j : ℕ). IsFirstTry j a) (sym s) f, at ∙ sym s, d, z, ap (λ (j : ℕ). j + one_if (is_committed a.outcome)) s)
sole_more n k (x ∷ xs) a s f at d z = (s.0, s.1, s.2, s.3, sole_more (n + one_if (is_committed x.outcome)) k xs a s.4 f at d z)

-- the last attempt of a run did not begin after it read last
module _ {P : Type 0} (rules : Rules P) (deepest n : ℕ) (memory : ℕ → List ℕ) where
  pub last_early : (b : Option (Between P)) (xs : List Attempt) (a : Attempt) → IsRunOf rules deepest n memory b (xs ++ a ∷ []) → a.began ≤ a.at
  last_early None [] a r = absurd r
  last_early (Some b) [] a r = (let older = (try_begun rules deepest n memory b a (begin_of rules deepest b.player b.arena) r.0).2.3.no_older in omega arith)
  last_early None (x ∷ xs) a r = absurd r
  last_early (Some b) (x ∷ xs) a r = last_early (after_try rules deepest memory b (begin_of rules deepest b.player b.arena) x) xs a r.1

-- ## The event

module _ {P : Type 0} (rules : Rules P) (max_commits : ℕ) (deepest : ℕ) (base : List ℕ) (begin : Between P) where
  -- on its way, it goes on or has finished
  stands_on : {n : ℕ} {past : List Attempt} {r : Rows} {a : Actor P} → IsOnWay rules max_commits deepest base begin past n r a → (ending_of a.status ≡ Some Finished → (rules.next_call a.run.player ≡ None) × IsIdle a.engine)
      → (ending_of a.status ≡ Some GaveUp → ⊥) → (ending_of a.status ≡ Some NoMemory → StandsSole rules max_commits deepest base begin (Some NoMemory) past n r a) → StandsSole rules max_commits deepest base begin (ending_of a.status) past n r a
  stands_on {n} {past} {r} {a} way finishes goes_on starved = by_ending (ending_of a.status) refl
    where
      by_ending : (o : Option End) → ending_of a.status ≡ o → StandsSole rules max_commits deepest base begin o past n r a
      by_ending None e = way
      by_ending (Some Finished) e = (let f = finishes e in (way, f.0, f.1))
      by_ending (Some GaveUp) e = absurd (goes_on e)
      by_ending (Some NoMemory) e = starved e

  -- between two tries, its attempts so far have ended by their commits
  pub stands_between : (clock : ℕ) (past : List Attempt) (r : Rows) (a : Actor P) → a.run.thread ≡ 0 → r.ended ≡ past → IsBetween clock 1 a → (ending_of a.status ≡ Some Finished → (rules.next_call a.run.player ≡ None) × IsIdle a.engine)
      → StandsSole rules max_commits deepest base begin (ending_of a.status) past (clock / 2) r a
  stands_between clock past r a mine ended b finishes =
      stands_on (record {
        ended = ended;
        nth = b.tries;
        current = λ row e.
            (let is = b.opens row (ap (λ (o : Option Attempt). current_of o (pending_of a)) (sym b.none) ∙ e) in
            record { thread = ap (λ (x : Attempt). x.thread) is ∙ mine; nth = ap (λ (x : Attempt). x.nth) is; began = ap (λ (x : Attempt). x.began) is; unbroken = ap (λ (x : Attempt). x.restarts) is });
      }) finishes b.goes_on (λ e. inl (b.none, inl ended))

  -- a block that is to begin goes on where its attempts have led
  pub record IsToBegin (r : Rows) (a : Actor P) (row : Attempt) : Type 0 where
    pub before : Between P
    pub led : run_after rules deepest (bytes_at deepest base r.ended) (Some begin) (of_thread a.run.thread r.ended) ≡ Some before
    pub start : Beginning P
    pub begins : begins_at rules deepest before ≡ Some start
    pub props : start.props ≡ row.props

  continued : (n clock : ℕ) (row row' : Attempt) → Continues clock row row' → ((base : Attempt) → GoesBack clock row base → ⊥) → IsFirstTry n row → IsFirstTry n row'
  continued n clock row row' c never f = elim c.from [
    | inl is ↦
        (let b = subst (IsFirstTry n) (sym is) f in
        let on = c.on in
        record { thread = on.same.thread ∙ b.thread; nth = on.same.nth ∙ b.nth; began = on.same.began ∙ b.began; unbroken = on.restarts ∙ b.unbroken })
    | inr back ↦ absurd (never c.base back)
  ]

  module _ (clock clock' : ℕ) (r r' : Rows) (a a' : Actor P) (going : ending_of a.status ≡ None) (read : (row : Attempt) → active_of a ≡ Some row → row.began ≤ row.at) (uncalled : (row : Attempt) → active_of a ≡ None → pending_of a ≡ Some row → row.calls.list ≡ []) (old : IsSole rules max_commits deepest base begin clock r a) (here : a.run.thread ≡ 0) (mine : a'.run.thread ≡ 0) (limit : a.engine.max_commits ≡ max_commits)
      (free : active_of a ≡ None → a.engine.holds ≡ false) (to_begin : (row : Attempt) → active_of a ≡ None → pending_of a ≡ Some row → may_go [] row.props ≡ true → IsToBegin r a row)
      (seen : a'.engine.holds ≡ false → a'.engine.clock ≡ clock')
      (shut : active_of a' ≡ None → clock' % 2 ≡ 0) (early : (row : Attempt) → r'.ended ≡ r.ended ++ row ∷ [] → row.began ≤ row.at) (finishes : ending_of a'.status ≡ Some Finished → (rules.next_call a'.run.player ≡ None) × IsIdle a'.engine) where
    way : IsOnWay rules max_commits deepest base begin old.past (clock / 2) r a
    way = subst (λ (o : Option End). StandsSole rules max_commits deepest base begin o old.past (clock / 2) r a) going old.stands

    -- no block of its own goes back, since no other one commits
    never_back : (row base : Attempt) → current_of (active_of a) (pending_of a) ≡ Some row → GoesBack clock row base → ⊥
    never_back row base is back = by_active (active_of a) refl
      where
        by_active : (o : Option Attempt) → active_of a ≡ o → ⊥
        by_active (Some x) e =
            let same : x ≡ row = same_Some _ _ (sym (ap (λ (o : Option Attempt). current_of o (pending_of a)) e) ∙ is) in
            let early = read row (e ∙ ap (λ (y : Attempt). Some y) same) in
            let first = (way.current row is).began in
            let moved = back.moved in
            omega (arith, first)
        by_active None e =
            let calls = uncalled row e (sym (ap (λ (o : Option Attempt). current_of o (pending_of a)) e) ∙ is) in
            absurd (let n : [] ≡ back.again.kept ∷ back.outer = sym (ap (λ (l : List CallRecord). open_in l) calls) ∙ back.innermost in cc)

    goes_first : (row row' : Attempt) → current_of (active_of a) (pending_of a) ≡ Some row → Continues clock row row' → IsFirstTry (clock / 2) row'
    goes_first row row' is c = continued (clock / 2) clock row row' c (λ base. never_back row base is) (way.current row is)

    -- no attempt has ended
    goes_on : clock' / 2 ≡ clock / 2 → StandsSole rules max_commits deepest base begin (ending_of a'.status) old.past (clock' / 2) r' a' → IsSole rules max_commits deepest base begin clock' r' a'
    goes_on half s = record { past = old.past; commit = subst (AreSole 0 old.past) (sym half) old.commit; stands = s; seen = seen }

    now : (row : Attempt) → clock' / 2 ≡ clock / 2 → IsFirstTry (clock / 2) row → IsFirstTry (clock' / 2) row
    now row half f = subst (λ (k : ℕ). IsFirstTry k row) (sym half) f

    stands_so : (end : End) → a'.status ≡ Ended end → StandsSole rules max_commits deepest base begin (Some end) old.past (clock' / 2) r' a' → StandsSole rules max_commits deepest base begin (ending_of a'.status) old.past (clock' / 2) r' a'
    stands_so end is s = subst (λ (x : Option End). StandsSole rules max_commits deepest base begin x old.past (clock' / 2) r' a') (sym (ap ending_of is)) s

    -- its next block goes irrevocable, and has not begun
    is_kept_out : (row : Attempt) → active_of a ≡ None → pending_of a ≡ Some row → r'.ended ≡ r.ended → row.props.goes_irrevocable ≡ true → may_go [] row.props ≡ true → IsKeptOut rules max_commits deepest base begin old.past r' a'
    is_kept_out row none was same goes may =
        let k = to_begin row none was may in
        record {
          ended = same ∙ way.ended;
          before = k.before;
          led = (λ i. run_after rules deepest (bytes_at deepest base (same i)) (Some begin) (of_thread ((mine ∙ sym here) i) (same i))) ∙ k.led;
          start = k.start;
          begins = k.begins;
          goes = ap (λ (x : Props). x.goes_irrevocable) k.props ∙ goes;
        }

    -- one has ended, and if not by its commit it was the last one
    module _ (t : EndsIt (Continues clock) clock (prior_of r a) clock' r' a') where
      first : IsFirstTry (clock / 2) t.row'
      first = goes_first t.row t.row' t.was t.continues

      later : clock / 2 ≤ t.row'.at
      later = (let b = first.began in let e = early t.row' t.ended in omega arith)

      ended : r'.ended ≡ old.past ++ t.row' ∷ []
      ended = t.ended ∙ ap (λ (l : List Attempt). l ++ t.row' ∷ []) way.ended

      by_commit : is_done t.row'.outcome ≡ true → t.row'.at ≡ clock / 2 → clock / 2 + one_if (is_committed t.row'.outcome) ≡ clock' / 2 → IsBetween clock' 1 a' → IsSole rules max_commits deepest base begin clock' r' a'
      by_commit d at n b = record {
        past = old.past ++ t.row' ∷ [];
        commit = subst (AreSole 0 (old.past ++ t.row' ∷ [])) n (sole_more 0 (clock / 2) old.past t.row' old.commit first at d t.spent);
        stands = stands_between clock' (old.past ++ t.row' ∷ []) r' a' mine ended b finishes;
        seen = seen;
      }

      last : (outcome : Outcome) → t.row'.outcome ≡ outcome → clock' / 2 ≡ clock / 2 → EndsWith old.past (clock' / 2) outcome r'
      last outcome o half = record { row = t.row'; ended = ended; first = now t.row' half first; outcome_is = o; spent = t.spent }

      by_outcome : (o : Outcome) → t.row'.outcome ≡ o → EndsAt a.engine.max_commits clock clock' t.row'.at o → GoesOnAfter o clock' (prior_of r a) a' → IsSole rules max_commits deepest base begin clock' r' a'
      by_outcome outcomes.Conflict o at g = absurd (omega (arith, at.0, at.1, later, shut (none_again clock' a.run.nth a' (nat_lt a.run.retries a.run.nth) g)))
      by_outcome outcomes.Full o at g =
          goes_on at.0 (stands_so GaveUp g.status (g.none, (omega (arith, at.0, at.1, at.2)), inr (last outcomes.Full o at.0)))
      by_outcome outcomes.NoMemory o at g =
          goes_on at.0 (stands_so NoMemory g.status (inl (g.none, inr (last outcomes.NoMemory o at.0))))
      by_outcome outcomes.Unfinished o at g = absurd at
      by_outcome outcome o at g = by_commit (ap is_done o) (omega (arith, at.0, at.1, later)) (omega (arith, at.0, at.1, ap (λ (x : Outcome). one_if (is_committed x)) o)) g

    pub sole_after : Tries (Continues clock) clock (prior_of r a) clock' r' a' → IsSole rules max_commits deepest base begin clock' r' a'
    sole_after (between t) =
        goes_on t.half (stands_between clock' old.past r' a' mine (t.ended ∙ way.ended) (subst (λ (n : ℕ). IsBetween clock' n a') way.nth t.between) finishes)
    sole_after (begins t) =
        goes_on t.half (subst (λ (o : Option End). StandsSole rules max_commits deepest base begin o old.past (clock' / 2) r' a') (sym t.on) (record {
          ended = t.ended ∙ way.ended;
          nth = t.tries ∙ way.nth;
          current = λ row e.
              (let same : t.row ≡ row = (let z : Some t.row ≡ Some row = sym t.now ∙ (ap (λ (o : Option Attempt). current_of o (pending_of a')) (sym t.still) ∙ e) in cc) in
              subst (IsFirstTry (clock' / 2)) same (now t.row t.half (way.current t.row (ap (λ (o : Option Attempt). current_of o (pending_of a)) t.none ∙ t.was))));
        }))
    sole_after (runs t) =
        let on : IsOnWay rules max_commits deepest base begin old.past (clock' / 2) r' a' = record {
          ended = t.ended ∙ way.ended;
          nth = t.tries ∙ way.nth;
          current = λ row e.
              (let same : t.row' ≡ row = same_Some _ _ (ap (λ (o : Option Attempt). current_of o (pending_of a')) (sym t.now) ∙ e) in
              subst (IsFirstTry (clock' / 2)) same (now t.row' t.half (goes_first t.row t.row' t.was t.continues)));
        } in
        goes_on t.half (stands_on on finishes t.goes_on (λ e. inr (t.fed e, on)))
    sole_after (over t) = by_outcome t t.row'.outcome refl t.at t.after
    sole_after (turned_away t) = absurd (let even = shut (none_again clock' a.run.nth a' (nat_lt a.run.retries a.run.nth) t.after) in let odd = t.odd in omega arith)
    sole_after (outrun t) = absurd (let last = old.seen (free t.none) in let moved = t.moved in omega arith)
    sole_after (shut_out t) =
        goes_on (ap (λ (n : ℕ). n / 2) t.same) (stands_so GaveUp t.after.status (t.after.none, (let full = t.full in let same = t.same in omega arith), inl (is_kept_out t.row t.none t.was t.ended t.goes t.may)))
