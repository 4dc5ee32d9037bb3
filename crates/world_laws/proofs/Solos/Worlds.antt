-- A world that one player has to itself, from its beginning on.
use Rattle.std.proofs.Common.{Result, ◌<◌, ◌≤◌, ◌≡◌, inl, inr, ℕ, ◌/◌, ◌%◌, true, false, List, [], ◌∷◌, ◌++◌, None, Some, slice_get, slice_set, length, refl, sym, ap, subst, ◌∙◌, arith}
use Rattle.world_laws.proofs.Common.{Actor, AreOfActors, AreOpaque, AreTied, Attempt, CommitsInOrder, Finished, Goes, IsEvent, IsIdle, IsNew, IsRunOf, IsSole, Limits, Rules, SameOpening, World, WorldFault, active_of, attempts_of, both_ways, bytes_at, cases_Bool, ending_of, false_from_ne_true, first_of, in_transaction, is_event, is_waiting, may_go, none-some, observed, odd_or_even, of_thread, open_in, pending_of, row_open, row_shut, same_Some, slice_get-set_same, slice_get_within, waiting_going, waits_there}
use Rattle.world_laws.proofs.Likeness.Starts.{none_first}
use Rattle.world_laws.proofs.Solos.IdleEngines.{ended_still, idle_event, idle_started}
use Rattle.world_laws.proofs.Solos.Events.{IsToBegin, last_early, of_actors_first, of_thread_all, sole_after, stands_between}

-- ## The clock

-- it is odd only while the one actor holds it
pub even_free : {P : Type 0} (w : World P) → CommitsInOrder w → length w.actors ≡ 1 → (a : Actor P) → slice_get w.actors 0 ≡ Some a → a.engine.holds ≡ false → w.cells.clock % 2 ≡ 0
even_free {P} w c one a here free = elim (odd_or_even w.cells.clock) [
  | inl even ↦ even
  | inr odd ↦
      (let h = c.held odd in
      let l = slice_get_within w.actors h.0 h.1 h.2 in
      let same : a ≡ h.1 = same_Some _ _ (sym here ∙ (ap (slice_get w.actors) (sym (omega arith)) ∙ h.2)) in
      absurd (both_ways a.engine.holds free (ap (λ (x : Actor P). x.engine.holds) same ∙ h.3)))
]

module _ {P : Type 0} (rules : Rules P) where
  -- without an open attempt it does not hold it
  shut_free : (w : World P) → AreTied rules w → (a : Actor P) → slice_get w.actors 0 ≡ Some a → active_of a ≡ None → a.engine.holds ≡ false
  shut_free w tied a here none =
      false_from_ne_true a.engine.holds (λ h. none-some (tied.holder 0 a here h).0 (sym none ∙ (tied.holder 0 a here h).1))

  pub even_shut : (w : World P) → AreTied rules w → CommitsInOrder w → length w.actors ≡ 1 → (a : Actor P) → slice_get w.actors 0 ≡ Some a → active_of a ≡ None → w.cells.clock % 2 ≡ 0
  even_shut w tied c one a here none = even_free w c one a here (shut_free w tied a here none)

-- ## A world

module _ {P : Type 0} (rules : Rules P) where
  abbrev pub HasSole : World P → Type 0
  HasSole w = (p : P) (a : Actor P) → slice_get w.opening 0 ≡ Some p → slice_get w.actors 0 ≡ Some a → IsSole rules w.limits.max_commits w.limits.depth w.base (first_of p w.arena) w.cells.clock w.attempts a

  -- one that has just begun
  pub sole_first : (w : World P) → IsNew rules w → HasSole w
  sole_first w new p a player here =
      let starts = new.starts 0 p a player here in
      let first = new.first 0 a here in
      let finishes : ending_of a.status ≡ Some Finished → (rules.next_call a.run.player ≡ None) × IsIdle a.engine = λ end. (starts.finishes end, idle_started rules starts (refl, refl) (ended_still a.status Finished end)) in
      record {
        past = [];
        commit = ap (λ (n : ℕ). n / 2) (sym new.clock);
        stands = stands_between rules w.limits.max_commits w.limits.depth w.base (first_of p w.arena) w.cells.clock [] w.attempts a starts.thread (none_first w.attempts.ended _ new.none) first.between finishes;
        seen = λ f. first.seen;
      }

  -- its player's next block, where no attempt is open
  to_begin_of : (w : World P) → AreTied rules w → (p : P) (a : Actor P) → slice_get w.opening 0 ≡ Some p → slice_get w.actors 0 ≡ Some a → ending_of a.status ≡ None → (row : Attempt) → active_of a ≡ None → pending_of a ≡ Some row → may_go [] row.props ≡ true
      → IsToBegin rules w.limits.max_commits w.limits.depth w.base (first_of p w.arena) w.attempts a row
  to_begin_of w tied p a player here going row none was may =
      let shut = row_shut (in_transaction a.engine) a (tied.rows 0 a here) none in
      let t = (tied.players 0 p a player here).between shut (λ e. absurd (let both = sym going ∙ e in cc)) (λ e. absurd (let both = sym going ∙ e in cc)) in
      record { before = t.0; led = t.1; start = _; begins = (t.2.pending row was).4 may; props = refl }

  -- where its attempt is open, it did not begin after it read
  read_since : (w : World P) → AreTied rules w → (p : P) (a : Actor P) → slice_get w.opening 0 ≡ Some p → slice_get w.actors 0 ≡ Some a → (row : Attempt) → active_of a ≡ Some row → row.began ≤ row.at
  read_since w tied p a player here row some =
      let t = (tied.players 0 p a player here).inside (row_open (in_transaction a.engine) a row (tied.rows 0 a here) some) in
      let same : t.1 ≡ row = same_Some _ _ (sym (ap open_in t.4) ∙ some) in
      omega (arith, t.5.open_try.began, tied.reads 0 a row here some, ap (λ (x : Attempt). x.began) same)

  -- one that is to be opened has no call
  none_called : (w : World P) → AreTied rules w → (p : P) (a : Actor P) → slice_get w.opening 0 ≡ Some p → slice_get w.actors 0 ≡ Some a → ending_of a.status ≡ None → (row : Attempt) → active_of a ≡ None → pending_of a ≡ Some row → row.calls.list ≡ []
  none_called w tied p a player here going row none was =
      let shut = row_shut (in_transaction a.engine) a (tied.rows 0 a here) none in
      let t = (tied.players 0 p a player here).between shut (λ e. absurd (let both = sym going ∙ e in cc)) (λ e. absurd (let both = sym going ∙ e in cc)) in
      (t.2.pending row was).2

  -- over an event of its actor
  module _ (w new : World P) (one : length w.opening ≡ 1) (commits : CommitsInOrder w) (tied : AreTied rules w) (sole : HasSole w)
      (same : SameOpening w new) (commits' : CommitsInOrder new) (opaque' : AreOpaque rules (observed new)) (tied' : AreTied rules new)
      (i : ℕ) (got next : Actor P) (here : slice_get w.actors i ≡ Some got) (waits : is_waiting got.status ≡ true) (actors : new.actors ≡ slice_set w.actors i next)
      (event : IsEvent rules w.cells w.attempts got new.cells new.attempts next) where
    within : i < length w.actors
    within = slice_get_within w.actors i got here

    place : i ≡ 0
    place = (let each = tied.each in let l = within in omega arith)

    was : slice_get w.actors 0 ≡ Some got
    was = ap (slice_get w.actors) (sym place) ∙ here

    placed : slice_get new.actors 0 ≡ Some next
    placed = ap (λ (l : List (Actor P)). slice_get l 0) actors ∙ (ap (slice_get (slice_set w.actors i next)) (sym place) ∙ slice_get-set_same w.actors i next within)

    sole_over : (p : P) → slice_get w.opening 0 ≡ Some p → IsSole rules w.limits.max_commits w.limits.depth w.base (first_of p w.arena) new.cells.clock new.attempts next
    sole_over p player =
        let going = waiting_going got.status waits in
        let mine = tied'.threads 0 next placed in
        let was_sole = sole p got player was in
        let player' : slice_get new.opening 0 ≡ Some p = ap (λ (l : List P). slice_get l 0) same.opening ∙ player in
        sole_after rules w.limits.max_commits w.limits.depth w.base (first_of p w.arena) w.cells.clock new.cells.clock w.attempts new.attempts got next going (read_since w tied p got player was) (none_called w tied p got player was going) was_sole (tied.threads 0 got was) mine (ap (λ (l : Limits). l.max_commits) (commits.limits i got here))
        (shut_free rules w tied got was) (to_begin_of w tied p got player was going) (event.clocks.seen was_sole.seen)
        (even_shut rules new tied' commits' (tied'.each ∙ (ap (λ (l : List P). length l) same.opening ∙ one)) next placed)
        (λ row ended.
        (let run = (tied'.players 0 p next player' placed).run in
        let rows : of_thread next.run.thread new.attempts.ended ≡ w.attempts.ended ++ row ∷ [] = ap (λ (t : ℕ). of_thread t new.attempts.ended) mine ∙ (of_thread_all new.attempts.ended (of_actors_first 1 new.attempts.ended _ (subst (λ (n : ℕ). AreOfActors n (attempts_of new)) (ap (λ (l : List P). length l) same.opening ∙ one) opaque'.threads)) ∙ ended) in
        last_early rules new.limits.depth (new.cells.clock / 2) (bytes_at new.limits.depth new.base new.attempts.ended) (Some (first_of p new.arena)) w.attempts.ended row
        (subst (IsRunOf rules new.limits.depth (new.cells.clock / 2) (bytes_at new.limits.depth new.base new.attempts.ended) (Some (first_of p new.arena))) rows run)))
        (λ e. (event.finishes e, idle_event rules event (ended_still next.status Finished e))) event.tries

    pub sole_still : HasSole new
    sole_still p a player' here' =
        let player : slice_get w.opening 0 ≡ Some p = ap (λ (l : List P). slice_get l 0) (sym same.opening) ∙ player' in
        let is : next ≡ a = same_Some _ _ (sym placed ∙ here') in
        subst (IsSole rules new.limits.max_commits new.limits.depth new.base (first_of p new.arena) new.cells.clock new.attempts) is
        (subst (λ (l : Limits). IsSole rules l.max_commits l.depth new.base (first_of p new.arena) new.cells.clock new.attempts next) (sym same.limits)
        (subst (λ (b : List ℕ). IsSole rules w.limits.max_commits w.limits.depth b (first_of p new.arena) new.cells.clock new.attempts next) (sym same.base)
        (subst (λ (n : ℕ). IsSole rules w.limits.max_commits w.limits.depth w.base (first_of p n) new.cells.clock new.attempts next) (sym same.arena) (sole_over p player))))

  -- over an answer of the world
  pub sole_goes : (i : ℕ) (w new : World P) (result : Result (Unit {0}) WorldFault) → length w.opening ≡ 1 → CommitsInOrder w → AreTied rules w → HasSole w → Goes rules i w result new → HasSole new
  sole_goes i w new result one commits tied sole goes = elim (cases_Bool (is_event result)) [
    | inl done ↦
        (let there = waits_there w i (goes.event.0 done) in
        let went = goes.event_of there.0 there.1 done in
        sole_still w new one commits tied sole goes.opening goes.commits goes.opaque goes.tied i there.0 went.0 there.1 there.2 went.1 went.2)
    | inr none ↦ subst HasSole (sym (goes.unchanged none)) sole
  ]
