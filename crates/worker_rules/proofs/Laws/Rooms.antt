-- The room that is made before a call serves whatever comes of its answer.
use Rattle.std.proofs.Common.{◌≡◌, ◌⊎◌, inl, inr, ℕ, ◌+◌, ◌<◌, ◌≤◌, Bool, true, false, true≢false, if◌then◌else◌, List, [], length, length-append, None, Some, refl, sym, ap, subst, ◌∙◌, arith, unwrap_or}
use Rattle.worker_rules.proofs.Common.{Actions, Answer, Attempt, BeganBy, Begin, Begins, Bounds, Call, Core, Course, Current, HasActionPlaces, HasRoom, IsAsked, IsBacked, IsDeep, IsPromised, IsReadyFor, IsRestart, IsRoomier, IsRunning, IsToldBy, MayGoBack, MayRenew, MayTakeIn, MayTell, Open, OpensBy, Outcome, Outside, Props, Ran, Reply, Restarted, Rules, RunsOn, Savepoint, Served, Stage, Stand, Start, Within, Words, Worker, account_of, again_for, arena_ahead, began_later, began_now, begins, begins_again, begun, cancels_register_none, cells_of, commits_known, counted, held_as, in_transaction, irrevocable_room, is_abort, is_back, outside, over_as, places_for, promised, registers, renew_room, reserved, reserved_least, reserved_most, shut_revocable, stage_at, stage_of, stand_of, start_of, told_in, total, view_in, view_of, within}
use Rattle.std.proofs.lemmas.Bool.{cases_Bool}
use Rattle.worker_rules.proofs.Laws.Places.{cut_room, has_points, if_open, none_within, open_within, promised_in}
use Rattle.worker_rules.proofs.Machines.ActionRooms.{counted_in, leaves_promised, promised_mid, ran_held, room_on, wanted_mid}
use Rattle.worker_rules.proofs.Machines.LastEvents.{IsLast, last_event}
use Rattle.worker_rules.proofs.Machines.PlainActions.{served_ran, served_runs}
use Rattle.worker_rules.proofs.Machines.RestartingCalls.{restarting}

-- ## What a begin is told

-- no other call is told anything
pub not_told : (x : Current) (again : Bool) (call : Call) → ((props : Props) (room : ℕ) → call ≡ Begin props room → ⊥) → again_for x again call ≡ false
not_told (Begins o) again (Begin props room) other = absurd (other props room refl)
not_told x again call other = refl

pub again_prepared : (old : Stage) (x : Current) (again : Bool) (call : Call) (row : Props → Attempt) (ahead : ℕ) → ((r : Attempt) → old ≡ begins r → ⊥) → stage_of x ≡ stage_at old call row ahead → again_for x again call ≡ begins_again old again call
again_prepared (begins r) x again call row ahead never is = absurd (never r refl)
again_prepared outside (Begins o) again (Begin props room) row ahead never is = refl
again_prepared outside x again (Begin props room) row ahead never is = absurd (cc)
again_prepared outside (Begins o) again call row ahead never is = absurd (cc)
again_prepared outside x again call row ahead never is = refl
again_prepared (within r points) (Begins o) again call row ahead never is = absurd (cc)
again_prepared (within r points) x again call row ahead never is = refl

-- ## The same attempt with more room

pub same_over : (outcome : Outcome) (s : Stand) (x y : Current) → IsRoomier x y → over_as outcome s (stage_of y) ≡ over_as outcome s (stage_of x)
same_over outcome s Outside Outside r = refl
same_over outcome s Outside (Begins o) r = refl
same_over outcome s (Within o) (Within o') r = (λ i. over_as outcome s (within (r.0 i) (r.1 i)))
same_over outcome s x y r = absurd r

module _ {P : Type 0} {rules : Rules P} {c : Course P} (w : Worker P) (running : IsRunning rules c (view_in w) w.thread.engine (account_of w)) where
  -- where it stands
  stands_at : ((i : in_transaction w.thread.engine ≡ true) × (stage_of w.run.current ≡ within (running.inside i).row (running.inside i).points)) ⊎ ((in_transaction w.thread.engine ≡ false) × (stage_of w.run.current ≡ outside))
  stands_at = elim (cases_Bool (in_transaction w.thread.engine)) [ inl i ↦ inl (i, (running.inside i).stage_is) | inr o ↦ inr (o, (running.outside o).stage_is) ]

  -- no begin is in progress between two calls
  pub never_begins : (row : Attempt) → stage_of w.run.current ≡ begins row → ⊥
  never_begins row is = elim stands_at [ inl at ↦ (let none = sym at.1 ∙ is in cc) | inr at ↦ (let none = sym at.1 ∙ is in cc) ]

  -- one is open just within a transaction
  pub within_inside : (row : Attempt) (points : List Savepoint) → stage_of w.run.current ≡ within row points → (i : in_transaction w.thread.engine ≡ true) × ((running.inside i).row ≡ row) × ((running.inside i).points ≡ points)
  within_inside row points is = elim stands_at [
    | inl at ↦ (let same = sym at.1 ∙ is in (at.0, (let f : (running.inside at.0).row ≡ row = cc in f), (let f : (running.inside at.0).points ≡ points = cc in f)))
    | inr at ↦ absurd (let none = sym at.1 ∙ is in cc)
  ]

  -- none is open just outside
  pub outside_shut : stage_of w.run.current ≡ outside → in_transaction w.thread.engine ≡ false
  outside_shut none = elim stands_at [ inl at ↦ absurd (let some = sym at.1 ∙ none in cc) | inr at ↦ at.0 ]

module _ {P : Type 0} {rules : Rules P} {words : Words} {c : Course P} {b : Bounds} {old new : Worker P} {call : Call} {answer : Answer} (k : IsAsked rules words c b old call answer new) where
  abbrev s : Start
  s = start_of old.thread call (begins_again (stage_of old.run.current) old.run.again call)

  abbrev e : Core
  e = new.thread.engine

  -- the call asks for room for so many more
  abbrev asks : ℕ
  asks = unwrap_or (irrevocable_room old.thread.engine call) 0

  -- the attempt that an outermost begin is to open
  abbrev opens : Props → Attempt
  opens props = begun old.run.thread old.run.nth (commits_known (view_of old.thread.pass)) props old.thread.engine.arena asks

  -- as its engine came to the answer
  pub last : IsLast (start_of old.thread call (begins_again (stage_of old.run.current) old.run.again call)) (view_in new) answer new.thread.engine
  last = last_event (cells_of words) s answer (view_in new) e k.works.same.own.over k.works.same.stands k.answered.driven

  -- an irrevocable transaction is open, and no block has gone back to its begin
  pub held_inside : new.thread.engine.irrevocable ≡ true → in_transaction new.thread.engine ≡ true
  held_inside held = (let settled = k.answered.stands.settled in (settled.holder (settled.irrevocable held).0).0)

  held_whole : new.thread.engine.irrevocable ≡ true → IsRestart answer → ⊥
  held_whole held = by_answer answer k.answered.served
    where
      by_answer : (x : Answer) → Served s x (view_in new) e → IsRestart x → ⊥
      by_answer (Restarted clock word) served back = true≢false (sym held ∙ served.tells.revocable.1)
      by_answer x served back = absurd back

  stage_is : (x : Current) → new.run.current ≡ x → stage_of x ≡ stage_at (stage_of old.run.current) call opens asks
  stage_is x is = ap stage_of (sym is) ∙ ap (λ (t : _). t.stage) k.prepared.came

  -- the attempt at hand is the open one, with room for the call
  pub record IsAtHand (o : Open) : Type 0 where
    pub is : new.run.current ≡ Within o
    pub inside : in_transaction old.thread.engine ≡ true
    pub row_is : o.row ≡ record (k.works.running.inside inside).row { calls = reserved (k.works.running.inside inside).row.calls (asks + 1) }
    pub points_are : o.points ≡ (k.works.running.inside inside).points

  at_hand : (o : Open) → new.run.current ≡ Within o → IsAtHand o
  at_hand o is = by_stage (stage_of old.run.current) refl (stage_is (Within o) is)
    where
      the_row : (row : Attempt) (points : List Savepoint) → within o.row o.points ≡ within row points → (o.row ≡ row) × (o.points ≡ points)
      the_row row points e = ((let f : o.row ≡ row = cc in f), (let f : o.points ≡ points = cc in f))

      by_stage : (g : Stage) → stage_of old.run.current ≡ g → within o.row o.points ≡ stage_at (stage_of old.run.current) call opens asks → IsAtHand o
      by_stage outside was e = absurd (none_within call opens asks o.row o.points (e ∙ ap (λ (g : Stage). stage_at g call opens asks) was))
      by_stage (begins r) was e = absurd (never_begins old k.works.running r was)
      by_stage (within r points) was e =
          let same = the_row _ _ (e ∙ ap (λ (g : Stage). stage_at g call opens asks) was) in
          let inside = within_inside old k.works.running r points was in
          record { is = is; inside = inside.0; row_is = same.0 ∙ ap (λ (x : Attempt). record x { calls = reserved x.calls (asks + 1) }) (sym inside.1); points_are = same.1 ∙ sym inside.2 }

  module _ {o : Open} (h : IsAtHand o) where
    ready : IsReadyFor old.thread.engine call asks new.ended (Within o)
    ready = subst (IsReadyFor old.thread.engine call asks new.ended) h.is k.prepared.ready

    runs : RunsOn (registers call) old.thread.engine.actions new.thread.engine.actions
    runs = served_runs last h.inside

    -- all that had come to run is told
    told_is : told_in o.row ≡ length old.thread.engine.actions.ran
    told_is = ap told_in h.row_is ∙ sym (k.works.running.inside h.inside).try.is_open.due

    told_so : told_in o.row ≤ length new.thread.engine.actions.ran
    told_so = omega (arith, told_is, ap (length {A = Ran}) runs.ran, length-append old.thread.engine.actions.ran runs.later)

    still_places : total new.thread.engine.actions ≤ o.ends
    still_places = omega (arith, runs.most, places_for call (total old.thread.engine.actions) o.ends o.ends ready.1 (omega arith) ready.2.ends)

    open_cancels : (IsRestart answer → ⊥) → in_transaction new.thread.engine ≡ true → told_in o.row < length new.thread.engine.actions.ran → length new.thread.engine.actions.ran ≤ o.cancels
    open_cancels whole now less = by_abort (is_abort call) refl
      where
        by_abort : (a : Bool) → is_abort call ≡ a → length e.actions.ran ≤ o.cancels
        by_abort true is = (let places = ready.2.cancels is in let most = runs.most in let none = cancels_register_none call is in omega arith)
        by_abort false is = (let ran = ap (length {A = Ran}) (served_ran last h.inside whole is now) in let had = told_is in absurd (omega arith))

    has_room : (IsRestart answer → ⊥) → HasRoom call (stand_of new.thread.engine) o
    has_room whole = record {
      entry = (let least = reserved_least (k.works.running.inside h.inside).row.calls asks in let room = ap (λ (x : Attempt). x.calls.room) h.row_is in omega arith);
      begins = ready.2.begins;
      told = told_so;
      ends = (let places = still_places in omega arith);
      cancels = open_cancels whole;
    }

    may_renew : (clock word : ℕ) → answer ≡ Restarted clock word → MayRenew (stand_of new.thread.engine) o
    may_renew clock word is =
        let served : Served s (Restarted clock word) (view_in new) e = subst (λ (x : Answer). Served s x (view_in new) e) is k.answered.served in
        let came : IsLast s (view_in new) (Restarted clock word) e = subst (λ (x : Answer). IsLast s (view_in new) x e) is last in
        let kept = came.is_mid.kept in
        let ahead : arena_ahead old.thread.engine call ≡ Some (length old.thread.engine.arena) = ap (λ (b : Bool). if b then Some (length old.thread.engine.arena) else None) (restarting s (view_in new) e clock word served) in
        let had = began_now (k.works.running.inside h.inside).try.is_open served.tells.revocable.0 in
        renew_room (is_back came.mid e clock word came.is_mid.settled came.ends) o (told_is ∙ ap (λ (a : Actions). length a.ran) (sym kept.actions))
        (subst (λ (n : ℕ). BeganBy o.points o.row n) (ap (λ (a : Actions). length a.ran) (sym kept.actions)) (subst (λ (x : List Savepoint × Attempt). BeganBy x.0 x.1 (length old.thread.engine.actions.ran)) (λ i. (sym h.points_are i, sym h.row_is i)) (began_later _ _ (reserved (k.works.running.inside h.inside).row.calls (asks + 1)) (length old.thread.engine.actions.ran) (length old.thread.engine.actions.ran) (omega arith) had)))
        (subst (λ (x : List ℕ × Actions). IsBacked (length x.0) (total x.1) o) (λ i. (sym (kept.arena served.tells.revocable.0) i, sym kept.actions i)) (ready.2.again (length old.thread.engine.arena) ahead))

  -- what is known of the attempt at hand
  by_hand : (Q : Current → Type 0) → Q Outside → ((o : Open) → Q (Begins o)) → ((o : Open) → IsAtHand o → Q (Within o)) → Q new.run.current
  by_hand Q none begun open_so = if_open Q none begun new.run.current (λ o is. open_so o (at_hand o is))

  pub may_take_in : (IsRestart answer → ⊥) → MayTakeIn call (stand_of new.thread.engine) new.run.current
  may_take_in whole = by_hand (MayTakeIn call (stand_of new.thread.engine)) tt (λ o. tt) (λ o h. has_room h whole)

  -- and where a block goes back
  pub may_go_back : (clock word : ℕ) → answer ≡ Restarted clock word → (0 < rules.depth new.run.player) × MayGoBack (stand_of new.thread.engine) new.run.current
  may_go_back clock word is =
      let served : Served s (Restarted clock word) (view_in new) e = subst (λ (x : Answer). Served s x (view_in new) e) is k.answered.served in
      let deep : 0 < rules.depth old.run.player = subst (λ (i : Bool). IsDeep i (rules.depth old.run.player)) served.tells.still.0 k.works.running.nested.deep in
      let player : new.run.player ≡ old.run.player = ap (λ (t : _). t.player) k.prepared.came in (
        subst (λ (p : P). 0 < rules.depth p) (sym player) deep,
        by_hand (MayGoBack (stand_of new.thread.engine)) tt (λ o. tt) (λ o h. may_renew h clock word is),
      )

  -- what is told has come to run
  pub told_by : IsToldBy new.thread.engine.actions.ran new.run.current
  told_by = by_hand (IsToldBy new.thread.engine.actions.ran) tt (λ o. tt) (λ o h. told_so h)

  pub may_tell : MayTell new.run.current new.ended
  may_tell = by_hand (λ (x : Current). MayTell x new.ended) tt (λ o. tt) (λ o h. (ready h).0)

  -- an attempt that is to be opened is so by a begin, outside a transaction, with the room that the begin asks for
  pub begins_call : (o : Open) → new.run.current ≡ Begins o → (props : Props) × (room : ℕ) × (call ≡ Begin props room) × (in_transaction old.thread.engine ≡ false) × (o.row.calls.room ≡ unwrap_or (irrevocable_room old.thread.engine call) 0)
  begins_call o is = by_stage (stage_of old.run.current) refl (stage_is (Begins o) is)
    where
      by_call : (x : Call) → call ≡ x → begins o.row ≡ stage_at outside x opens asks → (props : Props) × (room : ℕ) × (call ≡ Begin props room) × (o.row.calls.room ≡ asks)
      by_call (Begin props room) call_is e = (props, room, call_is, (let same : o.row ≡ opens props = cc in ap (λ (a : Attempt). a.calls.room) same))
      by_call x call_is e = absurd (cc)

      by_stage : (g : Stage) → stage_of old.run.current ≡ g → begins o.row ≡ stage_at (stage_of old.run.current) call opens asks → (props : Props) × (room : ℕ) × (call ≡ Begin props room) × (in_transaction old.thread.engine ≡ false) × (o.row.calls.room ≡ asks)
      by_stage outside was e =
          let begin = by_call call refl (e ∙ ap (λ (g : Stage). stage_at g call opens asks) was) in
          (begin.0, begin.1, begin.2, outside_shut old k.works.running was, begin.3)
      by_stage (begins r) was e = absurd (never_begins old k.works.running r was)
      by_stage (within r points) was e = (let none : begins o.row ≡ stage_at (within r points) call opens asks = e ∙ ap (λ (g : Stage). stage_at g call opens asks) was in absurd (cc))

  -- one that is open has a place for each action
  pub still_within : (o : Open) → new.run.current ≡ Within o → total new.thread.engine.actions ≤ o.ends
  still_within o is = still_places (at_hand o is)

  -- each commit action that may still be registered with no memory finds a place: in the open attempt, where none has come to run, or in the one that is opened
  pub open_places : (o : Open) → new.run.current ≡ Within o → new.thread.engine.irrevocable ≡ true → 0 < new.thread.engine.room
      → (total new.thread.engine.actions + new.thread.engine.room ≤ o.ends) × (total new.thread.engine.actions + new.thread.engine.room ≤ o.cancels) × (told_in o.row ≡ length new.thread.engine.actions.ran)
  open_places o is held some =
      let h = at_hand o is in
      let n = counted_in old.thread.engine h.inside in
      let now = counted_in e (held_inside held) in
      let had = subst (HasActionPlaces old.thread.engine) is k.prepared.actions in
      let both = room_on k.works.same.stands last (held_whole held) o.ends o.cancels (λ was more. (let p = had was more in (let x = p.0 in omega arith, let x = p.1 in omega arith))) (λ ahead. (let x = (ready h).2.ahead_ends ahead in omega arith, let x = (ready h).2.ahead_cancels ahead in omega arith)) (held_as e held) some in
      (let x = both.0 in omega arith, let x = both.1 in omega arith, told_is h ∙ sym (ap (length {A = Ran}) (ran_held k.works.same.stands last (held_whole held) h.inside (held_as e held))))

  pub begun_places : (o : Open) → new.run.current ≡ Begins o → new.thread.engine.irrevocable ≡ true → 0 < new.thread.engine.room → (total new.thread.engine.actions + new.thread.engine.room ≤ o.ends) × (total new.thread.engine.actions + new.thread.engine.room ≤ o.cancels)
  begun_places o is held some =
      let shut = (begins_call o is).3 in
      let ready = subst (IsReadyFor old.thread.engine call asks new.ended) is k.prepared.ready in
      let n : counted old.thread.engine ≡ 0 = ap (λ (b : Bool). if b then total old.thread.engine.actions else 0) shut in
      let now = counted_in e (held_inside held) in
      let both = room_on k.works.same.stands last (held_whole held) o.ends o.cancels (λ was. absurd (true≢false (sym was ∙ shut_revocable old.thread.engine k.works.same.stands.settled shut))) (λ ahead. (let x = ready.1 in omega arith, let x = ready.2 in omega arith)) (held_as e held) some in
      (let x = both.0 in omega arith, let x = both.1 in omega arith)

  -- ## Room for calls

  -- none is left where a block has gone back
  pub room_back : (a : Answer) → Served s a (view_in new) e → IsRestart a → (o' : Open) → OpensBy (stage_of new.run.current) call a (stand_of e) o'.row o'.points → o'.row.calls.room ≡ 0
  room_back (Restarted clock word) served back o' opened =
      let w = open_within new.run.current opened.0 o'.points opened.1 in
      let h = at_hand w.0 w.1 in
      let some : o'.points ≡ [] → ⊥ = λ none. has_points (k.works.running.inside h.inside).try.is_open served.tells.revocable.0 served.tells.within (sym h.points_are ∙ (w.3 ∙ none)) in
      ap (λ (row : Attempt). row.calls.room) opened.2 ∙ cut_room o'.points e.arena e.actions.ran opened.0 some
  room_back a served back o' opened = absurd back

  -- an attempt that is open then has room for as many calls as are promised, at most
  pub promises_opened : (a : Answer) → Served s a (view_in new) e → IsLast s (view_in new) a e → (o' : Open) → OpensBy (stage_of new.run.current) call a (stand_of e) o'.row o'.points → IsPromised e (Within o')
  promises_opened (Reply r) served last o' (inl h) =
      let w = open_within new.run.current h.0 h.1 h.2 in
      let before = ap (λ (row : Attempt). row.calls.room) w.2 in
      let after = ap (λ (row : Attempt). row.calls.room) h.3 in
      let hand = at_hand w.0 w.1 in
      let was = k.works.running.inside hand.inside in
      let had = promised_in old.thread.engine old.run.current was.row was.points was.stage_is k.works.promises in
      let made = ap (λ (row : Attempt). row.calls.room) hand.row_is in
      let most = reserved_most was.row.calls asks (promised old.thread.engine) had in
      let promises = promised_mid last in
      let wants = wanted_mid last in
      let left = (leaves_promised last).adds w.0.row.calls.room (omega arith) in
      omega arith
  promises_opened (Reply r) served last o' (inr h) = by_current new.run.current refl h.1
    where
      by_current : (x : Current) → new.run.current ≡ x → stage_of x ≡ begins h.0 → IsPromised e (Within o')
      by_current (Begins o) is stage =
          let same : o.row ≡ h.0 = cc in
          let before = ap (λ (row : Attempt). row.calls.room) same in
          let after = ap (λ (row : Attempt). row.calls.room) h.2 in
          let left = (leaves_promised last).opens o.row.calls.room ((begins_call o is).4 ∙ sym (wanted_mid last)) in
          omega arith
      by_current x is stage = absurd (cc)
  promises_opened (Restarted clock word) served last o' opened = (let none = room_back (Restarted clock word) served tt o' opened in omega arith)
  promises_opened a served last o' opened = absurd opened
