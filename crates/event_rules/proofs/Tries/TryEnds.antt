-- What an answer does to the try that its call belongs to.
use Rattle.tx_runs.specs.Tallies.{begins as begins_at}
use Rattle.std.proofs.Common.{true≢false, inl, inr, ◌≡◌, ℕ, ◌+◌, ◌*◌, ◌/◌, ◌%◌, ◌<◌, ◌≤◌, Bool, true, false, nat_lt, if◌then◌else◌, is_some, List, [], ◌∷◌, ◌++◌, length, map, Option, None, Some, refl, sym, ap, subst, ◌∙◌, arith, append-nil, ◌⊎◌}
use Rattle.event_rules.proofs.Common.{Actor, Agrees, Answer, Attempt, BeganIn, Begin, Busy, Call, CallRecord, Cells, ClosedBy, Commit, Committed, Conflict, Conflicts, ConflictsIn, Continues, Core, EndsAt, Extends, Full, GoesOnAfter, HasPoints, HasRow, IsBegin, IsBetween, IsLost, IsReady, IsRestart, IsSettledBy, IsTied, Outcome, Props, Ran, Ready, Replied, Replies, Reply, Restarted, RestsAs, Rows, Rules, Savepoint, Status, TakesTo, Tally, Tries, TriesAgain, WantsClock, active_of, again_of, begin_call, begin_goes, begin_opens, by_wrote, call_begins, cancels, closed, continues_back, current_open, current_shut, cut_back, deep_of, ending_as, ending_of, extends_calls, extends_to, goes_for, in_transaction, is_begin, is_done, is_tried, may_go, none-some, none_inside, not_closed, open_in, outrun, over, pending_of, plain_reply, points_in, prior_of, ran_on, runs, shut_out, spent, stage_begun, stage_of, stage_open, stage_out, stand_at, stays_between, stays_open, taken_at, tally_at, tally_of, told_active, told_again, told_nth, told_pending, told_player, told_stage, tried, turned_away, was_open, with_call, within, within_at}
use Rattle.itm_types.specs.declared.call.Reply.TheVariants as replies
use Rattle.tx_attempts.specs.declared.attempt.Outcome.TheVariants as outcomes
use Rattle.tx_runs.specs.declared.ending.End.TheVariants as ends
use Rattle.world_rules.specs.Tries.{GoesBack}
use Rattle.event_rules.proofs.Engines.Intakes.{HasAnswered, half_same, still_going}
use Rattle.nest_frames.specs.Nest.{Frame}

-- ## A try that ends

-- the open attempt ends
pub ends_try : {P : Type 0} (seen clock clock' : ℕ) (r r' : Rows) (a a' : Actor P) (row : Attempt) (list more : List CallRecord) → list ≡ row.calls.list ++ more → (at : ℕ) (outcome : Outcome) (ran more_ran : List Ran) → ran ≡ row.ran ++ more_ran
    → active_of a ≡ Some row → r'.ended ≡ r.ended ++ record row { calls = record { list = list; room = 0 }; at = at; ran = ran; outcome = outcome } ∷ []
    → at ≡ a'.engine.snapshot / 2 → EndsAt a.engine.max_commits clock clock' at outcome → ClosedBy outcome list → length row.restarts ≤ a.engine.restarts → GoesOnAfter outcome clock' (prior_of r a) a' → Tries Extends clock (record (prior_of r a) { seen = seen }) clock' r' a'
ends_try seen clock clock' r r' a a' row list more calls at outcome ran more_ran is was ended reads ends closed few goes = over (record {
  row = row;
  row' = record row { calls = record { list = list; room = 0 }; at = at; ran = ran; outcome = outcome };
  was = current_open a was;
  ended = ended;
  continues = extends_to row (record { list = list; room = 0 }) more calls at outcome ran more_ran is;
  reads = reads;
  at = ends;
  closed = closed;
  spent = refl;
  few = few;
  after = goes_for clock' (prior_of r a) (record (prior_of r a) { seen = seen }) a' refl refl outcome goes;
})

pub next_try : {P : Type 0} (t : Tally P) (attempts : List Attempt) (retries : ℕ) {r r' : Rows} {a last : Actor P} → TakesTo (tried retries t attempts) r r' a last → (ending_of last.status ≡ Some ends.GaveUp → ⊥) → (last.status ≡ Ready) × (last.run.nth ≡ t.nth + 1)
next_try t attempts retries x on = elim (is_tried t attempts retries x).either [ inl last_one ↦ absurd (on (ap ending_of last_one.1)) | inr more ↦ (more.1, more.2) ]

module _ {P : Type 0} (rules : Rules P) (a last : Actor P) (was : Bool) {before : ℕ} (settled : IsSettledBy rules was before a last) where
  none_active : in_transaction a.engine ≡ false → active_of last ≡ None
  none_active closed = subst (λ (b : Bool). HasRow b last) (ap in_transaction settled.engine ∙ closed) settled.kept.row

  -- the actor is between two tries
  pub is_between : (clock nth : ℕ) → in_transaction a.engine ≡ false → last.status ≡ Ready → last.run.nth ≡ nth → IsBetween clock nth last
  is_between clock nth closed ready tries = record {
    none = none_active closed;
    tries = tries;
    opens = λ row e. absurd (let rest : IsReady rules last = subst (λ (s : Status). RestsAs rules s last) ready settled.rests in none-some row (sym rest.nothing ∙ e));
    goes_on = still_going ready;
  }

  -- a try came to nothing
  tries_again : (clock : ℕ) → in_transaction a.engine ≡ false → (t : Tally P) (attempts : List Attempt) (retries : ℕ) {r r' : Rows} → TakesTo (tried retries t attempts) r r' a last → TriesAgain (nat_lt retries t.nth) clock t.nth last
  tries_again clock closed t attempts retries x = elim (is_tried t attempts retries x).either [
    | inl last_one ↦ subst (λ (b : Bool). TriesAgain b clock t.nth last) (sym last_one.0) (record { none = none_active closed; status = last_one.1 })
    | inr more ↦ subst (λ (b : Bool). TriesAgain b clock t.nth last) (sym more.0) (is_between clock (t.nth + 1) closed more.1 more.2)
  ]

-- ## A call of an open transaction is answered

-- half the snapshot is no later than the clock
reached : (cells : Cells) (e : Core) → IsTied cells e → 2 * (e.snapshot / 2) ≤ cells.clock
reached cells e tied = (let reached = tied.settled.reached in let late = tied.late in omega arith)

-- which clock the engine had seen before, is nothing to it
module _ {P : Type 0} {rules : Rules P} {cells cells' : Cells} {r r1 : Rows} {mid : Core} {a last : Actor P} {call : Call} (seen : ℕ) {ans : Answer} (m : HasAnswered rules true cells cells' r r1 mid a last call ans) where
  abbrev row : Attempt
  row = m.answered.kept.row.0

  abbrev Tried : Type 0
  Tried = Tries Extends cells.clock (record (prior_of r a) { seen = seen }) cells'.clock r1 last

  -- no more blocks of it ran again than may
  few_again : length m.answered.kept.row.0.restarts ≤ a.engine.restarts
  few_again = (let few = m.taken.few row m.answered.kept.row.1 in let most = m.taken.tied.settled.few in omega arith)

  -- what has run in it then
  abbrev told_ran : List Ran
  told_ran = ran_on m.answered.kept.row.0.ran m.answered.kept.row.0.restarts last.engine.actions.ran

  -- it ends by a call of its, which closes its block
  closes : (reply : Replied) (outcome : Outcome) → in_transaction a.engine ≡ false → TakesTo (closed (record (tally_at a (within_at a (with_call call reply m.answered.kept.row.0))) { player = rules.answered a.run.player reply }) outcome (stand_at false last.engine)) r r1 a last
      → EndsAt a.engine.max_commits cells.clock cells'.clock (last.engine.snapshot / 2) outcome → ClosedBy outcome (m.answered.kept.row.0.calls.list ++ record { call = call; reply = reply } ∷ []) → (IsBetween cells'.clock 1 last → GoesOnAfter outcome cells'.clock (prior_of r a) last) → Tried
  closes reply outcome shut x ends closed goes =
      ends_try seen cells.clock cells'.clock r r1 a last row (row.calls.list ++ record { call = call; reply = reply } ∷ []) (record { call = call; reply = reply } ∷ []) refl (last.engine.snapshot / 2) outcome told_ran _ refl m.answered.kept.row.1
      x.ended refl ends closed few_again (goes (is_between rules a last true m.settled cells'.clock 1 shut x.status (told_nth x)))

  -- or without one
  stops : (outcome : Outcome) → r1.ended ≡ r.ended ++ ending_as outcome (stand_at false last.engine) m.answered.kept.row.0 ∷ [] → EndsAt a.engine.max_commits cells.clock cells'.clock (last.engine.snapshot / 2) outcome → is_done outcome ≡ false → GoesOnAfter outcome cells'.clock (prior_of r a) last → Tried
  stops outcome ended ends undone goes =
      ends_try seen cells.clock cells'.clock r r1 a last row row.calls.list [] (sym (append-nil row.calls.list)) (last.engine.snapshot / 2) outcome told_ran _ refl m.answered.kept.row.1 ended refl ends (not_closed outcome undone row.calls.list) few_again goes

module _ {P : Type 0} {rules : Rules P} {cells cells' : Cells} {r r1 : Rows} {mid : Core} {a last : Actor P} {call : Call} (seen : ℕ) where
  pub open_tries : (ans : Answer) → (IsRestart ans → ⊥) → HasAnswered rules true cells cells' r r1 mid a last call ans → Tries Extends cells.clock (record (prior_of r a) { seen = seen }) cells'.clock r1 last
  open_tries (Reply reply) never m = by_open (in_transaction last.engine) refl
    where
      by_open : (now : Bool) → in_transaction last.engine ≡ now → Tries Extends cells.clock (record (prior_of r a) { seen = seen }) cells'.clock r1 last
      by_open true o =
          let row = m.answered.kept.row in
          let ran : List Ran = ran_on row.0.ran row.0.restarts last.engine.actions.ran in
          let x = taken_at m.told (stage_open _ row.1) o in
          stays_open seen cells.clock cells'.clock r r1 a last (x.ended ∙ append-nil r.ended) (half_same m refl) row.0 (record (with_call call reply row.0) { ran = ran }) (current_open a row.1) (told_active x)
          (extends_to row.0 (with_call call reply row.0).calls (record { call = call; reply = reply } ∷ []) refl row.0.at row.0.outcome ran _ refl) (told_nth x) (still_going x.status) (still_going x.status)
      by_open false o =
          let calls : List CallRecord = m.answered.kept.row.0.calls.list in
          let shut : in_transaction a.engine ≡ false = ap in_transaction (sym m.settled.engine) ∙ o in
          let g : Replies mid call reply a.engine = plain_reply mid a.engine call reply m.taken.doing m.taken.tied.settled shut m.ends in
          let abort = cancels mid a.engine call reply cells'.words g m.taken.was_is shut (sym m.taken.words, m.taken.tied.fit) (subst (Agrees cells'.words) (sym (m.taken.tied.settled.closed shut).0) tt) in
          closes seen m reply outcomes.Cancelled shut (taken_at m.told (stage_open _ m.answered.kept.row.1) o) (half_same m refl, omega (arith, ap (λ (c : Core). c.snapshot) m.settled.engine, reached cells' a.engine m.taken.tied))
          (calls, abort.0, (λ i. calls ++ record { call = abort.1 i; reply = abort.2 i } ∷ [])) (λ b. b)
  open_tries (Committed at wrote) never m =
      let calls : List CallRecord = m.answered.kept.row.0.calls.list in
      let here : at ≡ last.engine.snapshot / 2 = m.ends.at_is ∙ ap (λ (n : ℕ). n / 2) (sym (ap (λ (c : Core). c.snapshot) (m.settled.engine ∙ m.ends.stays))) in
      let by_commit : calls ++ record { call = call; reply = replies.Done } ∷ [] ≡ calls ++ record { call = Commit; reply = replies.Done } ∷ [] = λ i. calls ++ record { call = m.answered.fits.2 i; reply = replies.Done } ∷ [] in
      closes seen m replies.Done (if wrote then outcomes.Committed else outcomes.ReadOnly) m.answered.fits.1 (taken_at m.told (stage_open _ m.answered.kept.row.1) (ap in_transaction m.settled.engine ∙ m.answered.fits.1))
      (subst (λ (n : ℕ). EndsAt a.engine.max_commits cells.clock cells'.clock n (if wrote then outcomes.Committed else outcomes.ReadOnly)) here (by_wrote (EndsAt a.engine.max_commits cells.clock cells'.clock at) wrote
      (λ w. subst (λ (n : ℕ). (cells.clock ≡ 2 * n + 1) × (cells'.clock ≡ 2 * n + 2)) (sym m.ends.at_is) (m.taken.moves.frees (m.ends.freed ∙ w)))
      (λ w. (m.taken.moves.keeps (m.ends.freed ∙ w), omega (arith, ap (λ (c : Core). c.snapshot) m.ends.stays, m.ends.at_is, reached cells' a.engine m.taken.tied)))))
      (by_wrote (λ o. ClosedBy o (calls ++ record { call = call; reply = replies.Done } ∷ [])) wrote (λ w. (calls, by_commit)) (λ w. (calls, by_commit)))
      (λ b. by_wrote (λ o. GoesOnAfter o cells'.clock (prior_of r a) last) wrote (λ w. b) (λ w. b))
  open_tries (Conflict clock word) never m =
      let row = m.answered.kept.row in
      let g : Conflicts mid clock word a.engine = subst (λ (b : Bool). ConflictsIn b mid clock word a.engine) m.taken.was_is m.ends in
      let x = taken_at m.told (stage_open _ row.1) (ap in_transaction m.settled.engine ∙ m.answered.fits.1) in
      let t : Tally P = record { player = rules.restarted a.run.player; nth = a.run.nth; again = a.run.again; stage = within_at a row.0 } in
      let gone : List Attempt = ending_as outcomes.Conflict (stand_at false last.engine) row.0 ∷ [] in
      stops seen m outcomes.Conflict (is_tried t gone a.run.retries x).ended (
        m.taken.moves.keeps g.unfreed,
        omega (arith, ap (λ (c : Core). c.snapshot) (m.settled.engine ∙ g.stays), ap (λ (c : Core). c.clock) g.stays, g.later, g.clock_is, m.taken.tied.late),
      ) refl
      (tries_again rules a last true m.settled cells'.clock m.answered.fits.1 t gone a.run.retries x)
  open_tries (Restarted clock word) never m = absurd (never tt)
  open_tries (Busy clock) never m = absurd (let f : true ≡ false = m.answered.fits.0 in cc)
  open_tries (Full at) never m =
      let x = taken_at m.told (stage_open _ m.answered.kept.row.1) (ap in_transaction m.settled.engine ∙ m.answered.fits.1) in
      let here : at ≡ last.engine.snapshot / 2 = m.ends.at_is ∙ ap (λ (n : ℕ). n / 2) (sym (ap (λ (c : Core). c.snapshot) m.settled.engine)) in
      stops seen m outcomes.Full x.ended (
        m.taken.moves.keeps m.ends.unfreed,
        omega (arith, here, m.ends.at_is, reached cells' a.engine m.taken.tied),
        omega (arith, here, m.ends.full, ap (λ (c : Core). c.max_commits) m.ends.stays),
      ) refl
      (record { none = none_active rules a last true m.settled m.answered.fits.1; status = x.status })

  -- its innermost block goes back to its begin
  pub back_tries : (clock word : ℕ) → ((row : Attempt) → active_of a ≡ Some row → row.at ≡ mid.snapshot / 2) → HasAnswered rules true cells cells' r r1 mid a last call (Restarted clock word) → Tries (Continues cells.clock) cells.clock (record (prior_of r a) { seen = seen }) cells'.clock r1 last
  back_tries clock word reads m =
      let row = m.answered.kept.row in
      let points = points_in (stage_of a.run.current) in
      let here = stage_open _ row.1 in
      let x = taken_at m.told here (ap in_transaction m.settled.engine ∙ m.answered.fits.1) in
      let deep : rules.depth a.run.player ≡ length points + 1 = subst (HasPoints (rules.depth a.run.player)) here m.answered.points in
      let back = goes_back row.0 points last.engine.arena last.engine.actions.ran (let some = m.answered.fits.3 in omega arith) (subst BeganIn here m.taken.began) (omega (arith, reads row.0 row.1, m.ends.later, ap (λ (c : Core). c.snapshot) m.ends.stays, m.taken.tied.settled.even, reached cells' a.engine m.taken.tied, half_same m refl)) in
      runs (record {
        row = row.0;
        row' = cut_back points last.engine.arena last.engine.actions.ran row.0;
        was = current_open a row.1;
        now = told_active x;
        continues = continues_back cells.clock row.0 (cut_back points last.engine.arena last.engine.actions.ran row.0) back;
        ended = x.ended ∙ append-nil r.ended;
        half = half_same m refl;
        tries = told_nth x;
        goes_on = still_going x.status;
        fed = still_going x.status;
      })
    where
      goes_back : (row : Attempt) (points : List Savepoint) (arena : List ℕ) (due : List Ran) → 0 < length points → BeganIn (within row points) → row.at < cells.clock / 2 → GoesBack cells.clock row (cut_back points arena due row)
      goes_back row [] arena due some b moved = absurd (omega arith)
      goes_back row (s ∷ outer) arena due some b moved = record {
        moved = moved;
        same = record { thread = refl; nth = refl; began = refl; props = refl; arena = refl };
        again = again_of s row arena due;
        outer = map (λ (q : Savepoint). q.kept) outer;
        innermost = sym b.0;
        calls = refl;
        restarts = refl;
        told = s.ran;
        ran = refl;
      }

-- ## A begin is answered

module _ {P : Type 0} (rules : Rules P) (r r1 : Rows) (a last : Actor P) (call : Call) (reply : Replied) where
  -- a begin's attempt is open
  pub record IsBegun : Type 0 where
    pub row : Attempt
    pub pending : pending_of a ≡ Some row
    pub now : in_transaction last.engine ≡ true
    pub stage : stage_of last.run.current ≡ within (record row { at = last.engine.snapshot / 2 }) []
    pub again : last.run.again ≡ true

  -- the call was no begin, or one that was refused
  pub record StaysOut : Type 0 where
    pub shut : in_transaction last.engine ≡ false
    pub again : last.run.again ≡ a.run.again
    pub why : (pending_of a ≡ None) ⊎ ((props : Props) × (room : ℕ) × (call ≡ Begin props room))

  -- a reply outside a transaction
  pub record RepliedOutside : Type 0 where
    pub player : last.run.player ≡ rules.answered a.run.player reply
    pub nth : last.run.nth ≡ a.run.nth
    pub status : last.status ≡ Ready
    pub ended : r1.ended ≡ r.ended
    pub pending : pending_of last ≡ None
    pub either : IsBegun ⊎ StaysOut

module _ {P : Type 0} {rules : Rules P} {cells cells' : Cells} {r r1 : Rows} {mid : Core} {a last : Actor P} {call : Call} where
  pub begun_or_not : (reply : Replied) → HasAnswered rules false cells cells' r r1 mid a last call (Reply reply) → RepliedOutside rules r r1 a last call reply
  begun_or_not reply m = by_open (in_transaction last.engine) refl (pending_of a) refl
    where
      by_open : (now : Bool) → in_transaction last.engine ≡ now → (p : Option Attempt) → pending_of a ≡ p → RepliedOutside rules r r1 a last call reply
      by_open true e (Some row) p =
          let x = taken_at m.told (stage_begun _ p) e in
          record { player = told_player x; nth = told_nth x; status = x.status; ended = x.ended ∙ append-nil r.ended; pending = told_pending x; either = inl (record { row = row; pending = p; now = e; stage = told_stage x; again = told_again x }) }
      by_open false e None p =
          let x = taken_at m.told (stage_out _ m.answered.kept.row p) e in
          record { player = told_player x; nth = told_nth x; status = x.status; ended = x.ended ∙ append-nil r.ended; pending = told_pending x; either = inr (record { shut = e; again = told_again x; why = inl p }) }
      by_open true e None p =
          let now = ap in_transaction (sym m.settled.engine) ∙ e in
          absurd (let f : false ≡ true = was_open false (in_transaction a.engine) (rules.depth a.run.player) (length a.engine.blocks) call reply m.answered.nested.deep (deep_of a.engine.blocks) (λ x. sym (m.answered.in_call.begins x) ∙ ap is_some p) m.answered.fits.0 now in cc)
      by_open false e (Some row) p =
          let x = taken_at m.told (stage_begun _ p) e in
          record { player = told_player x; nth = told_nth x; status = x.status; ended = x.ended ∙ append-nil r.ended; pending = told_pending x; either = inr (record { shut = e; again = told_again x; why = inr (begin_call call (sym (m.answered.in_call.begins refl) ∙ ap is_some p)) }) }

  -- the attempt that a begin is to open
  begin_pending : {ans : Answer} → HasAnswered rules false cells cells' r r1 mid a last call ans → is_begin call ≡ true → (row : Attempt) × (pending_of a ≡ Some row)
  begin_pending m is = by_pending (pending_of a) refl
    where
      by_pending : (p : Option Attempt) → pending_of a ≡ p → (row : Attempt) × (pending_of a ≡ Some row)
      by_pending (Some row) p = (row, p)
      by_pending None p = absurd (let f : false ≡ true = ap is_some (sym p) ∙ (m.answered.in_call.begins refl ∙ is) in cc)

  -- where a step was done, the begin was not refused; the engine had seen this clock before
  pub begin_tries : (seen : ℕ) → ((props : Props) (room : ℕ) → call ≡ Begin props room → may_go mid.blocks props ≡ true) → (ans : Answer) → ((clock : ℕ) (word : Option ℕ) → ans ≡ Conflict clock word → seen ≤ mid.snapshot)
      → HasAnswered rules false cells cells' r r1 mid a last call ans → Tries Extends cells.clock (record (prior_of r a) { seen = seen }) cells'.clock r1 last
  begin_tries seen may (Reply reply) early m =
      let x = begun_or_not reply m in
      elim x.either [
        | inl b ↦ stays_open seen cells.clock cells'.clock r r1 a last x.ended (half_same m refl) b.row (record b.row { at = last.engine.snapshot / 2 }) (current_shut a m.answered.kept.row b.pending) (ap open_in b.stage) (extends_calls b.row b.row.calls (last.engine.snapshot / 2) refl) x.nth (still_going x.status) (still_going x.status)
        | inr n ↦ elim n.why [
          | inl nothing ↦
              stays_between seen cells.clock cells'.clock r r1 a last x.ended (half_same m refl) m.answered.kept.row nothing (is_between rules a last false m.settled cells'.clock a.run.nth (ap in_transaction (sym m.settled.engine) ∙ n.shut) x.status x.nth)
          | inr b ↦ absurd (refused b.0 b.1 b.2 (ap in_transaction (sym m.settled.engine) ∙ n.shut))
        ]
      ]
    where
      refused : (props : Props) (room : ℕ) → call ≡ Begin props room → in_transaction a.engine ≡ false → ⊥
      refused props room is closed =
          let g : Replies mid (Begin props room) reply a.engine = subst (λ (c : Call). Replies mid c reply a.engine) is (plain_reply mid a.engine call reply m.taken.doing m.taken.tied.settled closed m.ends) in
          true≢false (sym (begin_opens mid a.engine cells'.words props room reply g (subst (λ (d : ℕ). 0 < d) (ap (λ (c : Core). c.depth) g.stays) m.taken.tied.settled.deep) m.taken.was_is (may props room is) (sym m.taken.words, m.taken.tied.fit) (subst (Agrees cells'.words) (sym (m.taken.tied.settled.closed closed).0) tt)) ∙ closed)
  begin_tries seen may (Busy clock) early m =
      let x = taken_at m.told refl refl in
      let pending = begin_pending m (call_begins call (subst IsBegin m.taken.doing m.ends.begins)) in
      let out = m.taken.outside refl m.ends.free in
      turned_away (record {
        none = m.answered.kept.row;
        row = pending.0;
        was = pending.1;
        ended = (is_tried (tally_of a.run) [] a.run.retries x).ended ∙ append-nil r.ended;
        odd = elim out.1 [
          | inl loaded ↦ ap (λ (n : ℕ). n % 2) (sym loaded ∙ sym m.ends.clock_is) ∙ m.ends.odd
          | inr soon ↦ absurd soon
        ];
        same = out.0;
        after = tries_again rules a last false m.settled cells'.clock m.answered.fits.1 (tally_of a.run) [] a.run.retries x;
      })
  begin_tries seen may (Conflict clock word) early m =
      let g : IsLost mid clock word a.engine = subst (λ (b : Bool). ConflictsIn b mid clock word a.engine) m.taken.was_is m.ends in
      let pending = begin_pending m (m.answered.fits.0 refl) in
      let x = taken_at m.told (stage_begun _ pending.1) refl in
      let t : Tally P = record { player = a.run.player; nth = a.run.nth; again = a.run.again; stage = begins_at pending.0 } in
      let out = m.taken.outside refl g.free in
      outrun (record {
        none = m.answered.kept.row;
        row = pending.0;
        was = pending.1;
        ended = (is_tried t [] a.run.retries x).ended ∙ append-nil r.ended;
        moved = elim out.1 [
          | inl loaded ↦ omega (arith, early clock word refl, g.later, g.clock_is, loaded, out.0)
          | inr soon ↦ absurd soon
        ];
        same = out.0;
        after = tries_again rules a last false m.settled cells'.clock m.answered.fits.1 t [] a.run.retries x;
      })
  begin_tries seen may (Full at) early m =
      let pending = begin_pending m (m.answered.fits.0 refl) in
      let x = taken_at m.told (stage_begun _ pending.1) refl in
      let out = m.taken.outside refl m.ends.free in
      let b = begin_call call (m.answered.fits.0 refl) in
      let props = m.answered.in_call.props pending.0 b.0 b.1 pending.1 b.2 in
      let goes = begin_goes mid b.0 b.1 (subst (λ (o : Option Call). WantsClock mid o) (m.taken.doing ∙ ap (λ (x : Call). Some x) b.2) m.ends.wants) in
      shut_out (record {
        none = m.answered.kept.row;
        row = pending.0;
        was = pending.1;
        ended = x.ended ∙ append-nil r.ended;
        goes = ap (λ (x : Props). x.goes_irrevocable) props ∙ goes.0;
        may = ap (may_go []) props ∙ (sym (ap (λ (bs : List Frame). may_go bs b.0) (none_inside mid.blocks m.taken.was_is)) ∙ goes.1);
        full = omega (arith, m.ends.full, m.ends.at_is, ap (λ (c : Core). c.max_commits) m.ends.stays, reached cells' a.engine m.taken.tied, out.0);
        same = out.0;
        after = record { none = none_active rules a last false m.settled m.answered.fits.1; status = x.status };
      })
  begin_tries seen may (Restarted clock word) early m = absurd (let f : false ≡ true = m.answered.fits.0 in cc)
  begin_tries seen may (Committed at wrote) early m = absurd (let f : false ≡ true = m.answered.fits.0 in cc)
