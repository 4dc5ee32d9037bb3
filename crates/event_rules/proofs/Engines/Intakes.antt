-- The moment that a step and a call of the player share: the engine has taken in a value or a call, and what it gave is recorded next.
use Rattle.std.proofs.Common.{◌≡◌, ◌≢◌, ◌⊎◌, None, ◌+◌, ◌*◌, ◌/◌, Bool, true, false, [], refl, ap, subst, ◌∙◌, sym, length, Some, ◌<◌, ◌≤◌, inl, inr, arith, ℕ}
use Rattle.event_rules.proofs.Common.{Actor, Answer, AnswerFits, Answers, Asks, Attempt, BeganIn, BeginsAt, Call, Cells, Core, End, Ended, Ends, Finished, GaveUp, HasFew, HasFirst, HasPoints, HasRow, IsActing, IsAnswered, IsAtOnce, IsDone, IsDue, IsInCall, IsKept, IsNested, IsSettledBy, IsSound, IsTied, IsWaiting, IsWithin, LeavesRestarts, Next, NoMemory, Proceeds, Ready, Records, RestsAs, Rows, Rules, Status, StatusIs, Step, Tells, Waits, active_of, asked, cases_Bool, count_of, ending_of, frees, in_transaction, is_ready, leaves_left, pending_of, restarts_left, rests, row_same, stage_of, status_after, taken_of, wanted}
use Rattle.run_rules.proofs.EngineAnswers.{answer_fits}

pub ready_of : (s : Status) → is_ready s ≡ true → s ≡ Ready
ready_of Ready e = refl
ready_of s e = absurd (cc)

-- one that is ready has not ended
pub still_going : {s : Status} {end : End} {A : Type 0} → s ≡ Ready → ending_of s ≡ Some end → A
still_going ready e = absurd (let none = sym (ap ending_of ready) ∙ e in cc)

-- what becomes of the clock, by whether the engine freed it
pub record ClockMoves (cells cells' : Cells) (mid : Core) : Type 0 where
  pub frees : mid.freed ≡ true → (cells.clock ≡ 2 * (mid.snapshot / 2) + 1) × (cells'.clock ≡ 2 * (mid.snapshot / 2) + 2)
  pub keeps : mid.freed ≡ false → cells'.clock / 2 ≡ cells.clock / 2

pub clock_grows : {cells cells' : Cells} {mid : Core} → ClockMoves cells cells' mid → cells.clock / 2 ≤ cells'.clock / 2
clock_grows {mid} m = elim (cases_Bool mid.freed) [ inl f ↦ omega (arith, (m.frees f).0, (m.frees f).1) | inr f ↦ omega (arith, m.keeps f) ]

module _ {P : Type 0} (rules : Rules P) where
  -- over these cells and then those, the engine mid, in which the value or the call is, gave this for the call and became the actor's; it was open before or not
  pub record HasTaken (was : Bool) (cells cells' : Cells) (r : Rows) (mid : Core) (a : Actor P) (call : Call) (what : Next) : Type 0 where
    pub was_is : in_transaction mid ≡ was
    pub proceeds : Proceeds mid what a.engine
    pub doing : mid.doing ≡ Some call
    pub words : mid.words ≡ length cells'.words
    pub tied : IsTied cells' a.engine
    pub within : IsWithin a.engine
    pub kept : IsKept was a
    pub first : HasFirst a
    pub few : HasFew a
    pub began : BeganIn (stage_of a.run.current)
    pub points : HasPoints (rules.depth a.run.player) (stage_of a.run.current)
    pub nested : IsNested rules was a.run.player
    pub depth : rules.depth a.run.player ≡ length mid.blocks
    pub in_call : IsInCall rules was a call
    pub place : (row : Attempt) → active_of a ≡ Some row → wanted mid < row.calls.room
    pub pending : (row : Attempt) → pending_of a ≡ Some row → row.calls.room ≡ wanted mid
    pub ready : a.status ≡ Ready
    pub room : count_of a ≤ r.room
    pub moves : ClockMoves cells cells' mid
    pub empty : was ≡ false → mid.writes ≡ []
    pub asks : a.engine.waits ≡ asked a.engine
    pub begun : a.engine.waits ≢ None → in_transaction a.engine ≡ false → BeginsAt a.engine a.engine.stage
    -- outside a transaction the clock stands still, unless it is taken, and is loaded where the answer takes a step
    pub outside : was ≡ false → mid.holds ≡ false → (cells'.clock ≡ cells.clock) × ((mid.clock ≡ cells'.clock) ⊎ IsAtOnce what)

  -- and the answer is recorded
  pub record HasAnswered (was : Bool) (cells cells' : Cells) (r r1 : Rows) (mid : Core) (a last : Actor P) (call : Call) (answer : Answer) : Type 0 where
    pub taken : HasTaken was cells cells' r mid a call (Answers answer)
    pub answered : IsAnswered rules was (restarts_left mid) a call answer
    pub ends : Ends mid answer a.engine
    pub told : Records rules r r1 a last call answer
    pub settled : IsSettledBy rules was (restarts_left mid) a last

  -- what is true of the actor then
  pub record IsNow (cells : Cells) (r : Rows) (a last : Actor P) : Type 0 where
    pub engine : last.engine ≡ a.engine
    pub kept : IsKept (in_transaction last.engine) last
    pub status : StatusIs rules last last.status
    pub sound : IsActing last → count_of last ≤ r.room → IsSound rules cells r last
    pub thread : last.run.thread ≡ a.run.thread
    pub retries : last.run.retries ≡ a.run.retries

-- the call is the same, whatever the engine and the status
pub in_call_of : {P : Type 0} {rules : Rules P} {was : Bool} {a : Actor P} {call : Call} (e : Core) (s : Status) → IsInCall rules was a call → IsInCall rules was (record a { engine = e; status = s }) call
in_call_of e s i = record { asks = i.asks; begins = i.begins; inside = i.inside; props = i.props; opens = λ row e. (let p = i.opens row e in record { thread = p.thread; nth = p.nth; outcome = p.outcome }) }

module _ {P : Type 0} {rules : Rules P} {was : Bool} {cells cells' : Cells} {r : Rows} {mid : Core} {a : Actor P} {call : Call} where
  pub answered : {answer : Answer} → HasTaken rules was cells cells' r mid a call (Answers answer) → IsAnswered rules was (restarts_left mid) a call answer
  answered {answer} m =
      let fits : AnswerFits was (rules.depth a.run.player) (in_transaction a.engine) (length a.engine.blocks) call answer =
      subst (λ (n : ℕ). AnswerFits was n (in_transaction a.engine) (length a.engine.blocks) call answer) (sym m.depth)
      (subst (λ (b : Bool). AnswerFits b (length mid.blocks) (in_transaction a.engine) (length a.engine.blocks) call answer) m.was_is (answer_fits mid a.engine m.tied.settled call answer m.doing m.proceeds)) in
      let left : LeavesRestarts was (in_transaction a.engine) (restarts_left mid) (restarts_left a.engine) answer =
      subst (λ (b : Bool). LeavesRestarts b (in_transaction a.engine) (restarts_left mid) (restarts_left a.engine) answer) m.was_is (leaves_left mid a.engine answer m.tied.settled m.proceeds) in
      assumption (fits, left, rests mid a.engine answer m.proceeds, m)

  -- no commit is done, unless a writer's is what is answered
  pub unfreed : {r1 : Rows} {last : Actor P} {answer : Answer} → HasAnswered rules was cells cells' r r1 mid a last call answer → frees answer ≡ false → mid.freed ≡ false
  unfreed {answer = answer} m none = (rests mid a.engine answer m.ends).freed ∙ none

  pub half_same : {r1 : Rows} {last : Actor P} {answer : Answer} → HasAnswered rules was cells cells' r r1 mid a last call answer → frees answer ≡ false → cells'.clock / 2 ≡ cells.clock / 2
  half_same m none = m.taken.moves.keeps (unfreed m none)

  pub read_late : {r1 : Rows} {last : Actor P} {answer : Answer} → HasAnswered rules was cells cells' r r1 mid a last call answer → frees answer ≡ false → a.engine.snapshot / 2 ≤ cells.clock / 2
  read_late m none = omega (arith, half_same m none, m.taken.tied.settled.reached, m.taken.tied.late)

  pub due : {what : Next} → HasTaken rules was cells cells' r mid a call what → IsDue rules was (restarts_left mid) a call what
  due {what = Asks step} m = m.ready
  due {what = Answers answer} m = answered m

  -- the actor waits for the step
  pub waits_now : {step : Step} → HasTaken rules was cells cells' r mid a call (Asks step) → IsNow rules cells' r a (record a { status = Waits call step })
  waits_now {step} m =
      let g = m.proceeds in
      let opens : was ≡ in_transaction a.engine = sym m.was_is ∙ sym (ap in_transaction g.stays) in
      let k = m.kept in
      let kept : IsKept (in_transaction a.engine) (record a { status = Waits call step }) = record { row = row_same (in_transaction a.engine) a (record a { status = Waits call step }) refl refl (subst (λ (b : Bool). HasRow b a) opens k.row); tried = k.tried; tries = k.tries; retries = k.retries } in
      let status : IsWaiting rules (record a { status = Waits call step }) call step = record {
        nested = subst (λ (b : Bool). IsNested rules b a.run.player) opens m.nested;
        depth = m.depth ∙ ap (λ (c : Core). length c.blocks) (sym g.stays);
        points = m.points;
        in_call = subst (λ (b : Bool). IsInCall rules b (record a { status = Waits call step }) call) opens (in_call_of a.engine (Waits call step) m.in_call);
        doing = ap (λ (c : Core). c.doing) g.stays ∙ m.doing;
        waits = ap (λ (c : Core). c.waits) g.stays;
        lawful = g.lawful;
        within = m.within;
        asks = m.asks;
        begun = m.begun (λ none. absurd (let both : Some step ≡ None = sym (ap (λ (c : Core). c.waits) g.stays) ∙ none in cc));
      } in
      record { engine = refl; thread = refl; retries = refl; kept = kept; status = status; sound = λ acts place. record { tied = m.tied; kept = kept; acts = acts; status = status; place = place } }

  -- the answer is recorded
  pub answered_now : {r1 : Rows} {last : Actor P} {answer : Answer} → HasAnswered rules was cells cells' r r1 mid a last call answer → IsNow rules cells' r1 a last
  answered_now {r1} {last} m = assumption (status_of last.status m.settled.rests, subst (IsTied cells') (sym m.settled.engine) m.taken.tied, m.settled)
    where
      status_of : (st : Status) → RestsAs rules st last → StatusIs rules last st
      status_of Ready rest = rest
      status_of (Waits c step) rest = absurd rest
      status_of (Ended end) rest = rest

  -- what holds of an actor that waits, and of one whose call is answered, holds once either is recorded
  pub recorded : {what : Next} {r1 : Rows} {last : Actor P} (Holds : Rows → Actor P → Type 0) → HasTaken rules was cells cells' r mid a call what → IsDone rules was (restarts_left mid) r r1 a last call what → Tells rules r r1 a last call what
      → ((step : Step) → HasTaken rules was cells cells' r mid a call (Asks step) → Holds r (record a { status = Waits call step })) → ((answer : Answer) → what ≡ Answers answer → HasAnswered rules was cells cells' r r1 mid a last call answer → Holds r1 last) → Holds r1 last
  recorded {what = Asks step} {last} Holds m done tells waits ends = subst (λ (x : Rows). Holds x last) (sym done.1) (subst (Holds r) (sym done.0) (waits step m))
  recorded {what = Answers answer} Holds m done tells waits ends = ends answer refl (record { taken = m; answered = answered m; ends = m.proceeds; told = tells; settled = done })

  pub now : {what : Next} {r1 : Rows} {last : Actor P} → HasTaken rules was cells cells' r mid a call what → IsDone rules was (restarts_left mid) r r1 a last call what → Tells rules r r1 a last call what → IsNow rules cells' r1 a last
  now m done tells = recorded (λ x y. IsNow rules cells' x a y) m done tells (λ step t. waits_now t) (λ answer is t. answered_now t)

-- ## An answer ends no actor but one that gives up

module _ {P : Type 0} (rules : Rules P) (r r1 : Rows) (a last : Actor P) (call : Call) where
  not_ended : (end : End) → (end ≡ GaveUp → ⊥) → (ans : Answer) → Records rules r r1 a last call ans → ending_of last.status ≡ Some end → ⊥
  not_ended end other ans t e = elim (taken_of t).end [
    | inl going ↦ (let none : None ≡ Some end = sym (ap ending_of (t.takes.status ∙ ap status_after going)) ∙ e in cc)
    | inr gave ↦ other (let z : Some end ≡ Some GaveUp = sym e ∙ ap ending_of (t.takes.status ∙ ap status_after gave) in cc)
  ]

  pub not_finished : (ans : Answer) → Records rules r r1 a last call ans → ending_of last.status ≡ Some Finished → ⊥
  not_finished = not_ended Finished (λ e. absurd (cc))

  pub not_starved : (ans : Answer) → Records rules r r1 a last call ans → ending_of last.status ≡ Some NoMemory → ⊥
  not_starved = not_ended NoMemory (λ e. absurd (cc))
