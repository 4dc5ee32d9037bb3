-- What a call of an actor, up to its first step, and a step of it do to its try.
use Rattle.std.proofs.Common.{[], unwrap_or, append-nil, ◌++◌, ◌≡◌, ℕ, ◌+◌, ◌/◌, ◌%◌, ◌≤◌, ◌==◌, if◌then◌else◌, Bool, true, false, Option, None, Some, refl, sym, ap, subst, ◌∙◌, arith}
use Rattle.event_rules.proofs.Common.{Actor, Answer, Answers, Asks, Attempt, Begin, BeginsAt, Busy, Call, Cells, Conflict, Continues, Core, EndsAt, Extends, Full, HasRow, IsDone, IsHanded, IsSound, Kept, Next, Phase, PlayerRun, Prior, Props, ReadsAt, Ready, Replied, Reply, Restarted, Rows, Rules, Stage, Starves, Status, Step, Tells, Tries, Waits, active_of, asked_at, asked_begun, begins, begun, begun_in, cond-true, continues_as, current_open, ending_of, extends_calls, extends_twice, false_from_ne_true, found, handed_is, in_transaction, irrevocable_room, may_go, none-some, not_at_once, not_closed, open_in, over_as, pending_of, prior_of, ran_on, replied_outside, reserved, restarts_left, stage_of, stage_open, stage_out, stand_of, stays_between, stays_open, told, told_nth, told_pending, told_stage, told_tries, tries_from, tries_later, with_room}
use Rattle.tx_attempts.specs.declared.attempt.Outcome.TheVariants as outcomes
use Rattle.tx_runs.specs.declared.ending.End.TheVariants as ends
use Rattle.event_rules.proofs.Engines.TiedEngines.{limit_same, undone_keeps}
use Rattle.norec_core.specs.Endings.{EndsSo, ending_after, ending_at, ending_from}
use Rattle.norec_core.specs.Phases as at
use Rattle.event_rules.proofs.Engines.SoundSteps.{IsCalling, call_taken, mid, rests, IsStepping, mid_step, same, step_taken, waits, went}
use Rattle.event_rules.proofs.Engines.Intakes.{HasAnswered, HasTaken, not_finished, recorded}
use Rattle.event_rules.proofs.Tries.TryEnds.{back_tries, begin_tries, begun_or_not, ends_try, is_between, open_tries}

module _ {P : Type 0} (rules : Rules P)
    (cells : Cells) (r0 : Rows) (old : Actor P) (sound : IsSound rules cells r0 old) (ready : old.status ≡ Ready) where
  -- ## Memory was refused

  pub starve_tries : (r1 : Rows) (last : Actor P) → Starves rules r0 old r1 last → Tries Extends cells.clock (prior_of r0 old) cells.clock r1 last
  starve_tries r1 last s = by_row (in_transaction old.engine) old.engine.irrevocable refl refl sound.kept.row
    where
      by_row : (b irrevocable : Bool) → in_transaction old.engine ≡ b → old.engine.irrevocable ≡ irrevocable → HasRow b old → Tries Extends cells.clock (prior_of r0 old) cells.clock r1 last
      -- an irrevocable attempt stays
      by_row true true e i h =
          let kept = s.held i in
          let holds = (rests sound ready).free ∙ i in
          let same : last.engine ≡ old.engine = s.engine ∙ cond-true old.engine.holds _ _ holds in
          stays_open old.engine.clock cells.clock cells.clock r0 r1 old last kept.ended refl h.0 (record h.0 { calls = record h.0.calls { room = kept.room } }) (current_open old h.1)
          (ap open_in (kept.stage ∙ ap (with_room kept.room) (stage_open _ h.1))) (extends_calls h.0 _ h.0.at refl) (ap (λ (x : PlayerRun P). x.nth) kept.run)
          (λ x. absurd (let n = ap ending_of s.status in cc)) (λ x. ap (λ (c : Core). c.irrevocable) same ∙ i)
      by_row true false e i h =
          let x = s.stops i in
          let reached = sound.tied.settled.reached in
          let late = sound.tied.late in
          let still = (undone_keeps old.engine last.engine s.engine).6 in
          ends_try old.engine.clock cells.clock cells.clock r0 r1 old last h.0 h.0.calls.list [] (sym (append-nil h.0.calls.list)) (last.engine.snapshot / 2) outcomes.NoMemory (ran_on h.0.ran h.0.restarts last.engine.actions.ran) _ refl h.1
          (x.ended ∙ ap (λ (z : Stage). r0.ended ++ over_as outcomes.NoMemory (stand_of last.engine) z) (stage_open _ h.1)) refl
          (refl, omega arith) (not_closed outcomes.NoMemory refl h.0.calls.list) (let few = sound.acts.few h.0 h.1 in let most = sound.tied.settled.few in omega arith) (record { none = ap open_in (told_stage x); status = s.status })
      by_row false true e i h = absurd (let open_then = (sound.tied.settled.holder (sound.tied.settled.irrevocable i).0).0 in let both : true ≡ false = sym open_then ∙ e in cc)
      by_row false false e i h =
          let x = s.stops i in
          let out = stage_out _ h (rests sound ready).nothing in
          stays_between old.engine.clock cells.clock cells.clock r0 r1 old last (x.ended ∙ (ap (λ (z : Stage). r0.ended ++ over_as outcomes.NoMemory (stand_of last.engine) z) out ∙ append-nil r0.ended)) refl h (rests sound ready).nothing (record {
            none = ap open_in (told_stage x);
            tries = told_nth x;
            opens = λ row p. absurd (none-some row (sym (told_pending x) ∙ p));
            goes_on = λ z. absurd (let n = ap ending_of s.status in cc);
          })

-- ## The call went to the engine

module _ {P : Type 0} {rules : Rules P} {cells : Cells} {r0 r : Rows} {old a : Actor P} {call : Call} {what : Next} (m : IsCalling rules cells r0 r old a call what) where
  -- an attempt that is to be opened then is one of this moment
  opens_now : (row : Attempt) → pending_of a ≡ Some row → a.engine.arena ≡ old.engine.arena → row ≡ begun a.run.thread old.run.nth (cells.clock / 2) row.props a.engine.arena row.calls.room
  opens_now row e arena =
      let x = asked_begun cells.clock old call (stage_of old.run.current) row (rests m.sound m.ready).nothing (sym (ap begun_in m.asks.stage) ∙ e) in
      let is = x.3 in
      is ∙ (λ i. begun (sym (ap (λ (z : PlayerRun P). z.thread) m.asks.run) i) old.run.nth (cells.clock / 2) (sym (ap (λ (z : Attempt). z.props) is) i) (sym arena i) (sym (ap (λ (z : Attempt). z.calls.room) is) i))

  nth_same : a.run.nth ≡ old.run.nth
  nth_same = ap (λ (x : PlayerRun P). x.nth) m.asks.run

  -- the open attempt, in the actor that asks
  still_open : (row : Attempt) → active_of old ≡ Some row → (row' : Attempt) × (active_of a ≡ Some row') × Extends row row'
  still_open row e =
      let k : Kept = reserved row.calls (unwrap_or (irrevocable_room old.engine call) 0 + 1) in
      (record row { calls = k }, ap open_in (m.asks.stage ∙ ap (asked_at cells.clock old call) (stage_open _ e)), extends_calls row k row.at refl)

  -- it waits for its first step
  waits_tries : (step : Step) → HasTaken rules (in_transaction old.engine) cells cells r (mid m) a call (Asks step) → Tries Extends cells.clock (prior_of r0 old) cells.clock r (record a { status = Waits call step })
  waits_tries step t = by_row (in_transaction old.engine) refl m.sound.kept.row
    where
      by_row : (b : Bool) → in_transaction old.engine ≡ b → HasRow b old → Tries Extends cells.clock (prior_of r0 old) cells.clock r (record a { status = Waits call step })
      by_row true e h = (let x = still_open h.0 h.1 in stays_open old.engine.clock cells.clock cells.clock r0 r old (record a { status = Waits call step }) m.asks.ended refl h.0 x.0 (current_open old h.1) x.1 x.2 nth_same (λ x. absurd (cc)) (λ x. absurd (cc)))
      by_row false e h = stays_between old.engine.clock cells.clock cells.clock r0 r old (record a { status = Waits call step }) m.asks.ended refl h (rests m.sound m.ready).nothing (record {
        none = subst (λ (b : Bool). HasRow b a) e m.asked.kept.row;
        tries = nth_same;
        opens = λ row p. opens_now row p (ap (λ (c : Core). c.arena) t.proceeds.stays);
        goes_on = λ x. absurd (cc);
      })

  -- it is answered at once
  answer_tries : (answer : Answer) → what ≡ Answers answer → {r1 : Rows} {last : Actor P} → HasAnswered rules (in_transaction old.engine) cells cells r r1 (mid m) a last call answer → Tries Extends cells.clock (prior_of r0 old) cells.clock r1 last
  answer_tries answer is {r1} {last} t = by_open (in_transaction old.engine) refl m.sound.kept.row t
    where
      by_open : (b : Bool) → in_transaction old.engine ≡ b → HasRow b old → HasAnswered rules b cells cells r r1 (mid m) a last call answer → Tries Extends cells.clock (prior_of r0 old) cells.clock r1 last
      by_open true e h t =
          let x = still_open h.0 h.1 in
          let kept = limit_same (mid m) a.engine what m.asks.called.proceeds in
          tries_from Extends extends_twice cells.clock cells.clock cells.clock (record (prior_of r a) { seen = old.engine.clock }) (prior_of r0 old) r1 last h.0 x.0 x.1 x.2 (current_open old h.1) m.asks.ended nth_same (ap (λ (z : PlayerRun P). z.retries) m.asks.run) kept.3 refl
          (λ at o. subst (λ (n : ℕ). EndsAt n cells.clock cells.clock at o) kept.0) (open_tries old.engine.clock answer (not_at_once what m.asks.called.at_once answer is) t)
      by_open false e h t =
          let reply = replied_outside old.engine call answer e (subst (EndsSo (ending_at old.engine call)) is m.asks.called.ends) in
          shut reply.0 (subst (HasAnswered rules false cells cells r r1 (mid m) a last call) reply.1 t)
        where
          shut : (reply : Replied) → HasAnswered rules false cells cells r r1 (mid m) a last call (Reply reply) → Tries Extends cells.clock (prior_of r0 old) cells.clock r1 last
          shut reply t =
              let x = begun_or_not reply t in
              let closed = false_from_ne_true (in_transaction a.engine) (λ o. absurd (let f : true ≡ false = sym (m.asks.called.stays.opens o) ∙ e in cc)) in
              stays_between old.engine.clock cells.clock cells.clock r0 r1 old last (x.ended ∙ m.asks.ended) refl h (rests m.sound m.ready).nothing
              (is_between rules a last false t.settled cells.clock old.run.nth closed x.status (x.nth ∙ nth_same))

  pub call_tries : {r1 : Rows} {last : Actor P} → IsDone rules (in_transaction old.engine) (restarts_left (mid m)) r r1 a last call what → Tells rules r r1 a last call what → Tries Extends cells.clock (prior_of r0 old) cells.clock r1 last
  call_tries done tells = recorded (λ x y. Tries Extends cells.clock (prior_of r0 old) cells.clock x y) (call_taken m) done tells waits_tries (λ answer is t. answer_tries answer is t)

-- ## A step

-- a begin that waits for a step was not refused
begins_may : (c : Core) (stage : Phase) → BeginsAt c stage → (props : Props) (room : ℕ) → c.doing ≡ Some (Begin props room) → may_go c.blocks props ≡ true
begins_may c (at.Begin b) begun props room doing = (let same : Some (Begin b.props b.room) ≡ Some (Begin props room) = sym begun.0 ∙ doing in let is : b.props ≡ props = cc in subst (λ (p : Props). may_go c.blocks p ≡ true) is begun.1)
begins_may c (at.Take b) begun props room doing = (let same : Some (Begin b.props b.room) ≡ Some (Begin props room) = sym begun.0 ∙ doing in let is : b.props ≡ props = cc in subst (λ (p : Props). may_go c.blocks p ≡ true) is begun.1)
begins_may c stage begun props room doing = absurd begun

-- and one that lost the clock had just loaded it
even_not : (even goes : Bool) (seen clock : ℕ) (word : Option ℕ) → EndsSo (if even then (if goes then Some (Full (seen / 2)) else None) else Some (Busy seen)) (Answers (Conflict clock word)) → ⊥
even_not true true seen clock word e = absurd (cc)
even_not true false seen clock word e = e
even_not false goes seen clock word e = absurd (cc)

lost_early : (c : Core) (seen clock : ℕ) (word : Option ℕ) (stage : Phase) → BeginsAt c stage → EndsSo (ending_from c stage seen) (Answers (Conflict clock word)) → c.clock ≤ c.snapshot
lost_early c seen clock word (at.Begin b) begun e = absurd (even_not (seen % 2 == 0) b.props.goes_irrevocable seen clock word e)
lost_early c seen clock word (at.Take b) begun e = omega (arith, begun.2)
lost_early c seen clock word stage begun e = absurd begun

module _ {P : Type 0} {rules : Rules P} {cells : Cells} {r : Rows} {old : Actor P} {call : Call} {what : Next} {cells' : Cells} {new : Core} (m : IsStepping rules cells r old call what cells' new) (reads : ReadsAt old) (status : Status) (ready : status ≡ Ready) where
  abbrev on : Status → Actor P
  on s = record old { engine = new; status = s }

  abbrev Tried : Rows → Actor P → Type 0
  Tried x y = Tries (Continues cells.clock) cells.clock (prior_of r old) cells'.clock x y

  -- the call goes on
  went_on : (step : Step) → HasTaken rules (in_transaction old.engine) cells cells' r (mid_step m) (on status) call (Asks step) → Tried r (on (Waits call step))
  went_on step t = tries_later (continues_as cells.clock) (by_row (in_transaction old.engine) m.sound.kept.row)
    where
      by_pending : (p : Option Attempt) → pending_of old ≡ p → active_of old ≡ None → Tries Extends cells.clock (prior_of r old) cells'.clock r (on (Waits call step))
      by_pending None p none = stays_between old.engine.clock cells.clock cells'.clock r r old (on (Waits call step)) refl (t.moves.keeps t.proceeds.unfreed) none p
          (record { none = none; tries = refl; opens = λ row e. absurd (let n = sym p ∙ e in cc); goes_on = λ e. absurd (cc) })
      by_pending (Some row) p none = begins (record { none = none; row = row; was = p; now = p; ended = refl; still = none; half = t.moves.keeps t.proceeds.unfreed; tries = refl; on = refl })

      by_row : (b : Bool) → HasRow b old → Tries Extends cells.clock (prior_of r old) cells'.clock r (on (Waits call step))
      by_row true h = stays_open old.engine.clock cells.clock cells'.clock r r old (on (Waits call step)) refl (t.moves.keeps t.proceeds.unfreed) h.0 h.0 (current_open old h.1) h.1 (extends_calls h.0 h.0.calls h.0.at refl) refl (λ e. absurd (cc)) (λ e. absurd (cc))
      by_row false h = by_pending (pending_of old) refl h

  answered_on : (answer : Answer) → what ≡ Answers answer → {r1 : Rows} {last : Actor P} → HasAnswered rules (in_transaction old.engine) cells cells' r r1 (mid_step m) (on status) last call answer → Tried r1 last
  answered_on answer is {r1} {last} t =
      let kept = limit_same (mid_step m) new what (went m) in
      let limit = kept.0 ∙ (same m).max_commits in
      let most = kept.3 ∙ (same m).restarts in
      subst (λ (p : Prior). Tries (Continues cells.clock) cells.clock p cells'.clock r1 last) (λ i. record (prior_of r old) { max_commits = limit i; restarts = most i }) (by_open (in_transaction old.engine) refl t)
    where
      handed : IsHanded old.engine (mid_step m)
      handed = handed_is old.engine m.step (found cells m.step)

      open_step : (ans : Answer) → HasAnswered rules true cells cells' r r1 (mid_step m) (on status) last call ans → Tries (Continues cells.clock) cells.clock (record (prior_of r (on status)) { seen = old.engine.clock }) cells'.clock r1 last
      open_step (Restarted clock word) t = back_tries old.engine.clock clock word (λ row e. reads row e ∙ ap (λ (n : ℕ). n / 2) (sym handed.snapshot)) t
      open_step ans t = tries_later (continues_as cells.clock) (open_tries old.engine.clock ans (λ is. is) t)

      by_open : (b : Bool) → in_transaction old.engine ≡ b → HasAnswered rules b cells cells' r r1 (mid_step m) (on status) last call answer → Tries (Continues cells.clock) cells.clock (record (prior_of r (on status)) { seen = old.engine.clock }) cells'.clock r1 last
      by_open true e t = open_step answer t
      by_open false e t =
          let w = waits m in
          let begun = w.begun e in
          tries_later (continues_as cells.clock) (begin_tries old.engine.clock (λ props room is. ap (λ (bs : _). may_go bs props) handed.keeps.blocks ∙ begins_may old.engine old.engine.stage begun props room (w.doing ∙ ap (λ (c : Call). Some c) is))
          answer
          (λ clock word lost.
          (let ends = subst (EndsSo (ending_after old.engine (found cells m.step))) (is ∙ ap (λ (x : Answer). Answers x) lost) m.resumed.ends in
          omega (arith, lost_early old.engine (found cells m.step) clock word old.engine.stage begun ends, handed.snapshot)))
          t)

  module _ (r1 : Rows) (last : Actor P) (done : IsDone rules (in_transaction old.engine) (restarts_left (mid_step m)) r r1 (on status) last call what) (tells : Tells rules r r1 (on status) last call what) where
    -- what the step leaves, once the open attempt is told where it reads
    pub step_tries : Tries (Continues cells.clock) cells.clock (prior_of r old) cells'.clock r1 (told last)
    step_tries = told_tries cells.clock cells'.clock (prior_of r old) r1 last (recorded Tried (step_taken m status ready) done tells went_on (λ answer is t. answered_on answer is t))

    -- an actor finishes in its local work alone
    pub step_unfinished : ending_of last.status ≡ Some ends.Finished → ⊥
    step_unfinished = recorded (λ x y. ending_of y.status ≡ Some ends.Finished → ⊥) (step_taken m status ready) done tells (λ step t e. absurd (cc))
        (λ answer is t. not_finished rules r r1 (on status) last call answer t.told)
