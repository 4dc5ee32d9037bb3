-- A step was done, or a call of the player came: its value or the call went to the engine, and what the engine gave may be recorded.
use Rattle.std.proofs.Common.{◌≡◌, ◌≢◌, ◌⊎◌, [], nat_lt, inl, ℕ, zero, suc, ◌+◌, ◌*◌, ◌/◌, ◌%◌, ◌<◌, ◌≤◌, ◌==◌, Bool, true, false, if◌then◌else◌, Option, None, Some, refl, sym, true≢false, ap, subst, ◌∙◌, arith, eqb-true, inr, length, unwrap_or}
use Rattle.event_rules.proofs.Common.{Actor, AllFit, Answers, Asks, AsksAs, AsksFor, AsksOf, Attempt, BacksIn, BeganIn, Begin, BeginsAt, Call, Cas, Cells, ClocksOn, Core, Ended, Falls, GoesOn, HasPoints, HoldsOn, IsAsked, IsDone, IsLawful, IsNested, IsNoMore, IsPromised, IsReady, IsResumed, IsSettledBy, IsSound, IsTied, IsWaiting, Load, MayRunOn, NestsAs, Next, NoCancel, Phase, PlayerRun, Proceeds, Ready, RenewsAs, RestsAs, Rows, Rules, SameActor, Status, StatusIs, Step, Store, TakesIn, Tells, Waits, active_of, asked, asked_began, asked_begun, asked_from, asked_open, asked_points, begins_again, begun_in, came, came_restarted, cancels_in, cells_after, cond_both, count_of, ending_of, ends_in, found, handed_is, handed_to, in_transaction, irrevocable_room, is_inside, is_ready, is_waiting, left_same, may_go, may_go_back, may_same, most, most_same, none_inside, open_in, promised_same, rank, rank_now, rank_of, reserved, reserved_least, restarted_more, restarts_left, rests as rested, revocable_back, row_open, row_same, same_Some, same_room, snapshot_from, stage_at, stage_from, stage_of, steps_left, told, told_in, total, wanted, wanted_came, wanted_same, whole}
use Rattle.event_rules.proofs.Engines.ClockHolders.{clocks_of, clocks_still, clocks_twice, freed_by}
use Rattle.event_rules.proofs.Engines.Intakes.{ClockMoves, HasTaken, in_call_of, ready_of}
use Rattle.event_rules.proofs.Engines.TiedEngines.{IsMid, hands, held_even, holds_handed, clock_same, limit_same, tied, comes}
use Rattle.event_rules.proofs.Rooms.ActionRoom.{gave_acting, registers_none}
use Rattle.event_rules.proofs.Rooms.LaterActions.{first_here}
use Rattle.norec_core.{specs.Keeps.Keeps, specs.declared.call_parts.Opening.Opening}
use Rattle.norec_core.specs.Phases as at
use Rattle.event_rules.proofs.Rooms.ActionRoom.{TakesRoom}

-- ## The clock over a step

moves_of : (cells : Cells) (e : Core) (step : Step) → IsTied cells e → IsLawful e step → ClockMoves cells (cells_after cells step) (handed_to e (Some step) (found cells step))
moves_of cells e (Load cell) t l = record { frees = λ f. absurd (true≢false (sym f ∙ freed_by e (Load cell) (found cells (Load cell)) t.settled.unfreed)); keeps = λ f. refl }
moves_of cells e (Store zero value) t l =
    let held = t.holder l.1 in
    let even = held_even e t.settled l.1 in
    let value_is = l.2.0 in
    let half : e.clock / 2 ≡ e.snapshot / 2 = ap (λ (n : ℕ). n / 2) (t.settled.holder l.1).1 in
    record { frees = λ f. ((let x : cells.clock ≡ 2 * (e.snapshot / 2) + 1 = omega arith in x), (let y : value ≡ 2 * (e.snapshot / 2) + 2 = omega arith in y)); keeps = λ f. absurd (cc) }
moves_of cells e (Store (suc word) value) t l = record { frees = λ f. absurd (true≢false (sym f ∙ t.settled.unfreed)); keeps = λ f. refl }
moves_of cells e (Cas cell from to) t l = record {
  frees = λ f. absurd (true≢false (sym f ∙ t.settled.unfreed));
  keeps = λ f. cond_both (cells.clock == from) to cells.clock (λ (n : ℕ). n / 2 ≡ cells.clock / 2) (λ h. (let same = eqb-true cells.clock from h in let even = l.4 in let up = l.6 in omega arith)) (λ h. refl);
}

-- outside a transaction a step loads the clock, or takes it
loads_clock : (cells : Cells) (e : Core) (step : Step) → IsTied cells e → IsLawful e step → in_transaction e ≡ false → (handed_to e (Some step) (found cells step)).holds ≡ false
    → ((cells_after cells step).clock ≡ cells.clock) × ((handed_to e (Some step) (found cells step)).clock ≡ (cells_after cells step).clock)
loads_clock cells e (Load zero) t l outside free = (refl, refl)
loads_clock cells e (Load (suc word)) t l outside free = absurd (true≢false (sym l.1.0 ∙ outside))
loads_clock cells e (Store cell value) t l outside free = absurd (true≢false (sym (t.settled.holder l.1).0 ∙ outside))
loads_clock cells e (Cas cell from to) t l outside free =
    let still : (if cells.clock == from then to else cells.clock) ≡ cells.clock = ap (λ (b : Bool). if b then to else cells.clock) free in
    (still, sym still)

-- ## A begin that waits for a step

module _ (new : Core) (some : new.waits ≢ None) (asks : new.waits ≡ asked new) where
  abbrev IsFine : Phase → Type 0
  IsFine stage = (stage ≡ at.Idle) ⊎ BeginsAt new stage

  -- it waits, so it is not idle
  begun_at : (stage : Phase) → new.stage ≡ stage → IsFine stage → BeginsAt new new.stage
  begun_at stage e (inl idle) = absurd (some (asks ∙ ap (asked_from new) (e ∙ idle)))
  begun_at stage e (inr begins) = subst (BeginsAt new) (sym e) begins

  begins_or_not : (b : Opening) → new.doing ≡ Some (Begin b.props b.room) → (more : Bool) → (more ≡ true → may_go new.blocks b.props ≡ true) → IsFine (if more then at.Begin b else at.Idle)
  begins_or_not b doing more may = cond_both more _ _ IsFine (λ m. inr (doing, may m)) (λ m. inl refl)

  -- once a step was done
  begun_after : (old : Core) (seen : ℕ) (stage : Phase) → BeginsAt old stage → new.doing ≡ old.doing → new.blocks ≡ old.blocks → new.stage ≡ stage_from old stage seen → new.snapshot ≡ snapshot_from old stage seen
      → ((b : Opening) → stage ≡ at.Begin b → new.clock ≡ seen) → BeginsAt new new.stage
  begun_after old seen (at.Begin b) begun doing blocks order snapshot clock =
      let may = ap (λ (bs : _). may_go bs b.props) blocks ∙ begun.1 in
      begun_at _ order (cond_both (seen % 2 == 0) _ _ IsFine
      (λ even. cond_both b.props.goes_irrevocable _ _ IsFine (λ goes. cond_both (nat_lt (seen / 2) old.max_commits) _ _ IsFine
      (λ few. inr (doing ∙ begun.0, may, clock b refl ∙ sym (snapshot ∙ ap (λ (x : Bool). if x then seen else old.snapshot) even))) (λ full. inl refl)) (λ stays. inl refl))
      (λ odd. begins_or_not b (doing ∙ begun.0) (nat_lt old.tries old.patience) (λ m. may)))
  begun_after old seen (at.Take b) begun doing blocks order snapshot clock =
      let may = ap (λ (bs : _). may_go bs b.props) blocks ∙ begun.1 in
      begun_at _ order (cond_both (seen == old.snapshot) _ _ IsFine (λ taken. inl refl) (λ lost. begins_or_not b (doing ∙ begun.0) (nat_lt old.tries old.patience) (λ m. may)))
  begun_after old seen stage begun doing blocks order snapshot clock = absurd begun

  -- as a call comes
  begun_shut : (c : Core) (call : Call) (again : Bool) → new.doing ≡ Some call → new.blocks ≡ [] → new.stage ≡ stage_at (record c { blocks = [] }) call again → BeginsAt new new.stage
  begun_shut c (Begin props room) again doing none e =
      begun_at _ e (begins_or_not (record { props = props; room = room; again = again }) doing (may_go [] props) (λ m. ap (λ (bs : _). may_go bs props) none ∙ m))
  begun_shut c call again doing none e = begun_at at.Idle e (inl refl)

  begun_call : (c : Core) (call : Call) (again : Bool) → in_transaction c ≡ false → new.doing ≡ Some call → new.blocks ≡ c.blocks → new.stage ≡ stage_at c call again → BeginsAt new new.stage
  begun_call c call again shut doing blocks e =
      let none = none_inside c.blocks shut in
      begun_shut c call again doing (blocks ∙ none) (e ∙ (λ i. stage_at (record c { blocks = none i }) call again))

-- what waits for a step has not been answered
asks_step : (mid new : Core) (what : Next) → Proceeds mid what new → new.waits ≢ None → (new.blocks ≡ mid.blocks) × (new.doing ≡ mid.doing)
asks_step mid new (Asks step) g some = (ap (λ (c : Core). c.blocks) g.stays, ap (λ (c : Core). c.doing) g.stays)
asks_step mid new (Answers a) g some = absurd (some (rested mid new a g).idle)

-- ## The step

-- the step that the actor waited for was done, and its engine went on with what was found; nothing is recorded of that
pub record IsStepping {P : Type 0} (rules : Rules P) (cells : Cells) (r : Rows) (old : Actor P) (call : Call) (what : Next) (cells' : Cells) (new : Core) : Type 0 where
  pub sound : IsSound rules cells r old
  pub step : Step
  pub waiting : old.status ≡ Waits call step
  pub cells_are : cells' ≡ cells_after cells step
  pub fit : AllFit cells'.words
  pub resumed : IsResumed old.engine (found cells step) what new

module _ {P : Type 0} {rules : Rules P} {cells : Cells} {r : Rows} {old : Actor P} {call : Call} {what : Next} {cells' : Cells} {new : Core} (m : IsStepping rules cells r old call what cells' new) where
  -- the engine with the value
  abbrev pub mid_step : Core
  mid_step = handed_to old.engine (Some m.step) (found cells m.step)

  pub waits : IsWaiting rules old call m.step
  waits = subst (StatusIs rules old) m.waiting m.sound.status

  pub went : Proceeds (handed_to old.engine (Some m.step) (found cells m.step)) what new
  went = subst (λ (o : Option Step). Proceeds (handed_to old.engine o (found cells m.step)) what new) waits.waits m.resumed.proceeds

  pub same : Keeps old.engine (handed_to old.engine (Some m.step) (found cells m.step))
  same = (handed_is old.engine m.step (found cells m.step)).keeps

  is_mid : IsMid cells' (handed_to old.engine (Some m.step) (found cells m.step)) new
  is_mid =
      subst (λ (c : Cells). IsMid c mid_step new) (sym m.cells_are)
      (hands cells old.engine new m.sound.tied m.resumed.settled m.step waits.lawful (subst (λ (c : Cells). AllFit c.words) m.cells_are m.fit))

  pub moves : ClockMoves cells cells' (handed_to old.engine (Some m.step) (found cells m.step))
  moves = subst (λ (c : Cells). ClockMoves cells c mid_step) (sym m.cells_are) (moves_of cells old.engine m.step m.sound.tied waits.lawful)

  -- a begin that goes on
  step_begun : new.waits ≢ None → in_transaction new ≡ false → BeginsAt new new.stage
  unfolding waits
  step_begun some shut =
      let went_on = asks_step mid_step new what went some in
      let blocks : new.blocks ≡ old.engine.blocks = went_on.0 ∙ same.blocks in
      let seen = found cells m.step in
      begun_after new some m.resumed.asks old.engine seen old.engine.stage (waits.begun (sym (ap is_inside blocks) ∙ shut)) (went_on.1 ∙ same.doing) blocks m.resumed.order m.resumed.snapshot
      (λ b is. (let loads : m.step ≡ Load zero = same_Some _ _ (sym waits.waits ∙ (waits.asks ∙ ap (asked_from old.engine) is)) in
      (clock_same mid_step new what went).1 ∙ subst (λ (s : Step). (handed_to old.engine (Some s) (found cells s)).clock ≡ found cells s) (sym loads) refl))

  -- nor does it want more or less room
  same_wants : wanted (handed_to old.engine (Some m.step) (found cells m.step)) ≡ wanted old.engine
  same_wants = wanted_same (handed_to old.engine (Some m.step) (found cells m.step)) old.engine same.depth same.blocks same.irrevocable same.doing

  pub step_taken : (status : Status) → status ≡ Ready → HasTaken rules (in_transaction old.engine) cells cells' r (handed_to old.engine (Some m.step) (found cells m.step)) (record old { engine = new; status = status }) call what
  step_taken status ready =
      let k = m.sound.kept in
      let inside : in_transaction mid_step ≡ in_transaction old.engine = ap is_inside same.blocks in
      let doing : mid_step.doing ≡ Some call = same.doing ∙ waits.doing in
      record {
        was_is = inside;
        proceeds = went;
        doing = doing;
        words = is_mid.words;
        tied = tied cells' mid_step new what is_mid went;
        within = m.resumed.count;
        kept = record { row = row_same (in_transaction old.engine) old (record old { engine = new; status = status }) refl refl k.row; tried = k.tried; tries = k.tries; retries = k.retries };
        first = first_here old mid_step new call what (in_transaction old.engine) inside k.row doing went (λ row e. m.sound.acts.all row e ∙ ap (λ (x : _). length x.ran) (sym same.actions));
        few = λ row e. (let f = m.sound.acts.few row e in let n = same.restarted in let more = restarted_more mid_step new what m.resumed.settled went in omega arith);
        began = m.sound.acts.began;
        points = waits.points;
        nested = waits.nested;
        depth = waits.depth ∙ ap length (sym same.blocks);
        in_call = in_call_of new status waits.in_call;
        place = λ row e. (let least = (subst (IsPromised old) m.waiting m.sound.acts.backed row e).least in let same = same_wants in omega arith);
        pending = λ row e. (subst (AsksAs old) m.waiting m.sound.acts.asks).pending row e ∙ sym same_wants;
        ready = ready;
        room = m.sound.place;
        moves = moves;
        empty = λ e. same.writes ∙ (m.sound.tied.settled.closed e).1;
        asks = m.resumed.asks;
        begun = step_begun;
        outside = λ e free. (let l = loads_clock cells old.engine m.step m.sound.tied waits.lawful e free in (ap (λ (c : Cells). c.clock) m.cells_are ∙ l.0, inl (l.1 ∙ ap (λ (c : Cells). c.clock) (sym m.cells_are))));
      }

  -- the room for a block that runs again is that which was there
  renews_still : TakesRoom what → may_go_back (handed_to old.engine (Some m.step) (found cells m.step)) ≡ true → BacksIn (length (handed_to old.engine (Some m.step) (found cells m.step)).arena) (total (handed_to old.engine (Some m.step) (found cells m.step)).actions) old.run.current
  renews_still takes may =
      let before : may_go_back old.engine ≡ true = may_same old.engine mid_step (sym same.restarted) (sym same.restarts) (sym same.irrevocable) (sym same.blocks) ∙ may in
      let had = subst (RenewsAs old) m.waiting m.sound.acts.renews before in
      let long = ap (length {A = ℕ}) (sym (same.arena (revocable_back old.engine before))) in
      let all = ap total (sym same.actions) in
      subst (λ (n : ℕ). BacksIn n (total mid_step.actions) old.run.current) long (subst (λ (n : ℕ). BacksIn (length old.engine.arena) n old.run.current) all had)

  -- nothing of the actions is lost
  pub step_acts : (status : Status) → status ≡ Ready → MayRunOn (record old { engine = new; status = status }) call what
  step_acts status ready =
      let acts = m.sound.acts in
      let plain = subst NoCancel m.waiting acts.status in
      let asks = subst (AsksAs old) m.waiting acts.asks in
      let same_actions : (handed_to old.engine (Some m.step) (found cells m.step)).actions ≡ old.engine.actions = same.actions in
      let inside : in_transaction (handed_to old.engine (Some m.step) (found cells m.step)) ≡ in_transaction old.engine = ap is_inside same.blocks in
      gave_acting (record old { engine = new; status = status }) (handed_to old.engine (Some m.step) (found cells m.step)) call (in_transaction old.engine) inside (row_same (in_transaction old.engine) old (record old { engine = new; status = status }) refl refl m.sound.kept.row) (same.doing ∙ waits.doing)
      (λ row e. acts.all row e ∙ ap (λ (x : _). length x.ran) (sym same_actions)) (λ row e. (let f = acts.few row e in let n = same.restarted in omega arith)) (subst (λ (s : Status). NestsAs s old.run.current) m.waiting acts.nests) acts.began
      (λ row e. (let p = acts.places row e in let n = registers_none call plain.1 in let t = ap total same_actions in omega arith)) (λ row e abort. absurd (let both : false ≡ true = sym plain.0 ∙ abort in cc)) acts.pending
      (same_room old.engine (handed_to old.engine (Some m.step) (found cells m.step)) (ends_in old.run.current) (cancels_in old.run.current) (sym same.depth) (sym same.blocks) (sym same.irrevocable) (sym same.doing) (sym same.room) (sym same.actions) acts.room)
      (λ row e. (let p = subst (IsPromised old) m.waiting acts.backed row e in let least = p.least in let most = p.most in let w = same_wants in let n = promised_same (handed_to old.engine (Some m.step) (found cells m.step)) old.engine same.irrevocable same.room in record { least = omega arith; most = omega arith }))
      (λ row e. asks.pending row e ∙ sym same_wants) (let k = asks.backed in let n = same.room in let l = same_wants in omega arith) m.resumed.settled what went renews_still (λ shut. (let none = (m.sound.tied.settled.closed (sym inside ∙ shut)) in (ap (λ (x : _). x.commits) same_actions ∙ none.2, ap (λ (x : _). x.undos) same_actions ∙ none.3))) (λ step e. plain)

  -- what becomes of the clock, as the others see it
  pub step_clocks : (last : Core) → last ≡ new → ClocksOn cells old.engine cells' last
  step_clocks last is =
      let taken = subst (λ (c : Cells). HoldsOn cells old.engine c mid_step) (sym m.cells_are) (holds_handed cells old.engine m.step m.sound.tied waits.lawful) in
      let kept = limit_same mid_step new what went in
      clocks_twice cells cells' cells' old.engine mid_step last (clocks_of cells cells' old.engine mid_step taken (λ h. (let held = is_mid.holder h in let even = is_mid.even h in omega arith)))
      (clocks_still cells' mid_step last (ap (λ (c : Core). c.holds) is ∙ (clock_same mid_step new what went).2) (ap (λ (c : Core). c.clock) is ∙ (clock_same mid_step new what went).1) (ap (λ (c : Core). c.max_commits) is ∙ kept.0, ap (λ (c : Core). c.patience) is ∙ kept.1, ap (λ (c : Core). c.depth) is ∙ kept.2, ap (λ (c : Core). c.restarts) is ∙ kept.3))

  -- the value came to the engine, and what came of it was taken up
  pub takes_in : (status : Status) → status ≡ Ready → {r' : Rows} (recorded last : Actor P) → recorded.engine ≡ new → Tells rules r r' (record old { engine = new; status = status }) recorded call what
      → last ≡ told recorded → SameActor old last → TakesIn rules cells r old r' last
  takes_in status ready {r'} recorded last engine tells is_told of_same =
      let engine_is : last.engine ≡ new = ap (λ (x : Actor P). x.engine) is_told ∙ engine in
      let told_so = subst (λ (e : Core). Tells rules r r' (record old { engine = e; status = Ready }) recorded call what) (sym engine_is)
      (subst (λ (s : Status). Tells rules r r' (record old { engine = new; status = s }) recorded call what) ready tells) in
      record { call = call; step = m.step; waits = m.waiting; what = what; resumed = subst (IsResumed old.engine (found cells m.step) what) (sym engine_is) m.resumed; recorded = recorded; tells = told_so; moves = is_told; same = of_same }

  -- nor has the number of restarts that are left, as the value came
  pub step_left : restarts_left (handed_to old.engine (Some m.step) (found cells m.step)) ≡ restarts_left old.engine
  step_left = left_same mid_step old.engine (ap is_inside same.blocks) same.restarts (λ o. same.restarted)

-- the call goes on, with fewer steps left
module _ {P : Type 0} {rules : Rules P} {cells : Cells} {r : Rows} {old : Actor P} {call : Call} {cells' : Cells} {new : Core} {step : Step} (m : IsStepping rules cells r old call (Asks step) cells' new) where
  pub step_goes_on : GoesOn rules old (record old { engine = new; status = Waits call step })
  step_goes_on =
      let asks : AsksFor (mid_step m) step new = went m in
      let kept = same m in
      let opens : in_transaction old.engine ≡ in_transaction new = sym (ap in_transaction asks.stays ∙ ap is_inside kept.blocks) in
      let spent : new.spent ≡ old.engine.spent + 1 = ap (λ (c : Core). c.spent) asks.stays ∙ ap (λ (n : ℕ). n + 1) (handed_is old.engine m.step (found cells m.step)).spent in
      let most_is : most new new.doing ≡ most old.engine old.engine.doing = ap (λ (c : Core). most c c.doing) asks.stays ∙ (ap (most (mid_step m)) kept.doing ∙ most_same old.engine (mid_step m) kept old.engine.doing) in
      let enough : new.spent ≤ most new new.doing = m.resumed.count (λ e. absurd (let f : Some step ≡ None = sym (ap (λ (c : Core). c.waits) asks.stays) ∙ e in cc)) in
      record {
        steps = (let fewer : steps_left new < steps_left old.engine = omega arith in fewer);
        less = record {
          whole_falls = (let e : whole rules (in_transaction old.engine) old.run.player ≡ whole rules (in_transaction new) old.run.player = ap (λ (b : Bool). whole rules b old.run.player) opens in omega arith);
          rank_falls = λ n b.
              (let most : old.engine.restarts ≡ new.restarts = sym (ap (λ (c : Core). c.restarts) asks.stays ∙ kept.restarts) in
              let left : restarts_left old.engine ≡ restarts_left new = sym (left_same new (mid_step m) (ap in_transaction asks.stays) (ap (λ (c : Core). c.restarts) asks.stays) (λ o. ap (λ (c : Core). c.restarted) asks.stays) ∙ step_left m) in
              let e : rank_now rules n old ≡ rank_now rules n (record old { engine = new; status = Waits call step }) = λ i. rank_of rules old.run.retries (most i) n (opens i) old.run.nth (left i) old.run.player in
              omega arith);
        };
      }

-- the same, with the value that was found by a name of its own
pub stepping : {P : Type 0} {rules : Rules P} {cells : Cells} {r : Rows} {old : Actor P} {call : Call} {step : Step} {what : Next} {cells' : Cells} {new : Core} {seen : ℕ} → IsSound rules cells r old → old.status ≡ Waits call step → seen ≡ found cells step
    → cells' ≡ cells_after cells step → AllFit cells'.words → IsResumed old.engine seen what new → IsStepping rules cells r old call what cells' new
stepping {old} {step} {what} {new} sound waiting seen_is cells_are fit resumed =
    record { sound = sound; step = step; waiting = waiting; cells_are = cells_are; fit = fit; resumed = subst (λ (n : ℕ). IsResumed old.engine n what new) seen_is resumed }

-- ## What is left to do

module _ {P : Type 0} {rules : Rules P} {cells : Cells} {r : Rows} {old : Actor P} {call : Call} {what : Next} {cells' : Cells} {new : Core} (m : IsStepping rules cells r old call what cells' new) (status : Status) (ready : status ≡ Ready)
    (r1 : Rows) (last : Actor P) (done : IsDone rules (in_transaction old.engine) (restarts_left (mid_step m)) r r1 (record old { engine = new; status = status }) last call what) where
  -- an actor that has settled does not wait
  rests_not : {A : Type 0} (st : Status) → RestsAs rules st last → is_waiting st ≡ true → A
  rests_not (Waits c step) rest e = absurd rest
  rests_not st rest e = absurd (cc)

  -- the call goes on, or less is left
  pub step_lasts : (is_waiting last.status ≡ true → GoesOn rules old last) × (is_ready last.status ≡ true → Falls rules (in_transaction old.engine) (in_transaction last.engine) (restarts_left old.engine) (restarts_left last.engine) old last)
  step_lasts = by_what what m done
    where
      by_what : (x : Next) → IsStepping rules cells r old call x cells' new → IsDone rules (in_transaction old.engine) (restarts_left (mid_step m)) r r1 (record old { engine = new; status = status }) last call x
          → (is_waiting last.status ≡ true → GoesOn rules old last) × (is_ready last.status ≡ true → Falls rules (in_transaction old.engine) (in_transaction last.engine) (restarts_left old.engine) (restarts_left last.engine) old last)
      by_what (Asks step) m done = (λ w. subst (GoesOn rules old) (sym done.0) (step_goes_on m), λ e. absurd (let z = sym (ap (λ (y : Actor P). is_ready y.status) done.0) ∙ e in cc))
      by_what (Answers answer) t done = (
        λ w. rests_not last.status done.rests w,
        λ e.
            (let f = done.falls (ready_of last.status e) in
            let most = (limit_same (mid_step t) new (Answers answer) (went t)).3 ∙ (same t).restarts in
            record {
              whole_falls = f.whole_falls;
              rank_falls = λ n b.
                  (let now = f.rank_falls n b in
                  let e : rank rules n (in_transaction old.engine) (restarts_left (mid_step m)) (record old { engine = new; status = status }) ≡ rank rules n (in_transaction old.engine) (restarts_left old.engine) old = λ i. rank_of rules old.run.retries (most i) n (in_transaction old.engine) old.run.nth (step_left m i) old.run.player in
                  omega arith);
            }),
      )

-- ## A call

-- an actor that was ready had room made for a call, which then went to its engine; nothing is recorded of that
pub record IsCalling {P : Type 0} (rules : Rules P) (cells : Cells) (r0 r : Rows) (old a : Actor P) (call : Call) (what : Next) : Type 0 where
  pub sound : IsSound rules cells r0 old
  pub ready : old.status ≡ Ready
  pub asked : IsAsked rules old a call what
  pub asks : AsksOf cells.clock r0 r old a call what
  pub place : count_of a ≤ r.room

-- between two calls
pub rests : {P : Type 0} {rules : Rules P} {cells : Cells} {r : Rows} {a : Actor P} → IsSound rules cells r a → a.status ≡ Ready → IsReady rules a
rests {rules} {r} {a} sound ready = subst (StatusIs rules a) ready sound.status

module _ {P : Type 0} {rules : Rules P} {cells : Cells} {r0 r : Rows} {old a : Actor P} {call : Call} {what : Next} (m : IsCalling rules cells r0 r old a call what) where
  -- the engine with the call
  abbrev pub mid : Core
  mid = came old.engine call (begins_again (stage_of old.run.current) old.run.again call)

  -- its open one is that of before, with room for the call and what it asks for
  pub asked_row : (row : Attempt) → active_of a ≡ Some row → (was : Attempt) × (active_of old ≡ Some was) × (row ≡ record was { calls = reserved was.calls (unwrap_or (irrevocable_room old.engine call) 0 + 1) })
  asked_row row e = asked_open cells.clock old call (stage_of old.run.current) row (sym (ap open_in m.asks.stage) ∙ e)

  pub player_same : a.run.player ≡ old.run.player
  player_same = ap (λ (x : PlayerRun P). x.player) m.asks.run

  pub call_taken : HasTaken rules (in_transaction old.engine) cells cells r (came old.engine call (begins_again (stage_of old.run.current) old.run.again call)) a call what
  call_taken =
      let ready = rests m.sound m.ready in
      let again = begins_again (stage_of old.run.current) old.run.again call in
      let wants = wanted_came old.engine call again in
      let called = m.asks.called in
      record {
        was_is = refl;
        proceeds = called.proceeds;
        doing = refl;
        words = m.sound.tied.words;
        tied = tied cells mid a.engine what (comes cells old.engine a.engine m.sound.tied called.settled call again) called.proceeds;
        within = called.count;
        kept = m.asked.kept;
        first = first_here a mid a.engine call what (in_transaction old.engine) refl m.asked.kept.row refl called.proceeds (λ row e. (let was = asked_row row e in ap told_in was.2 ∙ m.sound.acts.all was.0 was.1));
        few = λ row e.
            (let was = asked_row row e in
            let f = m.sound.acts.few was.0 was.1 in
            let n = ap (λ (x : Attempt). length x.restarts) was.2 in
            let same = came_restarted old.engine call again (row_open _ old was.0 m.sound.kept.row was.1) in
            let more = restarted_more mid a.engine what called.settled called.proceeds in
            omega arith);
        began = subst BeganIn (sym m.asks.stage) (asked_began cells.clock old call (stage_of old.run.current) m.sound.acts.began);
        points = subst (λ (p : P). HasPoints (rules.depth p) (stage_of a.run.current)) (sym player_same) (subst (HasPoints (rules.depth old.run.player)) (sym m.asks.stage) (asked_points cells.clock old call (rules.depth old.run.player) (stage_of old.run.current) ready.points));
        nested = subst (IsNested rules (in_transaction old.engine)) (sym player_same) ready.nested;
        depth = ap rules.depth player_same ∙ ready.depth;
        in_call = m.asked.in_call;
        place = λ row e. (let was = asked_row row e in let more = reserved_least was.0.calls (unwrap_or (irrevocable_room old.engine call) 0) in let n = ap (λ (x : Attempt). x.calls.room) was.2 in let w = wants in omega arith);
        pending = λ row e. ap (λ (x : Attempt). x.calls.room) (asked_begun cells.clock old call (stage_of old.run.current) row ready.nothing (sym (ap begun_in m.asks.stage) ∙ e)).3 ∙ sym wants;
        ready = m.asked.status ∙ m.ready;
        room = m.place;
        moves = record { frees = λ f. absurd (cc); keeps = λ f. refl };
        empty = λ o. (m.sound.tied.settled.closed o).1;
        asks = called.asks;
        begun = λ some shut. (let went_on = asks_step mid a.engine what called.proceeds some in begun_call a.engine some called.asks old.engine call again (sym (ap is_inside went_on.0) ∙ shut) went_on.1 went_on.0 called.order);
        outside = λ o free. (refl, inr called.at_once);
      }

  -- nor does the number of restarts that are left, or what is left at all

  pub same_rank : (n : ℕ) → rank rules n (in_transaction old.engine) (restarts_left (came old.engine call (begins_again (stage_of old.run.current) old.run.again call))) a ≡ rank rules n (in_transaction old.engine) (restarts_left old.engine) old
  same_rank n =
      let most = (limit_same mid a.engine what m.asks.called.proceeds).3 in
      let left : restarts_left mid ≡ restarts_left old.engine = left_same mid old.engine refl refl (λ o. came_restarted old.engine call (begins_again (stage_of old.run.current) old.run.again call) o) in
      λ i. rank_of rules (ap (λ (x : PlayerRun P). x.retries) m.asks.run i) (most i) n (in_transaction old.engine) (ap (λ (x : PlayerRun P). x.nth) m.asks.run i) (left i) (player_same i)

  module _ {last : Actor P} (s : IsSettledBy rules (in_transaction old.engine) (restarts_left (came old.engine call (begins_again (stage_of old.run.current) old.run.again call))) a last) where
    -- what comes of an answer is as if the actor had not changed before
    pub answer_falls : last.status ≡ Ready → Falls rules (in_transaction old.engine) (in_transaction last.engine) (restarts_left old.engine) (restarts_left last.engine) old last
    answer_falls e =
        let f = s.falls e in
        record {
          whole_falls = subst (λ (p : P). whole rules (in_transaction last.engine) last.run.player ≤ whole rules (in_transaction old.engine) p) player_same f.whole_falls;
          rank_falls = λ n b. subst (λ (x : ℕ). rank_now rules n last < x) (same_rank n)
              (f.rank_falls n (subst (λ (p : P). whole rules (in_transaction old.engine) p ≤ n) (sym player_same) b));
        }

    pub call_less : ending_of last.status ≡ None → IsNoMore rules old last
    call_less e = of_status last.status refl s.rests e
      where
        of_status : (x : Status) → last.status ≡ x → RestsAs rules x last → ending_of x ≡ None → IsNoMore rules old last
        of_status Ready is rest e = let f = answer_falls is in record { whole_falls = f.whole_falls; rank_falls = λ n b. (let x = f.rank_falls n b in omega arith) }
        of_status (Waits c step) is rest e = absurd rest
        of_status (Ended end) is rest e = absurd (cc)

-- the same, where what the engine gave has another name
pub calling : {P : Type 0} {rules : Rules P} {cells : Cells} {r0 r : Rows} {old a : Actor P} {call : Call} {given what : Next} → IsSound rules cells r0 old → old.status ≡ Ready → given ≡ what → IsAsked rules old a call given → AsksOf cells.clock r0 r old a call given → count_of a ≤ r.room
    → IsCalling rules cells r0 r old a call what
calling {rules} {cells} {r0} {r} {old} {a} {call} sound ready is asked asks place = record { sound = sound; ready = ready; asked = subst (IsAsked rules old a call) is asked; asks = subst (AsksOf cells.clock r0 r old a call) is asks; place = place }
