-- An engine between two calls.
use Rattle.std.proofs.Common.{◌≡◌, ℕ, zero, suc, Bool, true, false, Some, refl, sym, ap, subst, ◌∙◌, if◌then◌else◌}
use Rattle.world_laws.proofs.Common.{Actor, Acts, ActsOn, Answers, Asks, Call, Cells, Core, End, HasStarted, IsEvent, IsIdle, Next, Ready, Rows, Rules, Status, TakesIn, Tells, Waits, calls, ending_of, finishes, is_waiting, starves}
use Rattle.world_rules.proofs.Common.{Proceeds, rests}
use Rattle.norec_core.{specs.Phases.Idle, specs.Core.rolled_back}

-- ## An event

module _ {P : Type 0} (rules : Rules P) where
  -- the call waits for a step, or is answered
  idle_told : (r r' : Rows) (old new : Actor P) (call : Call) (what : Next) (mid engine : Core) → Tells rules r r' old new call what → Proceeds mid what engine → is_waiting new.status ≡ false → IsIdle engine
  idle_told r r' old new call (Asks step) mid engine t g n = absurd (let both : false ≡ true = sym n ∙ ap (λ (a : Actor P). is_waiting a.status) t.0 in cc)
  idle_told r r' old new call (Answers answer) mid engine t g n = (let r = rests mid engine answer g in (r.idle, r.holds))

  idle_acts : (clock : ℕ) (r : Rows) (a : Actor P) (r' : Rows) (a' : Actor P) → IsIdle a.engine → Acts rules clock r a r' a' → is_waiting a'.status ≡ false → IsIdle a'.engine
  idle_acts clock r a r' a' i (calls c) n = subst IsIdle (sym c.engine) (idle_told c.rows r' c.asked a' c.call c.what _ c.asked.engine c.tells c.asks.called.proceeds n)
  idle_acts clock r a r' a' i (finishes f) n = subst IsIdle (sym (ap (λ (x : Actor P). x.engine) f.actor)) i
  idle_acts clock r a r' a' i (starves s) n = subst IsIdle (sym s.engine) (elim a.engine.holds as (λ (b : Bool). IsIdle (if b then a.engine else record (rolled_back a.engine) { stage = Idle; tries = 0 })) [ true ↦ i | false ↦ (refl, refl) ])

  idle_works : (clock n : ℕ) (r : Rows) (a : Actor P) (r' : Rows) (a' : Actor P) → (is_waiting a.status ≡ false → IsIdle a.engine) → ActsOn rules clock n r a r' a' → is_waiting a'.status ≡ false → IsIdle a'.engine
  idle_works clock zero r a r' a' i w n = subst (λ (x : Actor P). IsIdle x.engine) (sym w.1) (i (ap (λ (x : Actor P). is_waiting x.status) (sym w.1) ∙ n))
  idle_works clock (suc k) r a r' a' i w n = idle_acts clock w.0 w.1 r' a' (idle_works clock k r a w.0 w.1 i w.2 (ap is_waiting w.3)) w.4 n

  idle_took : (cells : Cells) (r : Rows) (a : Actor P) (r' : Rows) (a' : Actor P) → TakesIn rules cells r a r' a' → is_waiting a'.status ≡ false → IsIdle a'.engine
  idle_took cells r a r' a' t n = idle_told r r' (record a { engine = a'.engine; status = Ready }) t.recorded t.call t.what _ a'.engine t.tells t.resumed.proceeds (ap (λ (x : Actor P). is_waiting x.status) (sym t.moves) ∙ n)

  -- after an event, unless the actor waits
  pub idle_event : {cells : Cells} {r : Rows} {a : Actor P} {cells' : Cells} {r' : Rows} {a' : Actor P} → IsEvent rules cells r a cells' r' a' → is_waiting a'.status ≡ false → IsIdle a'.engine
  idle_event {cells} {r} {a} {cells'} {r'} {a'} e n = idle_works cells'.clock e.works.0 e.rows e.stepped r' a' (idle_took cells r a e.rows e.stepped e.takes) e.works.1 n

  -- and before the first one
  pub idle_started : {clock : ℕ} {engine : Core} {retries place : ℕ} {p : P} {a : Actor P} → HasStarted rules clock engine retries place p a → IsIdle engine → is_waiting a.status ≡ false → IsIdle a.engine
  idle_started {clock} {engine} {retries} {place} {p} {a} h i n = idle_works clock h.works.0 h.rows h.fresh h.rows' a (λ f. subst IsIdle (sym h.engine_is) i) h.works.1 n

pub ended_still : (s : Status) (e : End) → ending_of s ≡ Some e → is_waiting s ≡ false
ended_still (Waits call step) e is = absurd (cc)
ended_still s e is = refl
