-- Two actors that are alike are alike after a step, and after a call of their players.
use Rattle.std.proofs.Common.{◌≡◌, ℕ, ◌/◌, Some, unwrap_or, refl, sym, ap, subst, ◌∙◌}
use Rattle.world_laws.proofs.Common.{Actor, AreAlike, Call, Calls, Cells, Core, Next, Ready, Rows, Rules, Step, TakesIn, Tally, Tells, Waits, begins_again, came, found, irrevocable_room, stage_of, tally_of, told}
use Rattle.world_rules.proofs.Common.{IsResumed}
use Rattle.norec_core.{specs.Moves.IsCalled, proofs.Replies.Outcomes.called_once, proofs.Replies.Outcomes.resumed_once}
use Rattle.world_laws.proofs.Likeness.Answers.{GoAlike, told_alike, told_same}

-- ## A step

module _ {P : Type 0} (rules : Rules P) (cells : Cells) (r s r' s' : Rows) (a b a' b' : Actor P) (k : AreAlike a b)
    (t : TakesIn rules cells r a r' a') (u : TakesIn rules cells s b s' b') where
  waiting : Waits t.call t.step ≡ Waits u.call u.step
  waiting = sym t.waits ∙ (k.status ∙ u.waits)

  step_same : t.step ≡ u.step
  step_same = let e = waiting in cc

  call_same : t.call ≡ u.call
  call_same = let e = waiting in cc

  resumed : IsResumed a.engine (found cells t.step) u.what b'.engine
  resumed = subst (λ (x : Step). IsResumed a.engine (found cells x) u.what b'.engine) (sym step_same) (subst (λ (e : Core). IsResumed e (found cells u.step) u.what b'.engine) (sym k.engine) u.resumed)

  one : (t.what ≡ u.what) × (a'.engine ≡ b'.engine)
  one = resumed_once a.engine (found cells t.step) t.what u.what a'.engine b'.engine t.resumed resumed

  tells : Tells rules s s' (record b { engine = b'.engine; status = Ready }) u.recorded t.call t.what
  tells = subst (λ (w : Next). Tells rules s s' (record b { engine = b'.engine; status = Ready }) u.recorded t.call w) (sym one.0)
      (subst (λ (c : Call). Tells rules s s' (record b { engine = b'.engine; status = Ready }) u.recorded c u.what) (sym call_same) u.tells)

  -- what is told last
  before_told : {A : Type 0} (f : Actor P → A) → f a' ≡ f b' → f (told t.recorded) ≡ f (told u.recorded)
  before_told f e = sym (ap f t.moves) ∙ (e ∙ ap f u.moves)

  pub step_alike : GoAlike r s r' s' a' b'
  step_alike =
      let x = told_alike rules r s r' s' (record a { engine = a'.engine; status = Ready }) (record b { engine = b'.engine; status = Ready }) t.recorded u.recorded
      (record { thread = k.thread; retries = k.retries; tally = k.tally; engine = one.1; status = refl })
      (before_told (λ y. y.run.thread) (t.same.thread ∙ (k.thread ∙ sym u.same.thread))) (before_told (λ y. y.run.retries) (t.same.retries ∙ (k.retries ∙ sym u.same.retries))) (before_told (λ y. y.engine) one.1)
      t.call t.what t.tells tells in
      record {
        alike = subst (λ (y : Actor P). AreAlike y b') (sym t.moves) (subst (AreAlike _) (sym u.moves) (told_same t.recorded u.recorded x.alike));
        ended = x.ended;
      }

-- ## A call

module _ {P : Type 0} (rules : Rules P) (clock : ℕ) (r s r' s' : Rows) (a b a' b' : Actor P) (k : AreAlike a b)
    (f : Calls rules clock r a r' a') (g : Calls rules clock s b s' b') where
  request_same : f.call ≡ g.call
  request_same = let e : Some f.call ≡ Some g.call = sym f.next_is ∙ ((λ i. rules.next_call (k.tally i).player) ∙ g.next_is) in cc

  called : IsCalled a.engine f.call (begins_again (stage_of a.run.current) a.run.again f.call) g.what g.asked.engine
  called = subst (λ (c : Call). IsCalled a.engine c (begins_again (stage_of a.run.current) a.run.again c) g.what g.asked.engine) (sym request_same)
      (subst (λ (t : Tally P). IsCalled a.engine g.call (begins_again t.stage t.again g.call) g.what g.asked.engine) (sym k.tally)
      (subst (λ (e : Core). IsCalled e g.call (begins_again (stage_of b.run.current) b.run.again g.call) g.what g.asked.engine) (sym k.engine) g.asks.called))

  outcome : (f.what ≡ g.what) × (f.asked.engine ≡ g.asked.engine)
  outcome = called_once a.engine f.call (begins_again (stage_of a.run.current) a.run.again f.call) f.what g.what f.asked.engine g.asked.engine f.asks.called called

  -- the tally once the call has come
  asked_tally : (x : Actor P) (y : Rows) (x' : Actor P) (y' : Rows) (h : Calls rules clock y x y' x') → tally_of h.asked.run ≡ came x.run.thread (clock / 2) x.engine.arena (unwrap_or (irrevocable_room x.engine h.call) 0) (tally_of x.run) h.call
  asked_tally x y x' y' h = λ i. record { player = (h.asks.run i).player; nth = (h.asks.run i).nth; again = (h.asks.run i).again; stage = h.asks.stage i }

  asked_alike : AreAlike f.asked g.asked
  asked_alike = record {
    thread = (λ i. (f.asks.run i).thread) ∙ (k.thread ∙ (λ i. (sym g.asks.run i).thread));
    retries = (λ i. (f.asks.run i).retries) ∙ (k.retries ∙ (λ i. (sym g.asks.run i).retries));
    tally = asked_tally a r a' r' f
        ∙ ((λ i. came (k.thread i) (clock / 2) (k.engine i).arena (unwrap_or (irrevocable_room (k.engine i) (request_same i)) 0) (k.tally i) (request_same i)) ∙ sym (asked_tally b s b' s' g));
    engine = outcome.1;
    status = f.ready ∙ sym g.ready;
  }

  pub call_alike : GoAlike r s r' s' a' b'
  call_alike =
      let x = told_alike rules f.rows g.rows r' s' f.asked g.asked a' b' asked_alike (f.same.thread ∙ (k.thread ∙ sym g.same.thread)) (f.same.retries ∙ (k.retries ∙ sym g.same.retries))
      (f.engine ∙ (outcome.1 ∙ sym g.engine)) f.call f.what f.tells (subst (λ (w : Next). Tells rules g.rows s' g.asked b' f.call w) (sym outcome.0) (subst (λ (c : Call). Tells rules g.rows s' g.asked b' c g.what) (sym request_same) g.tells)) in
      record { alike = x.alike; ended = λ e. x.ended (f.asks.ended ∙ (e ∙ sym g.asks.ended)) }
