-- From step to step of a call.
use Rattle.std.proofs.Common.{◌≡◌, ℕ, zero, suc, ◌+◌, ◌/◌, ◌<◌, ◌≤◌, Bool, true, false, Option, None, Some, IsSome, slice_get, refl, sym, ap, subst, ◌∙◌, arith}
use Rattle.call_rules.proofs.Common.{Answer, Answers, Asks, Busy, Call, Cas, Conflict, Core, Ends, EndsSo, Fits, FitsStep, Got, Idle, InCall, IsCalled, IsDue, IsEnding, IsLawful, IsOpening, IsOver, IsPatient, IsResumed, IsTied, Lawful, Load, Next, Phase, Proceeds, Stands, Start, Step, StepTells, Store, View, WasFound, asked_from, came, cell_of, ending_after, ending_from, handed_is, handed_to, held_words, in_transaction, is_inside, left, most, most_same, pending, rests, stage_from}
use Rattle.itm_types.specs.declared.limits.TheConstants.{MAX_COMMITS}
use Rattle.call_rules.proofs.Steps.NextViews.{exchanged}
use Rattle.call_rules.proofs.Steps.CallsInHand.{IsMid, IsHeldMid, Tried}
use Rattle.call_rules.proofs.Steps.NewCalls.{comes, comes_held, comes_tried}
use Rattle.call_rules.proofs.Steps.HandedValues.{hands, closed_look}
use Rattle.call_rules.proofs.Steps.HeldSteps.{hands_held}
use Rattle.call_rules.proofs.Calls.Answers.{due, may, at_once, HasLooked, MayAnswer}
use Rattle.call_rules.proofs.Steps.LastLoads.{loads_on}
use Rattle.call_rules.proofs.Steps.Tries.{goes_begin, last_try, next_opens, next_tries, pended}

pub at_step : (s : Start) (v : View) (e : Core) (next : Next) (step : Step) → next ≡ Asks step → IsDue s v e next → InCall s v e step
at_step s v e next step is d = subst (IsDue s v e) is d

pub lawful_of : (v : View) (e : Core) → IsTied v e → (step : Step) → IsLawful e step → Lawful v step
lawful_of v e t (Load zero) l = λ z. t.holds ∙ l.1
lawful_of v e t (Load (suc word)) l = λ z. absurd (omega arith)
lawful_of v e t (Store zero value) l = (t.holds ∙ l.1, λ z. (let clock = (t.clocks (t.settled.holder l.1).0).clock in let is = l.2.0 in omega arith))
lawful_of v e t (Store (suc word) value) l = (t.holds ∙ l.1, λ z. absurd (omega arith))
lawful_of v e t (Cas cell from to) l = let few = t.settled.limit in let less = l.5 in (l.0, l.6, (t.holds ∙ l.1, l.4, (let r : from / 2 < MAX_COMMITS = omega arith in r)))

-- what the engine has found of a word that it stores is what the holder's stores have left
pub got_there : (s : Start) (v : View) (e : Core) (step : Step) (found : Option ℕ) → InCall s v e step → found ≡ e.got → WasFound v step found
got_there s v e (Store (suc word) value) found i is = by_found found (subst (λ (o : Option ℕ). Got o (slice_get (held_words v) word)) (sym is) (by_mode e.irrevocable refl))
  where
    by_mode : (b : Bool) → e.irrevocable ≡ b → Got e.got (slice_get (held_words v) word)
    by_mode true irr = (i.held_on (sym i.kept.irrevocable ∙ irr)).got word value i.waits
    by_mode false revocable = (let stores = i.lawful.2 revocable in subst (λ (w : ℕ). Got e.got (slice_get (held_words v) w)) (sym stores.word_is) (i.tied.holding i.lawful.1 revocable).got)

    by_found : (o : Option ℕ) → Got o (slice_get (held_words v) word) → WasFound v (Store (suc word) value) o
    by_found None g = tt
    by_found (Some n) g = g
got_there s v e step found i is = tt

inside : (e : Core) (step : Step) → IsLawful e step → cell_of step ≤ e.words
inside e (Load cell) l = l.0
inside e (Store cell value) l = l.0
inside e (Cas cell from to) l = let z = l.0 in omega arith

pub cell_within : (cells : ℕ) (v : View) (e : Core) (step : Step) → IsOver cells v → IsTied v e → IsLawful e step → cell_of step < cells
cell_within cells v e step o t l = let a = o.size in let b = t.over.size in let c = inside e step l in omega arith

pub over_so : (cells : ℕ) (v w : View) (e : Core) → IsOver cells v → IsTied v e → IsOver cells w → IsOver (suc e.words) w
over_so cells v w e o t over = (let a = o.size in let b = t.over.size in let same : cells ≡ suc e.words = omega arith in subst (λ (k : ℕ). IsOver k w) same over)

fits_step : (v w : View) (e : Core) (n : ℕ) → IsTied v e → (step : Step) → StepTells v step n w → FitsStep e (Some step) n
fits_step v w e n t (Load zero) u = let a = (u.0 refl).1.late in let b = t.behind in omega arith
fits_step v w e n t (Load (suc word)) u = tt
fits_step v w e n t (Store cell value) u = tt
fits_step v w e n t (Cas cell from to) u = let b = t.behind in let a = (exchanged v w n cell from to u).late in omega arith

pub fits_of : (s : Start) (v w : View) (e : Core) (n : ℕ) (step : Step) → InCall s v e step → StepTells v step n w → Fits e n
fits_of s v w e n step i u = subst (λ (o : Option Step). FitsStep e o n) (sym i.waits) (fits_step v w e n i.tied step u)

pub waits_of : (s : Start) (v : View) (e : Core) (step : Step) → InCall s v e step → IsSome e.waits
waits_of s v e step i = subst IsSome (sym i.waits) refl

idle_of : (c : Core) (p : Phase) → asked_from c p ≡ None → p ≡ Idle
idle_of c Idle e = refl
idle_of c p e = absurd (cc)

module _ (cells : ℕ) (v w : View) (ov : IsOver cells v) (ow : IsOver cells w) (e new : Core) (step : Step) (n : ℕ) (turn : StepTells v step n w)
    (next : Next) (r : IsResumed e n next new) where
  pub went : (s : Start) → InCall s v e step → Proceeds (handed_to e (Some step) n) next new
  went s i = subst (λ (o : Option Step). Proceeds (handed_to e o n) next new) i.waits r.proceeds

  -- the looks make up for the tries
  looked_on : (s : Start) → InCall s v e step → s.view.looks + e.tries ≤ w.looks
  looked_on s i =
      let on : v.looks + pending e.stage ≤ w.looks = pended v w n e step (sym i.waits ∙ i.asks) turn e.stage refl in
      let before = i.tried in
      omega arith

  tried_on : (s : Start) → InCall s v e step → Tried s w (handed_to e (Some step) n) new
  tried_on s i = record {
    tried = (let tries = r.tries in let a = next_tries new.stage s.view.looks e.tries w.looks (looked_on s i) in let t : s.view.looks + new.tries ≤ w.looks + pending new.stage = omega arith in t);
    opening = λ c n'. subst IsOpening (sym r.order) (next_opens e e.stage n (i.opening (sym (ap is_inside (handed_is e step n).keeps.blocks) ∙ c)) (λ z. n' (r.order ∙ z)));
    loads = loads_on v w e n step i.tied.holds turn i.loads;
  }

  rested : (s : Start) → InCall s v e step → (a : Answer) → next ≡ Answers a → stage_from e e.stage n ≡ Idle
  rested s i a is =
      let g : Ends (handed_to e (Some step) n) a new = subst (λ (x : Next). Proceeds (handed_to e (Some step) n) x new) is (went s i) in
      sym r.order ∙ idle_of new new.stage (sym r.asks ∙ (rests (handed_to e (Some step) n) new a g).idle)

  ended_so : (a : Answer) → next ≡ Answers a → IsEnding (ending_from e e.stage n) a
  ended_so a is = subst (EndsSo (ending_after e n)) is r.ends

  patient : (s : Start) → InCall s v e step → e.patience ≤ e.tries → IsPatient s w
  patient s i x =
      let same : e.patience ≡ s.engine.patience = i.kept.patience in
      let on = looked_on s i in
      omega arith

  pub goes : (s : Start) → InCall s v e step → IsDue s w new next
  goes s i =
      let over = over_so cells v w e ov i.tied ow in
      let m : IsMid s w (handed_to e (Some step) n) new = hands s v e n new r.joins r.settled r.asks w over step i turn in
      let looked = λ (c : in_transaction (handed_to e (Some step) n) ≡ false). closed_look s v e n new r.joins r.settled r.asks w over step i (sym (ap is_inside (handed_is e step n).keeps.blocks) ∙ c) turn in
      let on : s.engine.irrevocable ≡ true → IsHeldMid s w next new = λ irr.
      (let mode : e.irrevocable ≡ true = i.kept.irrevocable ∙ irr in hands_held s v e n w (i.tied.settled.irrevocable mode).0 new next r.order r.asks (r.held mode) step i (i.held_on irr) turn (went s i)) in
      let may_so : (a : Answer) → next ≡ Answers a → MayAnswer s w (handed_to e (Some step) n) new m a = λ a is. by_answer s i m looked a is in
      due s w (handed_to e (Some step) n) new m next (may s w (handed_to e (Some step) n) new m next may_so) (tried_on s i) on (went s i) r.count
    where
      by_answer : (s : Start) (i : InCall s v e step) (m : IsMid s w (handed_to e (Some step) n) new) → HasLooked s w (handed_to e (Some step) n) new m → (a : Answer) → next ≡ Answers a → MayAnswer s w (handed_to e (Some step) n) new m a
      by_answer s i m looked (Conflict clock word) is = (
        looked,
        (
          (λ none. patient s i (last_try e n (Conflict clock None) tt e.stage (subst (λ (o : Option ℕ). IsEnding (ending_from e e.stage n) (Conflict clock o)) none (ended_so (Conflict clock word) is)) (rested s i (Conflict clock word) is))),
          (λ shut. (let closed : in_transaction e ≡ false = ap is_inside i.kept.blocks ∙ shut in goes_begin e s.call step n clock word closed i.kept.doing (sym i.waits ∙ i.asks) i.lawful e.stage refl (i.opening closed) (ended_so (Conflict clock word) is))),
          (tried_on s i).loads,
        ),
      )
      by_answer s i m looked (Busy clock) is = (looked, patient s i (last_try e n (Busy clock) tt e.stage (ended_so (Busy clock) is) (rested s i (Busy clock) is)))
      by_answer s i m looked a is = tt

  less : (s : Start) → InCall s v e step → (next' : Next) → Proceeds (handed_to e (Some step) n) next' new → IsDue s w new next' → left new next' < left e (Asks step)
  less s i (Asks step') g d =
      let spent : new.spent ≡ e.spent + 1 = ap (λ (c : Core). c.spent) g.stays ∙ ap (λ (k : ℕ). k + 1) (handed_is e step n).spent in
      let one : most new new.doing ≡ most (came s.engine s.call s.again) (Some s.call) = ap (most new) d.kept.doing ∙ most_same _ new d.kept (Some s.call) in
      let two : most e e.doing ≡ most (came s.engine s.call s.again) (Some s.call) = ap (most e) i.kept.doing ∙ most_same _ e i.kept (Some s.call) in
      let bound = d.within in
      omega arith
  less s i (Answers a) g d = omega arith

  pub smaller : (s : Start) → InCall s v e step → left new next < left e (Asks step)
  smaller s i = less s i next (went s i) (goes s i)

-- a call comes
pub starts : (v : View) (e new : Core) (call : Call) (again : Bool) → Stands v e → (next : Next) → IsCalled e call again next new → IsDue (record { view = v; engine = e; call = call; again = again }) v new next
starts v e new call again t next r =
    let s : Start = record { view = v; engine = e; call = call; again = again } in
    let m = comes v e new call again t r.stays r.settled r.asks r.order in
    due s v (came e call again) new m next (at_once s v (came e call again) new m next r.at_once) (comes_tried v e new call again t r.stays r.settled r.asks r.order r.tries) (comes_held v e new call again t r.stays r.settled r.asks r.order next r.proceeds r.held) r.proceeds r.count
