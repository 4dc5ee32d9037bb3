-- Outermost begins and commits, for the engine as its callers see it.
use Rattle.std.proofs.Common.{◌≡◌, ℕ, ◌<◌, ◌≤◌, ◌&&◌, ◌||◌, not, Bool, true, false, List, length, None, if◌then◌else◌, inl, refl, sym, ap, subst, ◌∙◌}
use Rattle.norec_engine.proofs.Common.{Answers, Asks, Begin, CallEnd, CallTurns, Code, Core, Data, End, Entered, EnteredAgain, IsBegun, IsCalled, IsResumed, IsSound, IsSoundIn, Pending, Phase, Reply, StepGoesTo, StepTurns, Taking, Turn, Wait, answer_of, begins_outer, counted, engine_in, in_block, in_transaction, may_go, none_inside, phase_of, told}
use Rattle.itm_types.specs.declared.step.Step.TheVariants as steps
use Rattle.itm_types.specs.declared.call.Props.{Props}
use Rattle.nest_frames.specs.Nest.{Frame, stays_revocable}
use Rattle.norec_core.specs.Phases as at
use Rattle.norec_core.specs.declared.call_parts.Taking.TheVariants as takings
use Rattle.norec_data.specs.declared.pending.Pending.TheVariants as waits
use Rattle.norec_data.specs.declared.end.CallEnd.TheVariants.{Committed}
use Rattle.norec_blocks.specs.OuterBegins.{BeginTurns}
use Rattle.norec_engine.proofs.EitherTurns.{resumed_in, revocable_step}
use Rattle.norec_engine.proofs.IdleEngines.{asks_for, left_is, left_sound, sound_idle}
use Rattle.norec_engine.proofs.FastSteps.{outside_revocable}
use Rattle.norec_engine.proofs.WholeReads.{mode_is, stage_is}

-- ## What is waited for, by the stage

exchange_waits : (d : Data) (p : Pending) (t : Taking) → phase_of d p ≡ at.Exchange t → p ≡ waits.Exchange
exchange_waits d waits.Exchange t is = refl
exchange_waits d p t is = absurd (cc)

same_taking : (a b : Taking) → at.Exchange a ≡ at.Exchange b → a ≡ b
same_taking a b is = cc

-- an engine of these fields, as its callers see it, in a revocable transaction
module _ (b : Bool) (d : Data) (p : Pending) (c : Core) (view : engine_in b d (phase_of d p) ≡ c) (sound : IsSoundIn b d (phase_of d p)) (revocable : c.irrevocable ≡ false) where
  pub mode : b ≡ false
  mode = sym (mode_is b d (phase_of d p)) ∙ (ap (λ (x : Core). x.irrevocable) view ∙ revocable)

  stage : phase_of d p ≡ c.stage
  stage = sym (stage_is b d (phase_of d p)) ∙ ap (λ (x : Core). x.stage) view

  pub sound_for : (q : Pending) → p ≡ q → IsSound d (phase_of d q)
  sound_for q is = subst (λ (x : Pending). IsSound d (phase_of d x)) is (subst (λ (x : Bool). IsSoundIn x d (phase_of d p)) mode sound)

  pub exchange_at : c.stage ≡ at.Exchange takings.Commit → (p ≡ waits.Exchange) × (d.taking ≡ takings.Commit) × IsSound d (at.Exchange d.taking)
  exchange_at is =
      let here = exchange_waits d p takings.Commit (stage ∙ is) in
      (here, same_taking d.taking takings.Commit (sym (ap (phase_of d) here) ∙ (stage ∙ is)), sound_for waits.Exchange here)

-- ## An outermost begin that stays revocable

-- a begin that stays revocable is not refused
served_outside : (d : Data) (props : Props) → in_block d ≡ false → props.goes_irrevocable ≡ false → 0 < d.frames.depth → (may_go d.frames.blocks props ≡ true) × (length d.frames.blocks < d.frames.depth)
served_outside d props shut stays deep = (
  ap (λ (g : Bool). not (g && (props.no_irrevocable || stays_revocable d.frames.blocks))) stays,
  subst (λ (bs : List Frame). length bs < d.frames.depth) (sym (none_inside d.frames.blocks shut)) deep,
)

-- what it answers is told by its code alone
told_code : (again : Bool) (end : CallEnd) (d : Data) → end ≡ (if again then EnteredAgain else Entered) → d ≡ told end d
told_code true end d is = (let same : d ≡ told EnteredAgain d = refl in same ∙ ap (λ (x : CallEnd). told x d) (sym is))
told_code false end d is = (let same : d ≡ told Entered d = refl in same ∙ ap (λ (x : CallEnd). told x d) (sym is))

answer_code : (again : Bool) (end : CallEnd) (d : Data) (code : ℕ) → end ≡ (if again then EnteredAgain else Entered) → code ≡ (if again then 9 else 5) → Reply (Code code) ≡ answer_of d end
answer_code true end d code is number = ap (λ (n : ℕ). Reply (Code n)) number ∙ ap (answer_of d) (sym is)
answer_code false end d code is number = ap (λ (n : ℕ). Reply (Code n)) number ∙ ap (answer_of d) (sym is)

neither : (a b : Bool) → not (a || b) ≡ true → (a ≡ false) × (b ≡ false)
neither false false is = (refl, refl)
neither false true is = absurd (cc)
neither true b is = absurd (cc)

pub stays_of : (c : Core) (props : Props) → begins_outer c props ≡ true → props.goes_irrevocable ≡ false
stays_of c props outer = (neither props.goes_irrevocable (in_transaction c) outer).0

pub closed_of : (c : Core) (props : Props) → begins_outer c props ≡ true → in_transaction c ≡ false
closed_of c props outer = (neither props.goes_irrevocable (in_transaction c) outer).1

inside_is : (b : Bool) (d : Data) (phase : Phase) → in_transaction (engine_in b d phase) ≡ in_block d
inside_is true d phase = refl
inside_is false d phase = refl

clock_is : (b : Bool) (d : Data) (phase : Phase) → (engine_in b d phase).clock ≡ d.clock
clock_is true d phase = refl
clock_is false d phase = refl

module _ (b : Bool) (d : Data) (p : Pending) (c : Core) (view : engine_in b d (phase_of d p) ≡ c) (sound : IsSoundIn b d (phase_of d p)) (none : c.waits ≡ None) (props : Props) (outer : begins_outer c props ≡ true) where
  pub outer_stays : props.goes_irrevocable ≡ false
  outer_stays = stays_of c props outer

  pub outside : in_block d ≡ false
  outside = sym (inside_is b d (phase_of d p)) ∙ (ap in_transaction view ∙ closed_of c props outer)

  pub outer_mode : b ≡ false
  outer_mode = outside_revocable b d (phase_of d p) sound outside

  pub outer_sound : IsSound d at.Idle
  outer_sound = sound_idle b d p c view sound none outer_mode

  pub outer_served : (may_go d.frames.blocks props ≡ true) × (length d.frames.blocks < d.frames.depth)
  outer_served = served_outside d props outside outer_stays outer_sound.bounds.deep

  pub outer_fits : (seen : ℕ) → c.clock ≤ seen → d.clock ≤ seen
  outer_fits seen fits = subst (λ (n : ℕ). n ≤ seen) (sym (ap (λ (e : Core). e.clock) view) ∙ clock_is b d (phase_of d p)) fits

  pub outer_left : (new : Data) → IsSound new at.Idle → IsSoundIn b new (phase_of new p)
  outer_left = left_sound b d p c view sound none outer_mode

  pub outer_waits : (mid : Data) → IsSound (counted mid) (phase_of mid waits.Begin) → IsSoundIn b (counted mid) (phase_of (counted mid) waits.Begin)
  outer_waits mid s = subst (λ (m : Bool). IsSoundIn m (counted mid) (phase_of (counted mid) waits.Begin)) (sym outer_mode) s

  pub outer_called : (room : ℕ) (again : Bool) (mid : Data) → CallTurns d (Begin props room) again (Wait waits.Begin) mid → IsCalled c (Begin props room) again (Asks (steps.Load 0)) (engine_in b (counted mid) (phase_of (counted mid) waits.Begin))
  outer_called room again mid t = asks_for b d p c view sound none outer_mode (Begin props room) again waits.Begin mid t

  pub outer_begun : (room : ℕ) (again : Bool) (clock code : ℕ) (end : CallEnd) (new : Data) → BeginTurns d props room again clock end new → end ≡ (if again then EnteredAgain else Entered) → code ≡ (if again then 9 else 5)
      → IsBegun c props room again clock code (engine_in b new (phase_of new p))
  outer_begun room again clock code end new t ends number =
      let mid = counted t.mid in
      let resumed : IsResumed (engine_in b mid (phase_of mid waits.Begin)) clock (Answers (Reply (Code code))) (engine_in b t.last at.Idle) =
      resumed_in mid waits.Begin b (engine_in b mid (phase_of mid waits.Begin)) refl (End end) t.last (Answers (Reply (Code code))) t.last waits.Idle b
      (record { state = told_code again end t.last ends; pending = refl; mode = outer_mode; next = ap Answers (answer_code again end t.last code ends number) })
      (outer_waits t.mid t.called.sound.sound) clock (revocable_step b mid (phase_of mid waits.Begin) clock _ _ outer_mode t.resumed) in
      record {
        mid = engine_in b mid (phase_of mid waits.Begin);
        called = outer_called room again t.mid t.called;
        resumed = subst (IsResumed (engine_in b mid (phase_of mid waits.Begin)) clock (Answers (Reply (Code code)))) (left_is b d p c view sound none outer_mode t.last new t.same) resumed;
      }

-- ## The clock that is freed

pub freed_turns : (s d : Data) (seen : ℕ) (turn : Turn) → turn ≡ End Committed → StepGoesTo s at.Free 0 turn d → StepTurns s at.Free seen (End Committed) d
freed_turns s d seen turn is goes =
    let g : StepGoesTo s at.Free 0 (End Committed) d = subst (λ (t : Turn). StepGoesTo s at.Free 0 t d) is goes in
    record {
      sound = g.sound;
      proceeds = g.proceeds;
      joins = record { log = λ o. inl (g.stays.log o); begins = λ shut o. (let was = g.stays.opens o in absurd (cc)); snapshot = λ o. inl g.stays.snapshot };
      order = g.order;
      ends = g.ends;
      tries = g.tries;
      snapshot = g.stays.snapshot;
      log = g.stays.log;
    }
