-- What a turn leaves, in a transaction of either kind, as the engine's callers see it.
use Rattle.std.proofs.Common.{◌≡◌, ℕ, Bool, true, false, None, refl, sym, ap, subst, ◌∙◌}
use Rattle.norec_engine.proofs.Common.{Asked, Call, CallStarvesIn, CallTurns, CallTurnsIn, Core, Data, End, EndIrrevocable, Idle, IsCalled, IsResumed, IsSoundAfter, IsSoundIn, IsSoundWith, IsStarved, IsTaken, MayStarve, Next, Pending, Phase, StepTurns, StepTurnsIn, Turn, Wait, counted, data_after, engine_after, engine_in, mode_after, next_of, pending_after, phase_after, phase_of}
use Rattle.norec_data.specs.declared.pending.Pending.TheVariants as waits
use Rattle.norec_engine.proofs.EitherMode.{irrevocable_after, irrevocable_sound, revocable_after, revocable_sound}
use Rattle.norec_engine.proofs.HeldTurns as held
use Rattle.norec_engine.proofs.RevocableTurns as revocable

-- the count of steps is of no account to what is waited for
phase_counted : (d : Data) (p : Pending) → phase_of (counted d) p ≡ phase_of d p
phase_counted d waits.Idle = refl
phase_counted d p = refl

idle_for : (s d : Data) (p : Pending) → phase_of s p ≡ Idle → phase_of d p ≡ Idle
idle_for s d waits.Idle idle = refl
idle_for s d p idle = absurd (cc)

-- nothing is waited for between two calls
idle_of : (b : Bool) (d : Data) (p : Pending) → (engine_in b d (phase_of d p)).waits ≡ None → phase_of d p ≡ Idle
idle_of b d waits.Idle none = refl
idle_of false d p none = absurd (cc)
idle_of true d p none = absurd (cc)

after : (b : Bool) (turn : Turn) (d : Data) → engine_in (mode_after b turn) (data_after turn d) (phase_of (data_after turn d) (pending_after turn)) ≡ engine_after b turn d
after b (Wait p) d = ap (engine_in b (counted d)) (phase_counted d p)
after b (End end) d = refl
after b (EndIrrevocable end) d = refl

called : (b : Bool) (s : Data) (call : Call) (again : Bool) (turn : Turn) (d : Data) → IsSoundIn b s Idle → CallTurnsIn b s call again turn d → IsCalled (engine_in b s Idle) call again (next_of turn d) (engine_after b turn d)
called false s call again turn d sound t = subst (IsCalled (engine_in false s Idle) call again (next_of turn d)) (revocable_after turn d) (revocable.called s call again turn d t)
called true s call again turn d sound t = subst (IsCalled (engine_in true s Idle) call again (next_of turn d)) (irrevocable_after turn d) (held.called s call again turn d sound.held t)

resumed : (b : Bool) (s : Data) (phase : Phase) (seen : ℕ) (turn : Turn) (d : Data) → IsSoundIn b s phase → StepTurnsIn b s phase seen turn d → IsResumed (engine_in b s phase) seen (next_of turn d) (engine_after b turn d)
resumed false s phase seen turn d sound t = subst (IsResumed (engine_in false s phase) seen (next_of turn d)) (revocable_after turn d) (revocable.resumed s phase seen turn d t)
resumed true s phase seen turn d sound t = subst (IsResumed (engine_in true s phase) seen (next_of turn d)) (irrevocable_after turn d) (held.resumed s phase seen turn d sound t)

starved : (b : Bool) (s : Data) (call : Call) (d : Data) → CallStarvesIn b s call d → (engine_in b d Idle ≡ engine_in b s Idle) × MayStarve (engine_in b s Idle) call
starved false s call d t = (t.same, t.starves)
starved true s call d t = (ap (λ (x : Data). engine_in true x Idle) t.same, t.starves)

asked_held : (turn : Turn) (d : Data) → IsSoundAfter turn d → Asked turn
asked_held (Wait p) d s = s.1
asked_held (End end) d s = tt
asked_held (EndIrrevocable end) d s = tt

pub sound_call : (b : Bool) (s : Data) (call : Call) (again : Bool) (turn : Turn) (d : Data) → CallTurnsIn b s call again turn d → IsSoundWith b turn d × Asked turn
sound_call false s call again turn d t = (revocable_sound turn d t.sound, t.sound.asked)
sound_call true s call again turn d t = (irrevocable_sound turn d t.sound, asked_held turn d t.sound)

pub sound_step : (b : Bool) (s : Data) (phase : Phase) (seen : ℕ) (turn : Turn) (d : Data) → StepTurnsIn b s phase seen turn d → IsSoundWith b turn d × Asked turn
sound_step false s phase seen turn d t = (revocable_sound turn d t.sound, t.sound.asked)
sound_step true s phase seen turn d t = (irrevocable_sound turn d t.sound, asked_held turn d t.sound)

phase_left : (turn : Turn) (d : Data) → phase_of (data_after turn d) (pending_after turn) ≡ phase_after turn d
phase_left (Wait p) d = phase_counted d p
phase_left (End end) d = refl
phase_left (EndIrrevocable end) d = refl

-- of a transaction that is known to be revocable
pub revocable_call : (b : Bool) (s : Data) (call : Call) (again : Bool) (turn : Turn) (d : Data) → b ≡ false → CallTurns s call again turn d → CallTurnsIn b s call again turn d
revocable_call b s call again turn d e t = subst (λ (x : Bool). CallTurnsIn x s call again turn d) (sym e) t

pub revocable_step : (b : Bool) (s : Data) (phase : Phase) (seen : ℕ) (turn : Turn) (d : Data) → b ≡ false → StepTurns s phase seen turn d → StepTurnsIn b s phase seen turn d
revocable_step b s phase seen turn d e t = subst (λ (x : Bool). StepTurnsIn x s phase seen turn d) (sym e) t

-- an engine of these fields, as its callers see it
module _ (s : Data) (p : Pending) (b : Bool) (old : Core) (view : engine_in b s (phase_of s p) ≡ old) where
  pub is_idle : old.waits ≡ None → phase_of s p ≡ Idle
  is_idle none = idle_of b s p (ap (λ (e : Core). e.waits) view ∙ none)

  -- between two calls
  idle_view : old.waits ≡ None → engine_in b s Idle ≡ old
  idle_view none = ap (engine_in b s) (sym (is_idle none)) ∙ view

  pub idle_sound : IsSoundIn b s (phase_of s p) → old.waits ≡ None → IsSoundIn b s Idle
  idle_sound sound none = subst (IsSoundIn b s) (is_idle none) sound

  -- no memory was found
  pub starved_in : old.waits ≡ None → (call : Call) (d : Data) → CallStarvesIn b s call d → IsStarved old call (engine_in b d (phase_of d p))
  starved_in none call d t =
      let both = starved b s call d t in record {
        err = ap (engine_in b d) (idle_for s d p (is_idle none)) ∙ (both.0 ∙ idle_view none);
        starves = subst (λ (e : Core). MayStarve e call) (idle_view none) both.1;
      }

  -- a turn was taken
  module _ (turn : Turn) (d : Data) (what : Next) (new : Data) (q : Pending) (mode : Bool) (t : IsTaken b turn d what new q mode) where
    is_left : engine_after b turn d ≡ engine_in mode new (phase_of new q)
    is_left = sym ((λ i. engine_in (t.mode i) (t.state i) (phase_of (t.state i) (t.pending i))) ∙ after b turn d)

    pub left_sound : IsSoundWith b turn d → IsSoundIn mode new (phase_of new q)
    left_sound sound =
        subst (λ (x : Bool). IsSoundIn x new (phase_of new q)) (sym t.mode)
        (subst (λ (x : Data). IsSoundIn (mode_after b turn) x (phase_of x q)) (sym t.state)
        (subst (λ (x : Pending). IsSoundIn (mode_after b turn) (data_after turn d) (phase_of (data_after turn d) x)) (sym t.pending)
        (subst (IsSoundIn (mode_after b turn) (data_after turn d)) (sym (phase_left turn d)) sound)))

    pub called_in : IsSoundIn b s (phase_of s p) → old.waits ≡ None → (call : Call) (again : Bool) → CallTurnsIn b s call again turn d → IsCalled old call again what (engine_in mode new (phase_of new q))
    called_in sound none call again c =
        subst (IsCalled old call again what) is_left
        (subst (λ (n : Next). IsCalled old call again n (engine_after b turn d)) (sym t.next)
        (subst (λ (e : Core). IsCalled e call again (next_of turn d) (engine_after b turn d)) (idle_view none) (called b s call again turn d (idle_sound sound none) c)))

    pub resumed_in : IsSoundIn b s (phase_of s p) → (seen : ℕ) → StepTurnsIn b s (phase_of s p) seen turn d → IsResumed old seen what (engine_in mode new (phase_of new q))
    resumed_in sound seen c =
        subst (IsResumed old seen what) is_left
        (subst (λ (n : Next). IsResumed old seen n (engine_after b turn d)) (sym t.next)
        (subst (λ (e : Core). IsResumed e seen (next_of turn d) (engine_after b turn d)) view (resumed b s (phase_of s p) seen turn d sound c)))
