-- An engine between two calls of a revocable transaction, as its callers see it.
use Rattle.std.proofs.Common.{◌≡◌, Bool, false, None, refl, sym, ap, subst, ◌∙◌}
use Rattle.norec_engine.proofs.Common.{Asks, Call, CallTurns, Core, Data, Idle, IsCalled, IsSound, IsSoundIn, Pending, Wait, core, counted, engine_in, phase_of, step_of}
use Rattle.norec_data.specs.declared.pending.Pending.TheVariants as waits
use Rattle.norec_engine.proofs.EitherTurns.{called_in, idle_sound, is_idle, revocable_call}

idle_waits : (d : Data) (p : Pending) → phase_of d p ≡ Idle → p ≡ waits.Idle
idle_waits d waits.Idle is = refl
idle_waits d p is = absurd (cc)

module _ (b : Bool) (d : Data) (p : Pending) (c : Core) (view : engine_in b d (phase_of d p) ≡ c) (sound : IsSoundIn b d (phase_of d p)) (none : c.waits ≡ None) where
  pub idle_at : p ≡ waits.Idle
  idle_at = idle_waits d p (is_idle d p b c view none)

  module _ (mode : b ≡ false) where
    pub sound_idle : IsSound d Idle
    sound_idle = subst (λ (x : Bool). IsSoundIn x d Idle) mode (idle_sound d p b c view sound none)

    pub core_idle : core d Idle ≡ c
    core_idle = (λ i. engine_in (sym mode i) d (sym (is_idle d p b c view none) i)) ∙ view

    -- what is left of a call that asks for nothing more
    pub left_sound : (new : Data) → IsSound new Idle → IsSoundIn b new (phase_of new p)
    left_sound new s =
        subst (λ (q : Pending). IsSoundIn b new (phase_of new q)) (sym idle_at)
        (subst (λ (m : Bool). IsSoundIn m new Idle) (sym mode) s)

    pub left_is : (last new : Data) → core last Idle ≡ core new Idle → engine_in b last Idle ≡ engine_in b new (phase_of new p)
    left_is last new same =
        subst (λ (m : Bool). engine_in m last Idle ≡ engine_in m new Idle) (sym mode) same
        ∙ ap (λ (q : Pending). engine_in b new (phase_of new q)) (sym idle_at)

    -- and of one that asks for a step
    pub asks_for : (call : Call) (again : Bool) (q : Pending) (mid : Data) → CallTurns d call again (Wait q) mid → IsCalled c call again (Asks (step_of mid (phase_of mid q))) (engine_in b (counted mid) (phase_of (counted mid) q))
    asks_for call again q mid t =
        called_in d p b c view (Wait q) mid (Asks (step_of mid (phase_of mid q))) (counted mid) q b (record { state = refl; pending = refl; mode = refl; next = refl })
        sound none call again (revocable_call b d call again _ _ mode t)
