-- The steps of a validation round, for the engine as its callers see it.
use Rattle.std.proofs.Common.{◌≡◌, ℕ, suc, ◌+◌, Bool, true, false, Some, IsSome, refl, sym, ap, subst, ◌∙◌, arith}
use Rattle.norec_engine.proofs.Common.{Aim, Asked, Core, Data, IsResumed, IsSound, IsSoundHeld, IsSoundIn, IsSoundWith, IsTaken, Load, LogRow, Next, Pending, Phase, RoundEnd, RoundRow, RoundStart, StepTurns, StepTurnsIn, Turn, aim_of, core, engine_in, phase_of, row_at}
use Rattle.norec_data.specs.declared.pending.Pending.TheVariants as waits
use Rattle.norec_engine.specs.Rounds.{Validates}
use Rattle.norec_engine.proofs.BlockSteps.{mode, sound_for}
use Rattle.norec_engine.proofs.WholeReads.{stage_is}
use Rattle.norec_engine.proofs.EitherTurns.{left_sound, resumed_in, revocable_step, sound_step}

-- ## What is waited for, by the stage

start_of : (d : Data) (p : Pending) (aim : Aim) → phase_of d p ≡ RoundStart aim → p ≡ waits.RoundStart
start_of d waits.RoundStart aim is = refl
start_of d p aim is = absurd (cc)

end_of : (d : Data) (p : Pending) (aim : Aim) → phase_of d p ≡ RoundEnd aim → p ≡ waits.RoundEnd
end_of d waits.RoundEnd aim is = refl
end_of d p aim is = absurd (cc)

module _ (b : Bool) (d : Data) (p : Pending) (c : Core) (view : engine_in b d (phase_of d p) ≡ c) where
  stage : phase_of d p ≡ c.stage
  stage = sym (stage_is b d (phase_of d p)) ∙ ap (λ (x : Core). x.stage) view

  pub start_waits : Validates c RoundStart 0 → p ≡ waits.RoundStart
  start_waits v = start_of d p v.aim (stage ∙ v.stage_is)

  pub end_waits : Validates c RoundEnd 0 → p ≡ waits.RoundEnd
  end_waits v = end_of d p v.aim (stage ∙ v.stage_is)

pub row_sound : (b : Bool) (d : Data) (p : Pending) (row : ℕ) → IsSoundIn b d (phase_of d p) → b ≡ false → p ≡ waits.RoundRow row → IsSound d (phase_of d (waits.RoundRow row))
row_sound b d p row sound revocable is = subst (λ (q : Pending). IsSound d (phase_of d q)) is (subst (λ (m : Bool). IsSoundIn m d (phase_of d p)) revocable sound)

-- an irrevocable transaction has no rounds
pub start_revocable : (b : Bool) (d : Data) (p : Pending) → IsSoundIn b d (phase_of d p) → p ≡ waits.RoundStart → b ≡ false
start_revocable false d p sound is = refl
start_revocable true d p sound is = absurd ((subst (λ (q : Pending). IsSoundHeld d (phase_of d q)) is sound).in_phase)

pub row_revocable : (b : Bool) (d : Data) (p : Pending) (row : ℕ) → IsSoundIn b d (phase_of d p) → p ≡ waits.RoundRow row → b ≡ false
row_revocable false d p row sound is = refl
row_revocable true d p row sound is = absurd ((subst (λ (q : Pending). IsSoundHeld d (phase_of d q)) is sound).in_phase)

pub end_revocable : (b : Bool) (d : Data) (p : Pending) → IsSoundIn b d (phase_of d p) → p ≡ waits.RoundEnd → b ≡ false
end_revocable false d p sound is = refl
end_revocable true d p sound is = absurd ((subst (λ (q : Pending). IsSoundHeld d (phase_of d q)) is sound).in_phase)

-- an engine of these fields, as its callers see it, that is in a round
module _ (b : Bool) (d : Data) (p : Pending) (c : Core) (view : engine_in b d (phase_of d p) ≡ c) (sound : IsSoundIn b d (phase_of d p)) (at : Aim → Phase) (cell : ℕ) (v : Validates c at cell) (q : Pending) (is : p ≡ q) where
  pub mode_here : b ≡ false
  mode_here = mode b d p c view sound v.revocable

  pub sound_here : IsSound d (phase_of d q)
  sound_here = sound_for b d p c view sound v.revocable q is

  view_here : c ≡ core d (phase_of d q)
  view_here = sym view ∙ (λ i. engine_in (mode_here i) d (phase_of d (is i)))

  pub waits_here : IsSome (core d (phase_of d q)).waits
  waits_here = subst (λ (e : Core). IsSome e.waits) view_here (subst IsSome (sym v.waits) refl)

  -- the step's value was handed in
  module _ (seen : ℕ) (turn : Turn) (new : Data) (turns : StepTurns d (phase_of d q) seen turn new) where
    turns_in : StepTurnsIn b d (phase_of d p) seen turn new
    turns_in = revocable_step b d (phase_of d p) seen turn new mode_here (subst (λ (x : Pending). StepTurns d (phase_of d x) seen turn new) (sym is) turns)

    pub sound_turn : IsSoundWith b turn new × Asked turn
    sound_turn = sound_step b d (phase_of d p) seen turn new turns_in

    pub left_here : (what : Next) (left : Data) (next : Pending) (m : Bool) → IsTaken b turn new what left next m → IsSoundIn m left (phase_of left next)
    left_here what left next m t = left_sound d p b c view turn new what left next m t sound_turn.0

    pub resumed_here : (what : Next) (left : Data) (next : Pending) (m : Bool) → IsTaken b turn new what left next m → IsResumed c seen what (engine_in m left (phase_of left next))
    resumed_here what left next m t = resumed_in d p b c view turn new what left next m t sound seen turns_in

-- and how that is seen of what it waits for
module _ (b : Bool) (d : Data) (p : Pending) (c : Core) (view : engine_in b d (phase_of d p) ≡ c) (revocable : b ≡ false) where
  seen_at : (q : Pending) → p ≡ q → core d (phase_of d q) ≡ c
  seen_at q is = sym (λ i. engine_in (revocable i) d (phase_of d (is i))) ∙ view

  pub starts_here : p ≡ waits.RoundStart → Validates c RoundStart 0
  starts_here is = subst (λ (e : Core). Validates e RoundStart 0) (seen_at waits.RoundStart is) (record { revocable = refl; aim = aim_of d; stage_is = refl; waits = refl })

  pub ends_here : p ≡ waits.RoundEnd → Validates c RoundEnd 0
  ends_here is = subst (λ (e : Core). Validates e RoundEnd 0) (seen_at waits.RoundEnd is) (record { revocable = refl; aim = aim_of d; stage_is = refl; waits = refl })

  pub row_here : (row : ℕ) (logged : LogRow) → p ≡ waits.RoundRow row → row_at d.log.rows row ≡ logged → Validates c (λ (aim : Aim). RoundRow aim row) (logged.word + 1)
  row_here row logged is here =
      let cell : suc (row_at d.log.rows row).word ≡ logged.word + 1 = omega (arith, ap (λ (r : LogRow). r.word) here) in
      subst (λ (e : Core). Validates e (λ (aim : Aim). RoundRow aim row) (logged.word + 1)) (seen_at (waits.RoundRow row) is) (record { revocable = refl; aim = aim_of d; stage_is = refl; waits = ap (λ (n : ℕ). Some (Load n)) cell })
