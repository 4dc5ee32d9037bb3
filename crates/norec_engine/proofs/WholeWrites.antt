-- A write of one whole word that is not refused, for the engine as its callers see it.
use Rattle.std.proofs.Common.{◌≡◌, ℕ, Bool, true, false, None, refl, sym, ap, ◌∙◌}
use Rattle.norec_engine.proofs.Common.{Answers, CallTurns, Core, Data, Done, End, IsCalled, IsSound, IsSoundIn, IsTaken, Pending, Phase, Reply, Write, access_refusal, engine_in, in_block, in_transaction, phase_of, size_of}
use Rattle.itm_types.{specs.declared.access.WriteHint.WriteHint, specs.declared.datum.Datum.Datum}
use Rattle.norec_core.specs.Phases as at
use Rattle.norec_data.specs.declared.end.CallEnd.TheVariants as ends
use Rattle.norec_engine.specs.WholeWrites.{ServesWrite}
use Rattle.norec_engine.proofs.BlockSteps.{mode}
use Rattle.norec_engine.proofs.IdleEngines.{idle_at, sound_idle}
use Rattle.norec_engine.proofs.EitherTurns.{called_in, revocable_call}

-- what refuses an access is in the fields
refusal_is : (b : Bool) (d : Data) (phase : Phase) (place size : ℕ) → access_refusal (in_transaction (engine_in b d phase)) (engine_in b d phase).words place size ≡ access_refusal (in_block d) d.words place size
refusal_is true d phase place size = refl
refusal_is false d phase place size = refl

module _ (s : Data) (p : Pending) (b : Bool) (old : Core) (view : engine_in b s (phase_of s p) ≡ old) (sound : IsSoundIn b s (phase_of s p)) (idle : old.waits ≡ None) (place : ℕ) (value : Datum) (serves : ServesWrite old place value) where
  revocable : b ≡ false
  revocable = mode b s p old view sound serves.revocable

  pub sound_here : IsSound s at.Idle
  sound_here = sound_idle b s p old view sound idle revocable

  pub served_here : access_refusal (in_block s) s.words place (size_of value.width) ≡ None
  served_here = sym (refusal_is b s (phase_of s p) place (size_of value.width)) ∙ (ap (λ (e : Core). access_refusal (in_transaction e) e.words place (size_of value.width)) view ∙ serves.served)

  -- it is done
  module _ (hint : WriteHint) (d : Data) (turns : CallTurns s (Write hint place value) false (End ends.Done) d) where
    taken : IsTaken b (End ends.Done) d (Answers (Reply Done)) d p b
    taken = record { state = refl; pending = idle_at b s p old view sound idle; mode = revocable; next = refl }

    pub done : IsCalled old (Write hint place value) false (Answers (Reply Done)) (engine_in b d (phase_of d p))
    done = called_in s p b old view (End ends.Done) d (Answers (Reply Done)) d p b taken sound idle (Write hint place value) false (revocable_call b s (Write hint place value) false (End ends.Done) d revocable turns)
