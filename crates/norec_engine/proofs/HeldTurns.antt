-- What a turn of an irrevocable transaction leaves.
use Rattle.std.proofs.Common.{rules, ◌≡◌, ℕ, Bool, true, false, not, ◌&&◌, refl, sym, ap, subst, ◌∙◌}
use Rattle.norec_engine.proofs.Common.{Begin, Call, Core, Data, End, EndIrrevocable, IsCalled, IsHeld, IsResumed, IsSettled, IsSoundAfter, IsSoundHeld, IsWithin, Phase, Proceeds, Stays, StaysOn, Turn, Wait, asked, came, core_held, counted, data_after, ending_after, ending_at, held, held_after, in_transaction, mode_after, next_of, phase_after, phase_of, stage_at, tries_at}
use Rattle.std.proofs.lemmas.Bool.{cond-true}
use Rattle.norec_core.specs.Phases as at
use Rattle.norec_irrevocable.specs.Moves.{HeldCallTurns, HeldStepTurns}
use Rattle.norec_engine.proofs.EitherMode.{irrevocable_after, irrevocable_sound}
use Rattle.norec_engine.proofs.SettledEngines.{counts_in, settled_in}
use Rattle.norec_engine.proofs.RevocableTurns.{ends}

-- within a transaction no block begins again
again_within : (again b : Bool) → b ≡ true → (again && not b) ≡ false
again_within true true e = refl
again_within true false e = absurd (cc)
again_within false b e = refl

came_within : (c : Core) (call : Call) (again : Bool) → in_transaction c ≡ true → came c call false ≡ came c call again
came_within c call again o = λ i. record (came c call false) { again = sym (again_within again (in_transaction c) o) i }

stage_within : (c : Core) (call : Call) (again : Bool) → in_transaction c ≡ true → stage_at c call false ≡ stage_at c call again
stage_within c (Begin props room) again o = cond-true (in_transaction c) _ _ o ∙ sym (cond-true (in_transaction c) _ _ o)
stage_within c call again o = refl

stays : (turn : Turn) (s d : Data) → Stays s d → StaysOn (core_held s) (held_after turn d)
stays (Wait p) s d on = record { opens = on.opens; log = on.log; snapshot = on.snapshot }
stays turn s d on = record { opens = on.opens; log = on.log; snapshot = on.snapshot }

stage_is : (turn : Turn) (d : Data) → (held_after turn d).stage ≡ phase_after turn d
stage_is (Wait p) d = refl
stage_is turn d = refl

snapshot_is : (turn : Turn) (d : Data) → (held_after turn d).snapshot ≡ d.snapshot
snapshot_is (Wait p) d = refl
snapshot_is turn d = refl

asks : (turn : Turn) (d : Data) → (held_after turn d).waits ≡ asked (held_after turn d)
asks (Wait p) d = refl
asks turn d = refl

-- none of its phases is a begin's
waits_without : (d : Data) (phase : Phase) → IsSoundHeld d phase → 0 ≡ tries_at phase
waits_without d (at.Begin b) s = absurd s.in_phase
waits_without d phase s = refl

-- no step of it is one of a begin or of a round
no_tries : (turn : Turn) (d : Data) → IsSoundAfter turn d → (held_after turn d).tries ≡ tries_at (phase_after turn d)
no_tries (Wait p) d s = waits_without (counted d) (phase_of d p) s.0
no_tries (End end) d s = refl
no_tries (EndIrrevocable end) d s = refl

settled : (turn : Turn) (d : Data) → IsSoundAfter turn d → IsSettled (held_after turn d)
settled turn d s = subst IsSettled (sym (irrevocable_after turn d)) (settled_in (mode_after true turn) (data_after turn d) (phase_after turn d) (irrevocable_sound turn d s))

within : (turn : Turn) (d : Data) → IsSoundAfter turn d → IsWithin (held_after turn d)
within turn d s = subst IsWithin (sym (irrevocable_after turn d)) (counts_in (mode_after true turn) (data_after turn d) (phase_after turn d) (irrevocable_sound turn d s))

pub called : (s : Data) (call : Call) (again : Bool) (turn : Turn) (d : Data) → IsHeld s → HeldCallTurns s call turn d → IsCalled (core_held s) call again (next_of turn d) (held_after turn d)
called s call again turn d h t = record {
  proceeds = subst (λ (c : Core). Proceeds c (next_of turn d) (held_after turn d)) (came_within (core_held s) call again h.is_open) t.proceeds;
  at_once = search rules;
  stays = stays turn s d t.stays;
  order = stage_is turn d ∙ (t.order ∙ stage_within (core_held s) call again h.is_open);
  ends = ends (ending_at (core_held s) call) turn d t.ends;
  tries = no_tries turn d t.sound ∙ ap tries_at (sym (stage_is turn d));
  asks = asks turn d;
  count = within turn d t.sound;
  settled = settled turn d t.sound;
  held = λ i. t.comes;
}

pub resumed : (s : Data) (phase : Phase) (seen : ℕ) (turn : Turn) (d : Data) → IsSoundHeld s phase → HeldStepTurns s phase seen turn d → IsResumed (held s phase) seen (next_of turn d) (held_after turn d)
resumed s phase seen turn d h t = record {
  proceeds = t.proceeds;
  joins = search rules;
  order = stage_is turn d ∙ t.order;
  ends = ends (ending_after (held s phase) seen) turn d t.ends;
  tries = search rules;
  snapshot = snapshot_is turn d ∙ t.snapshot;
  log = search rules;
  asks = asks turn d;
  count = within turn d t.sound;
  settled = settled turn d t.sound;
  held = λ i. t.steps;
}
