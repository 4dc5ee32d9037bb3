-- A turn of either machine, as one of the engine's.
use Rattle.std.proofs.Common.{◌≡◌, true, false, refl}
use Rattle.norec_engine.proofs.Common.{CallEnd, Data, End, EndIrrevocable, Idle, IsHeld, IsOver, IsSound, IsSoundAfter, IsSoundHeld, IsSoundTurn, IsSoundWith, Turn, Wait, core_after, engine_after, held_after, told}

pub revocable_after : (turn : Turn) (d : Data) → core_after turn d ≡ engine_after false turn d
revocable_after (Wait phase) d = refl
revocable_after turn d = refl

pub irrevocable_after : (turn : Turn) (d : Data) → held_after turn d ≡ engine_after true turn d
irrevocable_after (Wait phase) d = refl
irrevocable_after turn d = refl

-- outside a transaction
pub over_sound : (d : Data) → IsOver d → IsSound d Idle
over_sound d o = record { bounds = o.bounds; reached = o.reached; in_phase = (λ is. (let outside = o.outside.is_open in absurd (cc)), λ is. o.outside) }

-- what an answer is made of is of no account to what follows
told_sound : (end : CallEnd) (d : Data) → IsSound d Idle → IsSound (told end d) Idle
told_sound end d s = record {
  bounds = s.bounds;
  reached = s.reached;
  in_phase = (
    λ o. (let idle = s.in_phase.0 o in (record { is_open = o; log = idle.0.log; writes = idle.0.writes; rows = idle.0.rows; frames = idle.0.frames; begun = idle.0.begun; tries = idle.0.tries }, idle.1)),
    λ o. (let outside = s.in_phase.1 o in record { is_open = o; log = outside.log; writes = outside.writes; commits = outside.commits; undos = outside.undos; tries = outside.tries }),
  );
}

told_held : (end : CallEnd) (d : Data) → IsHeld d → IsSoundHeld (told end d) Idle
told_held end d h = record { held = record { bounds = h.bounds; is_open = h.is_open; log = h.log; writes = h.writes; settled = h.settled; free = h.free; tries = h.tries }; in_phase = tt }

pub revocable_sound : (turn : Turn) (d : Data) → IsSoundTurn turn d → IsSoundWith false turn d
revocable_sound (Wait phase) d s = s.sound
revocable_sound (End end) d s = told_sound end d s.sound
revocable_sound (EndIrrevocable end) d s = told_held end d s.sound

pub irrevocable_sound : (turn : Turn) (d : Data) → IsSoundAfter turn d → IsSoundWith true turn d
irrevocable_sound (Wait phase) d s = s.0
irrevocable_sound (End end) d s = told_sound end d (over_sound d s)
irrevocable_sound (EndIrrevocable end) d s = told_held end d s
