-- What a part of a call comes to, told of the fields as they were before it, and of the call.
use Rattle.std.proofs.Common.{◌≡◌, ℕ, List, length, Option, None, false, sym, subst, ◌∙◌}
use Rattle.norec_irrevocable.proofs.Common.{Answer, Call, ComesTo, Core, Data, HeldTurns, IsMemory, Phase, Reply, State, TurnEndsSo, after, came, core_held, held_after, kept, next_of, reply, stage_at}
use Rattle.norec_core.specs.Endings.{ending_at}
use Rattle.norec_data.specs.declared.turn.Turn.{Turn}
use Rattle.norec_irrevocable.specs.Moves.{HeldCallTurns, HeldGoesTo}

-- the fields as a call comes
abbrev pub come : Data → Data
come d = record d { spent = 0; entry = length d.log.rows }

pub comes_as : (turn : Turn) (new : Data) (m : List ℕ) {s s' : State} {r r' : Reply} → (s ≡ s') × (r ≡ r') → ComesTo s r (next_of turn new) (held_after turn new) m → ComesTo s' r' (next_of turn new) (held_after turn new) m
comes_as turn new m e = subst (λ (x : State × Reply). ComesTo x.0 x.1 (next_of turn new) (held_after turn new) m) (λ i. (e.0 i, e.1 i))

-- before it other bytes were in the arena, or gathered
pub turned : {mid mid' : Core} {stage stage' : Phase} {state state' : List ℕ → State} {told told' : List ℕ → Reply} (d : Data) (arena : List ℕ) (g : _) (turn : Turn) (new : Data)
    → HeldGoesTo mid stage state told (record d { arena = arena; gathered = g }) turn new → mid ≡ mid' → stage ≡ stage' → ((m : List ℕ) → IsMemory d.words m → (state m ≡ state' m) × (told m ≡ told' m))
    → HeldGoesTo mid' stage' state' told' d turn new
turned d arena g turn new goes mid_is stage_is same = record {
  sound = goes.sound;
  proceeds = subst (λ (c : Core). HeldTurns c turn new) mid_is goes.proceeds;
  comes = λ m mem. comes_as turn new m (same m mem) (goes.comes m mem);
  stays = record { opens = goes.stays.opens; log = goes.stays.log; snapshot = goes.stays.snapshot };
  order = goes.order ∙ stage_is;
  ends = goes.ends;
}

-- it is all that comes of the call
pub as_call : {mid : Core} {stage : Phase} {state : List ℕ → State} {told : List ℕ → Reply} (d : Data) (call : Call) (value : _) (g : _) (turn : Turn) (new : Data)
    → HeldGoesTo mid stage state told (record (come d) { value = value; gathered = g }) turn new → mid ≡ came (core_held d) call false → stage ≡ stage_at (core_held d) call false → ending_at (core_held d) call ≡ None
    → ((m : List ℕ) → IsMemory d.words m → (state m ≡ after d.frames.depth (kept d m) call) × (told m ≡ reply d.frames.depth (kept d m) call)) → HeldCallTurns d call turn new
as_call d call value g turn new goes mid_is stage_is none same = record {
  sound = goes.sound;
  proceeds = subst (λ (c : Core). HeldTurns c turn new) mid_is goes.proceeds;
  comes = λ m mem. comes_as turn new m (same m mem) (goes.comes m mem);
  stays = record { opens = goes.stays.opens; log = goes.stays.log; snapshot = goes.stays.snapshot };
  order = goes.order ∙ stage_is;
  ends = subst (λ (so : Option Answer). TurnEndsSo so turn new) (sym none) goes.ends;
}
