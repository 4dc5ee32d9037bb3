-- What is true of an engine between two steps, in a transaction of either kind.
use Rattle.std.proofs.Common.{◌≡◌, ℕ, ◌/◌, ◌<◌, Bool, true, false, List, [], length, None, Some, refl, sym, subst, arith}
use Rattle.norec_engine.proofs.Common.{AreRead, Data, InPhase, IsLog, IsOutside, IsSettled, IsSound, IsSoundHeld, IsSoundIn, IsWithin, LogRow, Phase, agreed, core, counts, engine_in, held, holds_of, in_block, none_inside, none_written, open_in, waits_of}
use Rattle.norec_core.specs.Phases as at
use Rattle.norec_turns.proofs.OpenBegins.{are_read}
use Rattle.norec_engine.proofs.HeldCounts.{held_counts}

outside : (d : Data) (phase : Phase) → InPhase d phase → in_block d ≡ false → IsOutside d
outside d at.Idle p o = p.1 o
outside d (at.Begin b) p o = p.0
outside d (at.Take b) p o = p.0
outside d (at.Load r) p o = (let inside = p.0.is_open in absurd (cc))
outside d (at.Confirm r value) p o = (let inside = p.0.is_open in absurd (cc))
outside d (at.RoundStart aim) p o = (let inside = p.is_open.is_open in absurd (cc))
outside d (at.RoundRow aim row) p o = (let inside = p.0.is_open.is_open in absurd (cc))
outside d (at.RoundEnd aim) p o = (let inside = p.0.is_open.is_open in absurd (cc))
outside d (at.RoundBack aim row) p o = (let inside = p.0.is_open.is_open in absurd (cc))
outside d (at.Exchange taking) p o = (let inside = p.0.is_open in absurd (cc))
outside d (at.BackLoad taking row) p o = (let inside = p.0.is_open.is_open in absurd (cc))
outside d (at.Store taking row None) p o = (let inside = p.0.is_open.is_open in absurd (cc))
outside d (at.Store taking row (Some word)) p o = (let inside = p.0.is_open.is_open in absurd (cc))
outside d at.Free p o = (let inside = p.is_open.is_open in absurd (cc))
outside d (at.Fetch w) p o = absurd p
outside d (at.Place w got) p o = absurd p

still : (d : Data) (phase : Phase) → InPhase d phase → waits_of d phase ≡ None → in_block d ≡ true → d.clock ≡ d.snapshot
still d at.Idle p w o = (p.0 o).1
still d phase p w o = absurd (cc)

holding : (d : Data) (phase : Phase) → InPhase d phase → holds_of phase ≡ true → (in_block d ≡ true) × (d.clock ≡ d.snapshot) × (d.snapshot / 2 < d.limits.max_commits)
holding d (at.BackLoad taking row) p h = (p.0.is_open.is_open, p.0.settled, p.0.free)
holding d (at.Store taking row None) p h = (p.0.is_open.is_open, p.0.settled, p.0.free)
holding d (at.Store taking row (Some word)) p h = (p.0.is_open.is_open, p.0.settled, p.0.free)
holding d at.Free p h = (p.is_open.is_open, p.settled, p.free)
holding d phase p h = absurd (cc)

empty_log : (words : ℕ) (log : List LogRow) → log ≡ [] → IsLog words log
empty_log words log e = subst (IsLog words) (sym e) (record { within = tt; single = tt; fit = tt })

log_in : (d : Data) (phase : Phase) → InPhase d phase → (b : Bool) → in_block d ≡ b → IsLog d.words d.log.rows
log_in d phase p true o = (open_in d phase p o).log
log_in d phase p false o = empty_log d.words d.log.rows (outside d phase p o).log

-- where the open blocks began
reads_in : (d : Data) (phase : Phase) → InPhase d phase → (b : Bool) → in_block d ≡ b → AreRead (length d.log.rows) d.frames.blocks
reads_in d phase p true o = are_read (length d.log.rows) (length d.frames.actions.commits) (length d.frames.actions.undos) d.frames.blocks (open_in d phase p o).begun
reads_in d phase p false o = subst (AreRead (length d.log.rows)) (sym (none_inside d.frames.blocks o)) tt

settled : (d : Data) (phase : Phase) → IsSound d phase → IsSettled (core d phase)
settled d phase s = (let log = log_in d phase s.in_phase (in_block d) refl in record {
  logged = log;
  agreed = agreed d.words d.log.rows log;
  closed = λ o. (let out = outside d phase s.in_phase o in (out.log, none_written d phase s.in_phase o, out.commits, out.undos));
  reached = s.reached;
  inside = λ w o. (still d phase s.in_phase w o, s.bounds.even);
  unfreed = refl;
  even = s.bounds.even;
  holder = λ h. holding d phase s.in_phase h;
  limit = s.bounds.commits;
  reads = λ r. reads_in d phase s.in_phase (in_block d) refl;
  few = s.bounds.few;
  deep = s.bounds.deep;
  irrevocable = λ i. absurd (cc);
})

held_settled : (d : Data) (phase : Phase) → IsSoundHeld d phase → IsSettled (held d phase)
held_settled d phase s = (let h = s.held in let log = empty_log d.words d.log.rows h.log in record {
  logged = log;
  agreed = agreed d.words d.log.rows log;
  closed = λ o. (let inside = h.is_open in absurd (cc));
  reached = omega (arith, h.settled);
  inside = λ w o. (h.settled, h.bounds.even);
  unfreed = refl;
  even = h.bounds.even;
  holder = λ y. (h.is_open, h.settled, h.free);
  limit = h.bounds.commits;
  reads = λ r. absurd (cc);
  few = h.bounds.few;
  deep = h.bounds.deep;
  irrevocable = λ i. (refl, h.writes, h.log);
})

pub settled_in : (irrevocable : Bool) (d : Data) (phase : Phase) → IsSoundIn irrevocable d phase → IsSettled (engine_in irrevocable d phase)
settled_in false d phase s = settled d phase s
settled_in true d phase s = held_settled d phase s

pub counts_in : (irrevocable : Bool) (d : Data) (phase : Phase) → IsSoundIn irrevocable d phase → IsWithin (engine_in irrevocable d phase)
counts_in false d phase s = counts d phase s
counts_in true d phase s = held_counts d phase s
