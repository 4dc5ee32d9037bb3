-- The piece that an access that writes comes to next.
use Rattle.std.proofs.Common.{◌≡◌, ℕ, ◌+◌, ◌*◌, ◌≤◌, true, length, sym, subst, ◌∙◌, inl, inr}
use Rattle.norec_irrevocable.proofs.Common.{Data, InPhase, IsHeld, IsNext, IsOn, IsPlacing, IsSoundAfter, PlacesFor, Target, Wait, Writing, chunk_source, copy_refusal, counted, phase_of}
use Rattle.norec_core.specs.declared.call_parts.Target.TheVariants as into
use Rattle.norec_data.{specs.declared.pending.Pending.Pending, proofs.CallsInProgress.is_waiting}

-- what is written is so whatever the piece, and however many steps were asked for
pub places_later : (d new : Data) (target : Target) (start size : ℕ) → new.words ≡ d.words → new.arena ≡ d.arena → new.gathered.items ≡ d.gathered.items → new.value.width ≡ d.value.width → PlacesFor d target start size → PlacesFor new target start size
places_later d new (into.Value hint width) start size w a g v l = (l.0 ∙ sym v, l.1)
places_later d new (into.Fill hint to byte count number) start size w a g v l = (subst (λ (n : ℕ). to + count ≤ 8 * n) (sym w) l.0, g ∙ l.1, l.2, l.3, l.4, l.5)
places_later d new (into.Chunk k number) start size w a g v l = (
  record { served = (λ i. copy_refusal true (w i) (length (a i)) k) ∙ (l.0).served; chunk = (l.0).chunk; is = (l.0).is; start_is = (l.0).start_is; size_is = (l.0).size_is },
  l.1,
  g ∙ l.2 ∙ (λ i. chunk_source k k.pair start size (sym a i) (sym g i)),
)

-- it is sound to wait for the next piece
pub next_sound : (e : Data) (w : Writing) (p : Pending) → IsHeld e → IsPlacing (counted e) w 1 → IsNext w (phase_of e p) → IsSoundAfter (Wait p) e
next_sound e w p h placing next =
    let held : IsHeld (counted e) = record { bounds = h.bounds; is_open = h.is_open; log = h.log; writes = h.writes; settled = h.settled; free = h.free; tries = h.tries } in
    elim next.2 [
      | inl x ↦ (record { held = held; in_phase = subst (InPhase (counted e)) (sym x.1) (placing, x.0) }, is_waiting e p (subst IsOn (sym x.1) tt))
      | inr x ↦ (record { held = held; in_phase = subst (InPhase (counted e)) (sym x.1) (placing, x.0) }, is_waiting e p (subst IsOn (sym x.1) tt))
    ]
