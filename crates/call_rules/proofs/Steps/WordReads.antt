-- A read of one whole word, whose word and clock are loaded one right after the other.
use Rattle.std.proofs.Common.{◌≡◌, ℕ, ◌+◌, ◌<◌, false, refl, ap, ◌∙◌, arith}
use Rattle.call_rules.proofs.Common.{Core, InCall, IsOver, Lawful, Load, Stands, Start, StepTells, View}

module _ (cells : ℕ) (v w : View) (ov : IsOver cells v) (ow : IsOver cells w) (e mid : Core) (word value : ℕ) (turn : StepTells v (Load (word + 1)) value w) where
  -- the clock may be loaded next
  pub may_look : e.holds ≡ false → (s : Start) → InCall s v e (Load (word + 1)) → Lawful w (Load 0)
  may_look free s i = λ z. ap (λ (x : View). x.holds) ((turn.1 word refl).0 (i.tied.holds ∙ free)) ∙ (i.tied.holds ∙ free)

-- before the call has come, between two calls of a revocable transaction
module _ (cells : ℕ) (v : View) (ov : IsOver cells v) (e : Core) (t : Stands v e) (revocable : e.irrevocable ≡ false) (word : ℕ) (within : word < e.words) where
  free : v.holds ≡ false
  free = t.holds ∙ (t.mode ∙ revocable)

  -- the word may be loaded, and the clock next
  pub word_first : (word + 1 < cells) × Lawful v (Load (word + 1))
  word_first = ((let here = t.over.size in omega (arith, ov.size, here, within)), λ z. absurd (omega (arith, z)))

  pub clock_next : (w : View) (value : ℕ) → StepTells v (Load (word + 1)) value w → (0 < cells) × Lawful w (Load 0)
  clock_next w value turn = ((let size = ov.size in omega arith), λ z. ap (λ (x : View). x.holds) ((turn.1 word refl).0 free) ∙ free)
