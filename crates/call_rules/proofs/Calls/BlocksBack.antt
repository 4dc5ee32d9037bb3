-- An answer that a block has gone back to its begin alone.
use Rattle.std.proofs.Common.{◌≡◌, inl, inr, ℕ, ◌+◌, ◌/◌, ◌<◌, ◌≤◌, true, false, List, [], ◌∷◌, take, refl, sym, ap, subst, ◌∙◌, arith}
use Rattle.call_rules.proofs.Common.{Agrees, Core, Frame, Restarted, Restarts, Served, Stands, Start, View, back, begun_again, came_restarted, in_transaction, is_inside, is_within, memory_of, reads_of, renewed, rests, take-append-le}
use Rattle.norec_core.specs.Restarts as engine
use Rattle.norec_core.proofs.Engines.BlocksAgain.{restart_parts}
use Rattle.call_rules.proofs.Steps.CallsInHand.{IsMid}
use Rattle.call_rules.proofs.Calls.Closes.{answered_so, mode_then, same, to_mid}

within_inside : (bs : List Frame) → is_within bs ≡ true → is_inside bs ≡ true
within_inside [] e = absurd (cc)
within_inside (b ∷ bs) e = refl

renewed_inside : (bs : List Frame) → is_inside bs ≡ true → is_inside (renewed bs) ≡ true
renewed_inside [] e = absurd (cc)
renewed_inside (b ∷ bs) e = refl

module _ (s : Start) (w : View) (mid new : Core) (m : IsMid s w mid new) (clock word : ℕ) (g : engine.Restarts mid clock word new) where
  parts : (is_within mid.blocks ≡ true) × (reads_of mid.blocks ≤ g.place) × (mid.restarted < mid.restarts)
  parts = restart_parts mid g.place g.may

  blocks_are : mid.blocks ≡ s.engine.blocks
  blocks_are = m.kept.blocks

  was_open : in_transaction s.engine ≡ true
  was_open = sym (ap is_inside blocks_are) ∙ within_inside mid.blocks parts.0

  is_open : in_transaction new ≡ true
  is_open = ap in_transaction g.stays ∙ (ap (λ (bs : List Frame). is_inside (renewed bs)) blocks_are ∙ renewed_inside s.engine.blocks was_open)

  was : s.engine.irrevocable ≡ false
  was = mode_then s w mid new m ∙ g.revocable

  -- what is left of the log was there as the call came
  log_left : new.log ≡ take (reads_of s.engine.blocks) s.engine.log
  log_left =
      let before = m.before (within_inside mid.blocks parts.0) in
      ap (λ (c : Core). c.log) g.stays
      ∙ (ap (λ (bs : List Frame). take (reads_of bs) mid.log) blocks_are
      ∙ (ap (take (reads_of s.engine.blocks)) before.log.1
      ∙ take-append-le (reads_of s.engine.blocks) s.engine.log before.log.0 (m.read was)))

  pub went_back : Served s (Restarted clock word) w new × Stands w new
  went_back =
      let rest = rests mid new (Restarted clock word) g in
      let inside = within_inside mid.blocks parts.0 in
      let before = m.before inside in
      let from = before.from in
      let later = g.later in
      let clock_is = g.clock_is in
      let now : w.clock ≡ mid.clock = m.clock inside in
      let first = m.first was_open in
      let snap : new.snapshot ≡ clock = ap (λ (c : Core). c.snapshot) g.stays in
      let counted : mid.restarted ≡ s.engine.restarted = m.kept.restarted ∙ came_restarted s.engine s.call s.again was_open in
      let limit : mid.restarts ≡ s.engine.restarts = m.kept.restarts in
      let some_left = parts.2 in
      let more : new.restarted ≡ mid.restarted + 1 = ap (λ (c : Core). c.restarted) g.stays in
      answered_so s w mid new m rest (record {
        still = (was_open, is_open);
        within = ap is_within (sym blocks_are) ∙ parts.0;
        left = omega arith;
        counted = more ∙ ap (λ (n : ℕ). n + 1) counted;
        clock_is = (clock_is ∙ sym now, sym snap);
        later = omega arith;
        looks = elim (m.looked g.unfreed) [
          | inl still ↦ absurd (omega arith)
          | inr up ↦ up
        ];
        revocable = (was, ap (λ (c : Core). c.irrevocable) g.stays ∙ g.revocable);
        log = log_left;
        agrees = subst (λ (n : ℕ). Agrees (memory_of w (n / 2)) new.log) snap (m.logged is_open);
        blocks = ap (λ (c : Core). c.blocks) g.stays ∙ ap renewed blocks_are;
        meets = λ x f a. g.meets x (to_mid s w mid new m x f) a ∙ (λ i. begun_again (blocks_are i) (back (same s w mid new m was x i)));
      }) (m.mine g.unfreed)
