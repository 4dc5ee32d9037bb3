-- A round that finds a row different, of the part that the innermost block has added: the clock decides.
use Rattle.std.proofs.Common.{◌≡◌, ◌≢◌, ℕ, ◌+◌, ◌-◌, ◌*◌, ◌≤◌, ◌==◌, true, false, Option, Some, refl, sym, subst, ◌∙◌, arith}
use Rattle.norec_blocks.proofs.Common.{Aim, Data, IsSound, IsSoundTurn, Turns, Wait, aim_of, aims_later, cond-false, cond-true, core, first_of, handed, may_restart, ne_eqb, round_of, row_at, stage_after}
use Rattle.norec_core.specs.Aims as aims
use Rattle.norec_core.specs.Phases as at
use Rattle.norec_data.specs.declared.pending.Pending.TheVariants as waits

-- a round takes as many steps whatever was found
round_found : (d : Data) (aim : Aim) (got : Option ℕ) (spent : ℕ) → round_of aim (record d { got = got; spent = spent }) ≡ round_of aim d
round_found d (aims.Read r) got spent = refl
round_found d (aims.Take taking) got spent = refl

module _ (s : Data) (row seen : ℕ) (sound : IsSound s (at.RoundRow (aim_of s) row)) (differs : (row_at s.log.rows row).value ≢ seen) where
  -- the clock is loaded
  pub decides_sound : may_restart (core s at.Idle) row ≡ true → IsSoundTurn (Wait (waits.RoundBack row)) (record s { got = Some seen })
  decides_sound may =
      let round = sound.in_phase.0 in
      let o = round.is_open in
      record {
        asked = tt;
        sound = record {
          bounds = sound.bounds;
          reached = sound.reached;
          in_phase = (
            record {
              is_open = record { is_open = o.is_open; log = o.log; writes = o.writes; rows = o.rows; frames = o.frames; begun = o.begun; tries = o.tries };
              may = aims_later s (aim_of s) (Some seen) s.clock s.snapshot (s.spent + 1) round.may;
              tried = round.tried;
              later = round.later;
              spent =
                  subst (λ (n : ℕ). s.spent + 1 ≤ first_of (aim_of s) + (s.tries - 1) * n + (row + 3)) (sym (round_found s (aim_of s) (Some seen) (s.spent + 1))) (omega (arith, round.spent));
            },
            sound.in_phase.1,
            sound.in_phase.2,
            record { may = may; found = seen; got = refl; differs = differs },
          );
        };
      }

  pub decides : Turns (handed (core s (at.RoundRow (aim_of s) row)) seen) (Wait (waits.RoundBack row)) (record s { got = Some seen })
  decides = record {
    lawful = (omega arith, refl);
    unfreed = refl;
    stays = refl;
  }

  unlike : ((row_at s.log.rows row).value == seen) ≡ false
  unlike = ne_eqb (row_at s.log.rows row).value seen differs

  pub decides_order : may_restart (core s at.Idle) row ≡ true → at.RoundBack (aim_of s) row ≡ stage_after (core s (at.RoundRow (aim_of s) row)) seen
  decides_order may =
      sym (cond-false ((row_at s.log.rows row).value == seen) _ _ unlike ∙ cond-true (may_restart (core s at.Idle) row) (at.RoundBack (aim_of s) row) at.Idle may)

  pub ends_order : may_restart (core s at.Idle) row ≡ false → at.Idle ≡ stage_after (core s (at.RoundRow (aim_of s) row)) seen
  ends_order last =
      sym (cond-false ((row_at s.log.rows row).value == seen) _ _ unlike ∙ cond-false (may_restart (core s at.Idle) row) (at.RoundBack (aim_of s) row) at.Idle last)
