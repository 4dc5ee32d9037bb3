-- A block that goes back to its begin: what a round that found its row different comes to.
use Rattle.std.proofs.Common.{◌≡◌, ℕ, ◌+◌, ◌%◌, ◌<◌, ◌≤◌, ◌==◌, true, false, List, [], ◌∷◌, ◌++◌, length, take, Option, None, Some, slice_get, refl, sym, ap, subst, ◌∙◌, arith, eq-eqb, inr}
use Rattle.norec_blocks.proofs.Common.{Aim, AllWritesWithin, Answer, AreFrames, AreRows, CallEnd, Conflict, Core, Data, End, Ends, Frame, GoesBack, IsEnding, IsLog, IsLog-take, IsOpen, IsSound, IsSoundTurn, Restarted, StepTurns, actions_cancelled, answer_of, begun_renewed, begun_same, blocks_renewed, cond-true, core, found_at, handed, in_block, is_inside, is_within, reads_of, renewed, rolled_back_to, row_at, rows_of, slice_get-get_or, stands_for}
use Rattle.norec_turns.specs.OpenBegins.{AreBegun}
use Rattle.norec_core.specs.Phases as at
use Rattle.norec_core.{specs.Restarts.Restarts, specs.Restarts.begun_again, proofs.Engines.BlocksAgain.restart_parts, proofs.Engines.BlocksAgain.stands_renewed}
use Rattle.norec_blocks.specs.Restarts.{IsRenewed, MayRenew}

-- ## The blocks

within_open : (bs : List Frame) → is_within bs ≡ true → (is_inside bs ≡ true) × (1 < length bs)
within_open [] w = absurd (cc)
within_open (b ∷ []) w = absurd (cc)
within_open (b ∷ p ∷ bs) w = (refl, omega arith)

renewed_frames : (words : ℕ) (bs : List Frame) → is_within bs ≡ true → AreFrames words bs → AllWritesWithin words (rows_of bs) × AreRows (rows_of bs) × AreFrames words (blocks_renewed bs) × (is_inside (blocks_renewed bs) ≡ true)
renewed_frames words [] w f = absurd (cc)
renewed_frames words (b ∷ []) w f = absurd (cc)
renewed_frames words (b ∷ p ∷ bs) w f = (f.0, f.1, f, refl)

-- the innermost one's begin
innermost_begun : (r c u : ℕ) (bs : List Frame) → AreBegun r c u bs → (b : Frame) (rest : List Frame) → bs ≡ b ∷ rest → (b.props.goes_irrevocable ≡ false) × (b.commits ≤ c) × (b.undos ≤ u)
innermost_begun r c u [] h b rest e = absurd (cc)
innermost_begun r c u (x ∷ []) h b rest e = (let same : x ≡ b = cc in subst (λ (y : Frame). (y.props.goes_irrevocable ≡ false) × (y.commits ≤ c) × (y.undos ≤ u)) same (h.0.revocable, h.0.to_commit, h.0.to_undo))
innermost_begun r c u (x ∷ p ∷ xs) h b rest e = (let same : x ≡ b = cc in subst (λ (y : Frame). (y.props.goes_irrevocable ≡ false) × (y.commits ≤ c) × (y.undos ≤ u)) same (h.0.revocable, h.0.to_commit, h.0.to_undo))

-- so it may
pub may_renew : (s : Data) (aim : Aim) (row seen : ℕ) → IsSound s (at.RoundBack aim row) → MayRenew (record s { clock = seen }) row
may_renew s aim row seen sound =
    let parts = restart_parts (core s (at.RoundBack aim row)) row sound.in_phase.3.may in
    record { within = (within_open s.frames.blocks parts.0).1; left = parts.2; far = sound.in_phase.2; sized = sound.bounds.sized }

-- ## The clock has not moved

module _ (s d : Data) (aim : Aim) (row seen : ℕ) (sound : IsSound s (at.RoundBack aim row)) (steady : seen ≡ s.clock) (end : CallEnd) (is : IsRenewed (record s { clock = seen }) row end d) where
  abbrev old : Core
  old = core s (at.RoundBack aim row)

  abbrev mid : Core
  mid = handed old seen

  abbrev changed : ℕ
  changed = (row_at s.log.rows row).word

  -- the fields, but for what the restart left of blocks, log and arena
  abbrev back : Data
  back = record s { clock = seen; frames = d.frames; log = d.log; arena = d.arena; snapshot = seen; restarted = s.restarted + 1 }

  parts : (is_within s.frames.blocks ≡ true) × (reads_of s.frames.blocks ≤ row) × (s.restarted < s.limits.restarts)
  parts = restart_parts old row sound.in_phase.3.may

  was : IsOpen s
  was = sound.in_phase.0.is_open

  left : AllWritesWithin s.words (rows_of s.frames.blocks) × AreRows (rows_of s.frames.blocks) × AreFrames s.words (blocks_renewed s.frames.blocks) × (is_inside (blocks_renewed s.frames.blocks) ≡ true)
  left = renewed_frames s.words s.frames.blocks parts.0 was.frames

  inside : in_block d ≡ true
  inside = ap is_inside is.blocks ∙ left.3

  open_again : IsOpen back
  open_again = record {
    is_open = inside;
    log = subst (IsLog s.words) (sym is.log) (IsLog-take s.words (reads_of s.frames.blocks) s.log.rows was.log);
    writes = subst (AllWritesWithin s.words) (sym is.rows) left.0;
    rows = subst AreRows (sym is.rows) left.1;
    frames = subst (AreFrames s.words) (sym is.blocks) left.2;
    begun =
        begun_same (take (reads_of s.frames.blocks) s.log.rows) d.log.rows (actions_cancelled s.frames.blocks s.frames.actions) d.frames.actions (blocks_renewed s.frames.blocks) d.frames.blocks is.log is.actions is.blocks
        (begun_renewed s.log.rows s.frames.actions s.frames.blocks was.begun);
    tries = was.tries;
  }

  sound_again : IsSound back at.Idle
  sound_again = record {
    bounds = record {
      patient = sound.bounds.patient;
      commits = sound.bounds.commits;
      few = omega (arith, parts.2);
      small = sound.bounds.small;
      sized = is.size ∙ (sound.bounds.sized ∙ sym is.arena_size);
      deep = subst (λ (n : ℕ). 0 < n) (sym is.depth) sound.bounds.deep;
      even = ap (λ (n : ℕ). n % 2) steady ∙ sound.in_phase.1;
    };
    reached = omega arith;
    in_phase = (λ o. (open_again, refl), λ shut. absurd (let yes = inside in cc));
  }

  renewed_sound : IsSoundTurn (End end) d
  renewed_sound = record { asked = tt; sound = subst (λ (x : Data). IsSound x at.Idle) (sym is.others) sound_again }

  clock_is : d.clock ≡ seen
  clock_is = ap (λ (x : Data). x.clock) is.others

  answer_is : answer_of d end ≡ Restarted seen changed
  answer_is = ap (answer_of d) is.end_is ∙ ap (λ (n : ℕ). Restarted n changed) clock_is

  stays : core d at.Idle ≡ record (renewed mid seen) { stage = at.Idle; tries = 0 }
  stays = ap (λ (x : Data). core x at.Idle) is.others
      ∙ (λ i. record (core back at.Idle) { log = is.log i; writes = is.rows i; blocks = is.blocks i; actions = is.actions i; room = is.room i; depth = is.depth i; arena = is.arena i })

  stands : (m : List ℕ) → stands_for (core d at.Idle) m ≡ begun_again mid.blocks (rolled_back_to (stands_for mid m))
  stands m =
      ap (λ (c : Core). stands_for c m) stays
      ∙ stands_renewed mid s.frames.blocks seen m parts.0 (sym is.arena ∙ is.bytes) (ap (length {A = ℕ}) (sym is.arena) ∙ is.arena_size)
      (innermost_begun (length s.log.rows) (length s.frames.actions.commits) (length s.frames.actions.undos) s.frames.blocks was.begun)

  there : slice_get s.log.rows row ≡ Some (row_at s.log.rows row)
  there = slice_get-get_or s.log.rows row (record { word = 0; value = 0 }) sound.in_phase.2

  restarts : Restarts mid seen changed (core d at.Idle)
  restarts = record {
    place = row;
    word_is = (row_at s.log.rows row, there, refl);
    may = sound.in_phase.3.may;
    clock_is = refl;
    later = omega (arith, sound.in_phase.0.later);
    free = refl;
    revocable = refl;
    unfreed = refl;
    stays = stays;
    meets = λ m mem agrees. stands m;
  }

  goes_back : GoesBack old seen (core d at.Idle)
  goes_back = record {
    settles = record { load = refl; same = steady; even = ap (λ (n : ℕ). n % 2) steady ∙ sound.in_phase.1 };
    log = is.log;
    moved = ap (λ (x : Data). x.snapshot) is.others;
    counted = ap (λ (x : Data). x.restarted) is.others;
    same = row;
    may = sound.in_phase.3.may;
    far = parts.1;
    logged = row_at s.log.rows row;
    there = there;
    found = sound.in_phase.3.found;
    loaded = ap (λ (got : Option ℕ). take row s.log.rows ++ found_at s.log.rows got row) sound.in_phase.3.got;
    differs = sound.in_phase.3.differs;
  }

  same : (seen == s.clock) ≡ true
  same = eq-eqb seen s.clock steady

  pub round_renewed : StepTurns s (at.RoundBack aim row) seen (End end) d
  round_renewed = record {
    sound = renewed_sound;
    proceeds = subst (λ (a : Answer). Ends mid a (core d at.Idle)) (sym answer_is) restarts;
    joins = record {
      log = λ o. inr (inr (inr goes_back));
      begins = λ shut o. absurd (let yes = was.is_open in cc);
      snapshot = λ o. inr (inr goes_back);
    };
    order = sym (cond-true (seen == s.clock) at.Idle _ same);
    ends = subst (λ (so : Option Answer). IsEnding so (answer_of d end)) (sym (cond-true (seen == s.clock) (Some (Restarted seen changed)) (Some (Conflict seen None)) same)) answer_is;
    tries = refl;
    snapshot = ap (λ (x : Data). x.snapshot) is.others ∙ sym (cond-true (seen == s.clock) seen s.snapshot same);
    log = λ o. is.log ∙ sym (cond-true (seen == s.clock) (take (reads_of s.frames.blocks) s.log.rows) s.log.rows same);
  }
