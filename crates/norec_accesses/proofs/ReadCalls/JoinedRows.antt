-- The row of a word that was loaded, and confirmed, joins the log.
use Rattle.std.proofs.Common.{◌≡◌, ℕ, ◌+◌, ◌^◌, ◌<◌, ◌==◌, true, List, [], ◌∷◌, ◌++◌, length, length-append, Some, slice_get, refl, sym, ap, subst, ◌∙◌, add-one, arith, eq-eqb, inl, inr}
use Rattle.norec_accesses.proofs.Common.{Agrees, Agrees-front, Agrees-last, AreSingle, ArrayVec, Confirm, Data, IsFor, IsLog, IsLog-push, IsOpen, IsSound, Joins, Log, LogRow, Settles, after_log, after_open, after_snapshot, begun_read, cond-true, core, core_after, in_block, load_stage, log_after, rows_before, stage_after, word_of}
use Rattle.norec_data.specs.declared.turn.Turn.{Turn}
use Rattle.norec_accesses.proofs.CopyCalls.Sources.{purpose_more}

module _ (s : Data) (value seen : ℕ) (log : Log) (sound : IsSound s (Confirm s.reading value)) (settled : seen ≡ s.snapshot) (added : log.rows ≡ s.log.rows ++ record { word = word_of s.reading; value = value } ∷ []) where
  abbrev row : LogRow
  row = record { word = word_of s.reading; value = value }

  -- a memory that agrees with the log has agreed with it before, and has the value
  pub agreed_before : (m : List ℕ) → Agrees m log.rows → Agrees m s.log.rows
  agreed_before m agrees = Agrees-front m s.log.rows row (subst (Agrees m) added agrees)

  pub has_value : (m : List ℕ) → Agrees m log.rows → slice_get m (word_of s.reading) ≡ Some value
  has_value m agrees = Agrees-last m s.log.rows row (subst (Agrees m) added agrees)

  -- whatever is gathered
  module _ (g : ArrayVec ℕ) where
    abbrev pub now : Data
    now = record s { clock = seen; log = log; gathered = g }

    pub joined_open : value < 2 ^ 64 → word_of s.reading < s.words → AreSingle log.rows → IsOpen now
    joined_open fits within single =
        let was = sound.in_phase.0 in
        record {
          is_open = was.is_open;
          log = subst (IsLog s.words) (sym added) (IsLog-push s.words s.log.rows row was.log within fits (subst AreSingle added single));
          writes = was.writes;
          rows = was.rows;
          frames = was.frames;
          begun = begun_read (length s.log.rows) (length log.rows) (length s.frames.actions.commits) (length s.frames.actions.undos) s.frames.blocks (omega (arith, ap (length {A = LogRow}) added, length-append s.log.rows (row ∷ []))) was.begun;
          tries = was.tries;
        }

    pub joined_for : IsFor now s.reading.purpose s.reading.at s.reading.size
    joined_for = purpose_more s.words (length s.arena) s.frames.writes s.log.rows log.rows s.buffer.items agreed_before s.written s.reading.purpose s.reading.at s.reading.size sound.in_phase.1.reading.purpose

  -- what becomes of the log, the snapshot and the phase
  pub joins : (turn : Turn) (new : Data) → (in_block new ≡ true → new.log.rows ≡ log.rows) → new.snapshot ≡ s.snapshot → Joins (core s (Confirm s.reading value)) seen (core_after turn new)
  joins turn new rows snapshot =
      let settles : Settles (core s (Confirm s.reading value)) seen = record { load = refl; same = settled ∙ sym sound.in_phase.2; even = omega (arith, sound.bounds.even, settled) } in
      record {
        log = λ o. inr (inl (
          settles,
          after_log turn new ∙ (rows (sym (after_open turn new) ∙ o) ∙ added),
          after_snapshot turn new ∙ (snapshot ∙ sym settled),
          sym settled,
        ));
        begins = λ closed o. absurd (let yes = sound.in_phase.0.is_open in cc);
        snapshot = λ o. inl (after_snapshot turn new ∙ snapshot);
      }

  pub stage_joined : load_stage (rows_before s) log.rows (record s.reading { number = s.reading.number + 1 }) ≡ stage_after (core s (Confirm s.reading value)) seen
  stage_joined =
      (λ i. load_stage (rows_before s) (added i) (record s.reading { number = s.reading.number + 1 }))
      ∙ (ap (λ (n : ℕ). load_stage (rows_before s) (s.log.rows ++ row ∷ []) (record s.reading { number = n })) (add-one s.reading.number)
      ∙ sym (cond-true (seen == s.snapshot) _ _ (eq-eqb seen s.snapshot settled)))

  pub log_joined : log.rows ≡ log_after (core s (Confirm s.reading value)) seen
  log_joined = added ∙ sym (cond-true (seen == s.snapshot) _ _ (eq-eqb seen s.snapshot settled))
