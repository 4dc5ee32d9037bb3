-- A whole word that was loaded is confirmed: its row joins the log, and the read is answered.
use Rattle.std.proofs.Common.{◌≡◌, ℕ, ◌+◌, ◌-◌, ◌^◌, ◌<◌, ◌==◌, List, [], ◌∷◌, ◌++◌, Option, None, Some, slice_get, refl, sym, ap, subst, ◌∙◌, arith, eq-eqb}
use Rattle.norec_accesses.proofs.Common.{Answer, AreSingle, Confirm, Data, End, IsOpen, IsSound, IsWord, Log, LogRow, Reading, StepTurns, TurnEndsSo, Word, among, cond-true, count, overlay, part, rows_before, to_le_bytes, total_left, value_of, w64, word_of}
use Rattle.norec_accesses.proofs.CopyCalls.Sources.{unlogged}
use Rattle.norec_accesses.proofs.ReadCalls.JoinedRows.{has_value, joined_open, joined_for, joins, stage_joined, log_joined}
use Rattle.norec_accesses.proofs.ReadCalls.Replies.{Finds, replies, loads_no_more}
use Rattle.norec_accesses.proofs.ReadCalls.WholeWords.{bytes_there, one_piece, word_is}

-- the rows with one of this word
abbrev with_row : List LogRow → ℕ → ℕ → List LogRow
with_row rows value word = rows ++ record { word = word; value = value } ∷ []

-- there is room for its row, which is the first one of this word
pub may_join : (s : Data) (word value : ℕ) → IsSound s (Confirm s.reading value) → IsWord s.reading word → (0 < s.log.room) × (word < 2 ^ 32 - 1) × (value_of word s.log.rows ≡ None)
may_join s word value sound is =
    let r = s.reading in
    let phase = sound.in_phase in
    let to_come = total_left r.purpose r.number (count r) (among s r.purpose r.at r.size phase.1.reading.purpose) phase.1.missing.some in (
      omega (arith, to_come, phase.1.logging.room),
      omega (arith, is.at_is, is.size_is, phase.1.reading.within, sound.bounds.small),
      subst (λ (n : ℕ). value_of n s.log.rows ≡ None) (sym (word_is r word is phase.1.missing.some)) (unlogged s.frames.writes.rows s.log.rows (part r) phase.1.missing.unhad),
    )

-- `result` is the word under the write set
module _ (s : Data) (word value seen result : ℕ) (log : Log) (sound : IsSound s (Confirm s.reading value)) (is : IsWord s.reading word) (settled : seen ≡ s.snapshot)
    (fits : value < 2 ^ 64) (joined : log.rows ≡ with_row s.log.rows value word) (single : AreSingle log.rows)
    (found : (m : List ℕ) → slice_get m word ≡ Some value → slice_get (overlay m s.frames.writes.rows) word ≡ Some result) where
  abbrev pub now : Data
  now = record s { clock = seen; log = log }

  same : word ≡ word_of s.reading
  same = word_is s.reading word is sound.in_phase.1.missing.some

  added : log.rows ≡ with_row s.log.rows value (word_of s.reading)
  added = joined ∙ ap (with_row s.log.rows value) same

  pub is_open : IsOpen now
  is_open = joined_open s value seen log sound settled added s.gathered fits (omega (arith, same, is.at_is, is.size_is, sound.in_phase.1.reading.within)) single

  finds : Finds now s.reading (to_le_bytes w64 result)
  finds = record {
    bounds = sound.bounds;
    is_open = is_open;
    within = sound.in_phase.1.reading.within;
    purpose = joined_for s value seen log sound settled added s.gathered;
    settled = settled;
    has = λ m mem agrees.
        (let there = subst (λ (n : ℕ). slice_get m n ≡ Some value) (sym same) (has_value s value seen log sound settled added m agrees) in
        bytes_there s.reading word is (overlay m s.frames.writes.rows) result (found m there));
  }

  pub confirms : StepTurns s (Confirm s.reading value) seen (End (Word result)) now
  confirms = record {
    sound = record {
      sound = record {
        bounds = sound.bounds;
        reached = omega (arith, settled);
        in_phase = (λ o. (is_open, settled), λ closed. absurd (let yes = is_open.is_open in cc));
      };
      asked = tt;
    };
    proceeds = replies now s.reading (to_le_bytes w64 result) finds s.log.rows s.reading.purpose refl is.value;
    joins = joins s value seen log sound settled added (End (Word result)) now (λ o. refl) refl;
    order =
        (let next : Reading = record s.reading { number = s.reading.number + 1 } in
        sym (loads_no_more (rows_before s) log.rows next is.value (omega (arith, one_piece s.reading word is)))
        ∙ stage_joined s value seen log sound settled added);
    ends = subst (λ (so : Option Answer). TurnEndsSo so (End (Word result)) now) (sym (cond-true (seen == s.snapshot) _ _ (eq-eqb seen s.snapshot settled))) tt;
    tries = refl;
    snapshot = refl;
    log = λ o. log_joined s value seen log sound settled added;
  }
