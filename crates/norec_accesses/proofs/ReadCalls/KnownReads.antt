-- A read of one whole word that is to be had with no step.
use Rattle.std.proofs.Common.{◌≡◌, ℕ, ◌+◌, ◌*◌, ◌<◌, ◌≤◌, ◌&&◌, nat_le, true, false, List, length, Option, None, Some, slice_get, refl, sym, ap, subst, ◌∙◌, arith, slice_index}
use Rattle.norec_accesses.proofs.Common.{Agrees, AllFit, CallTurns, Core, Data, End, Idle, IsSound, IsWord, Piece, Read, ReadHint, Reading, Turns, Width, Word, cond-true, count, got_at, in_block, is_had, length-overlay, load_next, load_stage, none_left, overlay, part, part_is, part_of, parts, size_of, to_le_bytes, value_reading, w64, word_of}
use Rattle.norec_accesses.proofs.ReadCalls.ReadyReads.{ready, ready_came, ready_open, settled}
use Rattle.norec_accesses.proofs.ReadCalls.Replies.{replies, loads_no_more, Finds}
use Rattle.norec_accesses.proofs.ReadCalls.WholeWords.{bytes_there, one_piece}

-- all of a word
abbrev pub whole_piece : ℕ → Piece
whole_piece word = record { word = word; first = 0; count = 8; at = 0 }

module _ (s : Data) (hint : ReadHint) (width : Width) (place word : ℕ) (sound : IsSound s Idle) (is_open : in_block s ≡ true) (at_is : place ≡ 8 * word) (size_is : size_of width ≡ 8) (inside : place + 8 ≤ 8 * s.words) (accepted : (in_block s && nat_le (place + 8) (8 * s.words)) ≡ true) where
  abbrev pub first : Reading
  first = value_reading hint width place

  is_word : IsWord first word
  is_word = record { value = tt; at_is = at_is; size_is = size_is }

  one : count first ≡ 1
  one = one_piece first word is_word

  within : place + size_of width ≤ 8 * s.words
  within = omega (arith, inside, size_is)

  small : size_of width ≤ 32
  small = omega (arith, size_is)

  -- it is the only piece
  whole_part : part first ≡ whole_piece word
  whole_part =
      let same : word_of first ≡ word = omega (arith, at_is) in
      let from : (part first).first ≡ 0 = omega (arith, at_is) in
      let bytes : (part first).count ≡ 8 = omega (arith, at_is, size_is) in
      let before : (part first).at ≡ 0 = omega (arith, at_is) in
      λ i. record { word = same i; first = from i; count = bytes i; at = before i }

  module _ (value : ℕ) (had : is_had s.frames.writes.rows s.log.rows (whole_piece word) ≡ true)
      (part_is_its : (m : List ℕ) → AllFit m → Agrees m s.log.rows → word < length m → part_of (whole_piece word) (slice_index (overlay m s.frames.writes.rows) word) ≡ part_of (whole_piece word) value) where
    abbrev pub now : Data
    now = ready s s.gathered s.log

    -- so nothing is loaded
    loads_none : load_stage s.frames.writes.rows s.log.rows first ≡ Idle
    loads_none = by_piece (slice_get (parts first) 0) refl
      where
        by_piece : (o : Option Piece) → slice_get (parts first) 0 ≡ o → load_stage s.frames.writes.rows s.log.rows first ≡ Idle
        by_piece None e = (let none = none_left first e in absurd (omega (arith, none, one)))
        by_piece (Some p) e =
            let is : is_had s.frames.writes.rows s.log.rows p ≡ true = ap (is_had s.frames.writes.rows s.log.rows) (part_is first p e ∙ whole_part) ∙ had in
            load_next s.frames.writes.rows s.log.rows Idle first p e is
            ∙ loads_no_more s.frames.writes.rows s.log.rows (record first { number = 1 }) tt (omega (arith, one))

    -- its bytes are found in the memory
    finds : Finds now first (to_le_bytes w64 value)
    finds = record {
      bounds = sound.bounds;
      is_open = ready_open s hint width place sound is_open within small s.gathered s.log refl;
      within = within;
      purpose = (refl, refl);
      settled = settled s hint width place sound is_open within small;
      has = λ m mem agrees.
          (let under = overlay m s.frames.writes.rows in
          let size : length under ≡ s.words = length-overlay m s.frames.writes.rows ∙ mem.0 in
          let l : word < length m = omega (arith, at_is, inside, mem.0) in
          let there : word < length under = omega (arith, at_is, inside, size) in
          sym (part_is_its m mem.1 agrees l)
          ∙ bytes_there first word is_word under (slice_index under word) (got_at under word there));
    }

    pub known_turns : CallTurns s (Read hint width place) false (End (Word value)) now
    known_turns = record {
      sound = record {
        asked = tt;
        sound = record {
          bounds = sound.bounds;
          reached = sound.reached;
          in_phase = (λ o. (finds.is_open, finds.settled), λ closed. absurd (let yes = is_open in cc));
        };
      };
      proceeds = subst (λ (mid : Core). Turns mid (End (Word value)) now)
          (ready_came s hint width place sound is_open within small s.gathered s.log refl)
          (replies now first (to_le_bytes w64 value) finds s.log.rows first.purpose refl tt);
      stays = record { opens = λ o. o; log = λ o. refl; snapshot = refl };
      order =
          sym (cond-true (in_block s && nat_le (place + size_of width) (8 * s.words)) _ _ ((λ i. in_block s && nat_le (place + size_is i) (8 * s.words)) ∙ accepted) ∙ loads_none);
      ends = tt;
      tries = refl;
    }
