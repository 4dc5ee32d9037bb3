-- A read of one whole word that is neither written nor logged has come.
use Rattle.std.proofs.Common.{◌≡◌, ℕ, ◌+◌, ◌*◌, ◌≤◌, ◌||◌, false, [], Option, None, Some, slice_get, is_some, refl, sym, ap, subst, ◌∙◌, arith, rules}
use Rattle.norec_accesses.proofs.Common.{ArrayVec, CallTurns, Core, Data, Idle, IsNewWord, IsSound, IsSoundTurn, IsWord, Load, Log, MayRead, Piece, Read, ReadHint, Reading, Turns, Wait, Width, core, count, has_mask, is_had, load_here, load_past, load_proceeds, load_sound, load_stage, lookup, none_left, part, part_is, parts, size_of, value_of, value_reading, word_of}
use Rattle.word_pieces.specs.Masks.{mask_of}
use Rattle.norec_data.specs.declared.pending.Pending.TheVariants as waits
use Rattle.norec_accesses.proofs.ReadCalls.ReadyReads.{first_reading, ready, ready_came, ready_open, ready_reading, settled}
use Rattle.norec_accesses.proofs.ReadCalls.WholeWords.{one_piece}

module _ (s : Data) (hint : ReadHint) (width : Width) (place word : ℕ) (is : IsNewWord (core s Idle) width place word) where
  abbrev pub first : Reading
  first = value_reading hint width place

  pub is_word : IsWord first word
  is_word = record { value = tt; at_is = is.at_is; size_is = is.size_is }

  one : count first ≡ 1
  one = one_piece first word is_word

  same : word ≡ word_of first
  same = omega (arith, is.at_is)

  -- it is not to be had with no step
  pub unhad : is_had s.frames.writes.rows s.log.rows (part first) ≡ false
  unhad =
      let mask = mask_of (part first).first (part first).count in
      (λ i. has_mask (lookup (sym same i) s.frames.writes.rows) mask || is_some (value_of (sym same i) s.log.rows))
      ∙ (λ i. has_mask (is.unwritten i) mask || is_some (is.unlogged i))

  -- so its word is loaded
  pub loads : load_stage s.frames.writes.rows s.log.rows first ≡ Load first
  loads = by_piece (slice_get (parts first) 0) refl
    where
      by_piece : (o : Option Piece) → slice_get (parts first) 0 ≡ o → load_stage s.frames.writes.rows s.log.rows first ≡ Load first
      by_piece None e = (let none = none_left first e in absurd (omega (arith, none, one)))
      by_piece (Some p) e =
          load_here s.frames.writes.rows s.log.rows (load_past s.frames.writes.rows s.log.rows first.purpose) first p e
          (ap (is_had s.frames.writes.rows s.log.rows) (part_is first p e) ∙ unhad)

  module _ (sound : IsSound s Idle) (g : ArrayVec ℕ) (log : Log) (rows : log.rows ≡ s.log.rows) (empty : g.items ≡ []) (room : 1 ≤ log.room) where
    within : place + size_of width ≤ 8 * s.words
    within = omega (arith, is.within, is.size_is)

    small : size_of width ≤ 32
    small = omega (arith, is.size_is)

    may_read : MayRead (ready s g log) first
    may_read = record {
      reading = ready_reading s hint width place sound is.is_open within small g log rows first (first_reading s hint width place sound is.is_open within small g empty);
      logging = record { room = omega (arith, one, room); grown = omega arith };
      missing = record { some = omega (arith, one); unhad = ap (λ l. is_had s.frames.writes.rows l (part first)) rows ∙ unhad };
    }

    starts : IsSoundTurn (Wait waits.Load) (record (ready s g log) { reading = first })
    starts = load_sound (ready s g log) first first refl (omega arith) sound.bounds (ready_open s hint width place sound is.is_open within small g log rows) may_read (settled s hint width place sound is.is_open within small) (omega arith)

    pub asks : CallTurns s (Read hint width place) false (Wait waits.Load) (record (ready s g log) { reading = first })
    asks =
        let proceeds =
        subst (λ (mid : Core). Turns mid (Wait waits.Load) (record (ready s g log) { reading = first })) (ready_came s hint width place sound is.is_open within small g log rows)
        (load_proceeds (ready s g log) first first refl (omega arith) sound.bounds (ready_open s hint width place sound is.is_open within small g log rows) may_read (settled s hint width place sound is.is_open within small) (omega arith) s.log.rows) in
        search (rules, starts, proceeds)
