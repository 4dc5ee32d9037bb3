-- A read that has come, and whose memory is taken.
use Rattle.std.proofs.Common.{◌≡◌, ℕ, ◌+◌, ◌*◌, ◌≤◌, true, false, List, [], length, refl, sym, ap, subst, ◌∙◌, arith}
use Rattle.norec_accesses.proofs.Common.{Agrees, ArrayVec, Data, Idle, IsLog, IsMissing, IsOpen, IsReading, IsSound, Log, LogRow, Read, ReadHint, Reading, Width, begun_same, between, came, core, in_block, is_had, logged, part, size_of, take_all, value_reading}
use Rattle.norec_core.specs.Aims as aims
use Rattle.norec_accesses.proofs.CopyCalls.Sources.{purpose_more}

-- the engine with the read's bytes so far
abbrev pub gathering : Data → ArrayVec ℕ → Data
gathering s g = record s { gathered = g; written = length s.frames.writes.rows }

-- and with room in the log
abbrev pub ready : Data → ArrayVec ℕ → Log → Data
ready s g log = record (gathering s g) { log = log; spent = 0; entry = length log.rows; tries = 0 }

module _ (s : Data) (hint : ReadHint) (width : Width) (place : ℕ) (sound : IsSound s Idle) (is_open : in_block s ≡ true) (within : place + size_of width ≤ 8 * s.words) (small : size_of width ≤ 32) where
  pub settled : s.clock ≡ s.snapshot
  settled = (sound.in_phase.0 is_open).1

  -- nothing is read yet
  pub first_reading : (g : ArrayVec ℕ) → g.items ≡ [] → IsReading (gathering s g) (value_reading hint width place)
  first_reading g none = record {
    within = within;
    small = small;
    purpose = (refl, refl);
    far = omega arith;
    has = λ m mem agrees. none;
    sized = ap (length {A = ℕ}) none;
  }

  module _ (g : ArrayVec ℕ) (log : Log) (rows : log.rows ≡ s.log.rows) where
    pub ready_open : IsOpen (ready s g log)
    ready_open = (let o = (sound.in_phase.0 is_open).0 in record {
      is_open = o.is_open;
      log = subst (IsLog s.words) (sym rows) o.log;
      writes = o.writes;
      rows = o.rows;
      frames = o.frames;
      begun = begun_same s.log.rows log.rows s.frames.actions s.frames.actions s.frames.blocks s.frames.blocks rows refl refl o.begun;
      tries = omega arith;
    })

    pub ready_reading : (r : Reading) → IsReading (gathering s g) r → IsReading (ready s g log) r
    ready_reading r reading = record {
      within = reading.within;
      small = reading.small;
      purpose = purpose_more s.words (length s.arena) s.frames.writes s.log.rows log.rows s.buffer.items (λ m agrees. subst (Agrees m) rows agrees) (length s.frames.writes.rows) r.purpose r.at r.size reading.purpose;
      far = reading.far;
      has = λ m mem agrees. reading.has m mem (subst (Agrees m) rows agrees);
      sized = reading.sized;
    }

    pub ready_missing : (r : Reading) → IsMissing (gathering s g) r → IsMissing (ready s g log) r
    ready_missing r missing = record { some = missing.some; unhad = ap (λ (l : List LogRow). is_had s.frames.writes.rows l (part r)) rows ∙ missing.unhad }

    -- as callers see it, it has come
    pub ready_came : logged (between (ready s g log) (aims.Read (value_reading hint width place))) s.log.rows ≡ came (core s Idle) (Read hint width place) false
    ready_came = λ i. record (came (core s Idle) (Read hint width place) false) { writes = take_all (length s.frames.writes.rows) s.frames.writes.rows (omega arith) i; entry = length (rows i) }
