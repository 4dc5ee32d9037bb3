-- A copy that has come, and whose memory is taken: all that it needs before its first step.
use Rattle.std.proofs.Common.{◌≡◌, ℕ, ◌≤◌, Bool, true, false, List, length, take, replicate, None, refl, sym, ap, subst, ◌∙◌, arith}
use Rattle.norec_accesses.proofs.Common.{AllWritesWithin, AllWritesWithin-reserved_range, AreFrames, AreRows, AreRows-reserved_all, Copy, CopyPair, Copying, Data, Idle, In, IsBounded, IsLog, IsOpen, IsServed, IsSound, KeepsAllButWrites, LogRow, MayCopy, MayPutFor, Nest, Out, Row, Within, accepted_open, accepted_sides, begun_same, came, chunks_in, copy_refusal, copy_stage, core, cut-reserved_all, direction_of, in_block, in_copy, is_inside, is_out, length-replicate, load_chunks, logged, range_pieces, reserved_for, rows_before, shared_within, slice, source_in, source_words, take_all, target_refusal}
use Rattle.norec_data.proofs.KeptBounds.{bounds_kept}

-- ## Rows that a destination is given

first_rows : (k : Copying) (pair : CopyPair) (rows : List Row) → take (length rows) (reserved_for k pair rows) ≡ rows
first_rows k (Out to) rows = (cut-reserved_all rows (range_pieces k.to (chunks_in k))).1
first_rows k (In from) rows = take_all (length rows) rows (omega arith)
first_rows k (Within from to) rows = (cut-reserved_all rows (range_pieces k.to (chunks_in k))).1

rows_for : (k : Copying) (pair : CopyPair) (rows : List Row) → AreRows rows → AreRows (reserved_for k pair rows)
rows_for k (Out to) rows are = AreRows-reserved_all rows (range_pieces k.to (chunks_in k)) are
rows_for k (In from) rows are = are
rows_for k (Within from to) rows are = AreRows-reserved_all rows (range_pieces k.to (chunks_in k)) are

within_for : (words bytes : ℕ) (k : Copying) (pair : CopyPair) (rows : List Row) → target_refusal words bytes pair k.to k.size ≡ None → AllWritesWithin words rows → AllWritesWithin words (reserved_for k pair rows)
within_for words bytes k (Out to) rows ok w = AllWritesWithin-reserved_range words rows k.to (direction_of k) k.size w (shared_within words k.to k.size ok)
within_for words bytes k (In from) rows ok w = w
within_for words bytes k (Within from to) rows ok w = AllWritesWithin-reserved_range words rows k.to (direction_of k) k.size w (shared_within words k.to k.size ok)

-- ## The copy is ready

-- the engine with the copy's rows and room
abbrev pub ready : Data → Data → Data
ready s e = record s { buffer = e.buffer; log = e.log; frames = e.frames; written = length s.frames.writes.rows; entry = length e.log.rows; tries = 0; spent = 0 }

module _ (s e : Data) (k : Copying) (sound : IsSound s Idle) (accepted : copy_refusal (in_block s) s.words (length s.arena) k ≡ None)
    (log : e.log.rows ≡ s.log.rows) (kept : KeepsAllButWrites s.frames e.frames)
    (rows : e.frames.writes.rows ≡ reserved_for k k.pair s.frames.writes.rows) (may_put : MayPutFor k k.pair e.frames.writes) where
  abbrev blocks : e.frames.blocks ≡ s.frames.blocks
  blocks = ap (λ (n : Nest). n.blocks) kept

  abbrev actions : e.frames.actions ≡ s.frames.actions
  actions = ap (λ (n : Nest). n.actions) kept

  was_open : in_block s ≡ true
  was_open = accepted_open (in_block s) s.words (length s.arena) k accepted

  pub taken : copy_refusal true s.words (length s.arena) k ≡ None
  taken = subst (λ (b : Bool). copy_refusal b s.words (length s.arena) k ≡ None) was_open accepted

  pub before : rows_before (ready s e) ≡ s.frames.writes.rows
  before = ap (take (length s.frames.writes.rows)) rows ∙ first_rows k k.pair s.frames.writes.rows

  pub ready_bounds : IsBounded s.words s.limits s.restarted s.snapshot e.frames.size e.frames.depth s.arena
  ready_bounds = bounds_kept s e.frames (ap (λ (n : Nest). n.size) kept) (ap (λ (n : Nest). n.depth) kept) sound.bounds

  pub ready_open : IsOpen (ready s e)
  ready_open =
      let idle = sound.in_phase.0 was_open in
      record {
        is_open = ap is_inside blocks ∙ was_open;
        log = subst (IsLog s.words) (sym log) idle.0.log;
        writes = subst (AllWritesWithin s.words) (sym rows) (within_for s.words (length s.arena) k k.pair s.frames.writes.rows (accepted_sides s.words (length s.arena) k taken).0 idle.0.writes);
        rows = subst AreRows (sym rows) (rows_for k k.pair s.frames.writes.rows idle.0.rows);
        frames = subst (AreFrames s.words) (sym blocks) idle.0.frames;
        begun = begun_same s.log.rows e.log.rows s.frames.actions e.frames.actions s.frames.blocks e.frames.blocks log actions blocks idle.0.begun;
        tries = omega arith;
      }

  pub ready_settled : s.clock ≡ s.snapshot
  ready_settled = (sound.in_phase.0 was_open).1

  -- with this buffer
  pub ready_served : (buffer : List ℕ) → length buffer ≡ k.size → IsServed s.words (length s.arena) (rows_before (ready s e)) e.frames.writes buffer k
  ready_served buffer many = record {
    accepted = taken;
    reserved = rows ∙ ap (reserved_for k k.pair) (sym before);
    may_put = may_put;
    sized = many;
  }

  -- as callers see it, it has come
  pub ready_came : logged (in_copy (ready s e) k) s.log.rows ≡ came (core s Idle) (Copy k) false
  ready_came = λ i. record (came (core s Idle) (Copy k) false) { writes = before i; entry = length (log i); depth = (kept i).depth; blocks = (kept i).blocks; actions = (kept i).actions; room = (kept i).room }

  -- nothing is read yet
  pub ready_to_copy : is_out k.pair ≡ false → e.buffer.items ≡ replicate k.size 0 → source_words k ≤ e.log.room → MayCopy (ready s e) k 0
  ready_to_copy shared zeros room = record {
    bounds = ready_bounds;
    is_open = ready_open;
    copied = record {
      served = ready_served e.buffer.items (ap (length {A = ℕ}) zeros ∙ length-replicate k.size 0);
      shared = shared;
      has = λ m mem agrees. zeros;
    };
    settled = ready_settled;
    far = omega arith;
    room = omega (arith, room);
    grown = omega arith;
    spent = omega arith;
  }

-- one that does not read the arena loads its first piece
pub copy_stage_is : (rows : List Row) (log : List LogRow) (k : Copying) (pair : CopyPair) → is_out pair ≡ false → copy_stage rows log k pair ≡ load_chunks rows log k 0 (chunks_in k)
copy_stage_is rows log k (Out to) e = absurd (cc)
copy_stage_is rows log k (In from) e = refl
copy_stage_is rows log k (Within from to) e = refl

-- the buffer of one that does read it
pub out_source : (pair : CopyPair) (arena memory : List ℕ) (place size : ℕ) → is_out pair ≡ true → source_in pair arena memory place size ≡ slice arena place size
out_source (Out to) arena memory place size e = refl
out_source (In from) arena memory place size e = absurd (cc)
out_source (Within from to) arena memory place size e = absurd (cc)
