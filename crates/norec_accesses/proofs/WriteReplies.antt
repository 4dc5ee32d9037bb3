-- A write that is served, once its value stands in the write set.
use Rattle.std.proofs.Common.{◌≡◌, ℕ, ◌+◌, ◌*◌, ◌<◌, ◌≤◌, List, length, false, None, refl, sym, ap, subst, ◌∙◌, arith, rules, true}
use Rattle.norec_accesses.proofs.Common.{AllFitIn, AllWritesWithin, AllWritesWithin-put_all, AllWritesWithin-reserved_all, AreBytes, AreFrames, AreRows, AreRows-put_all, AreRows-reserved_all, CallTurns, Data, Done, End, Idle, IsMemory, IsSound, IsSoundTurn, KeepsAllButWrites, Nest, Row, Vec, Write, WriteHint, access_refusal, begun_same, bytes_of, bytes_of-put_all, fit_pieces, in_block, is_inside, is_some_row, overlay, pieces_of, put_all, reserved_all, served, size_of, some_bytes, some_pieces, some_put, state_over, told_replies, words_of-pieces_of, writes}
use Rattle.itm_types.specs.declared.datum.Datum.{Datum}
use Rattle.norec_data.specs.declared.end.CallEnd.{CallEnd}
use Rattle.norec_data.specs.declared.end.CallEnd.TheVariants as ends
use Rattle.norec_turns.proofs.OpenTransactions.{kept_sound}

-- what is sound stays so where only rows are written
pub written_sound : (d : Data) (f : Nest) (end : CallEnd) (buffer : Vec ℕ) → IsSound d Idle → in_block d ≡ true → KeepsAllButWrites d.frames f → AllWritesWithin d.words f.writes.rows → AreRows f.writes.rows
    → IsSoundTurn (End end) (record d { frames = f; buffer = buffer; spent = 0; entry = length d.log.rows })
written_sound d f end buffer s inside kept writes rows =
    let idle = s.in_phase.0 inside in
    let blocks : f.blocks ≡ d.frames.blocks = ap (λ (n : Nest). n.blocks) kept in
    record {
      asked = tt;
      sound = kept_sound d f d.arena buffer d.tries s inside (ap is_inside blocks ∙ inside) (ap (λ (n : Nest). n.size) kept) (ap (λ (n : Nest). n.depth) kept) refl writes rows
          (subst (AreFrames d.words) (sym blocks) idle.0.frames) (begun_same d.log.rows d.log.rows d.frames.actions f.actions d.frames.blocks f.blocks refl (ap (λ (n : Nest). n.actions) kept) blocks idle.0.begun) idle.0.tries;
    }

module _ (s : Data) (hint : WriteHint) (at : ℕ) (value : Datum) (f : Nest)
    (sound : IsSound s Idle) (may_write : access_refusal (in_block s) s.words at (size_of value.width) ≡ None)
    (most : size_of value.width ≤ 32) (are_bytes : AreBytes value.bytes.items)
    (rows : f.writes.rows ≡ put_all (reserved_all s.frames.writes.rows (pieces_of at (size_of value.width))) (pieces_of at (size_of value.width)) value.bytes.items)
    (kept : KeepsAllButWrites s.frames f) where
  abbrev blocks : f.blocks ≡ s.frames.blocks
  blocks = ap (λ (n : Nest). n.blocks) kept

  abbrev actions : f.actions ≡ s.frames.actions
  actions = ap (λ (n : Nest). n.actions) kept

  pub write_turns : CallTurns s (Write hint at value) false (End ends.Done) (record s { frames = f; spent = 0; entry = length s.log.rows })
  write_turns =
      let may = served (in_block s) s.words at (size_of value.width) may_write in
      let bytes = value.bytes.items in
      let size = size_of value.width in
      let ps = pieces_of at size in
      let idle = sound.in_phase.0 may.0 in
      let within : at + size ≤ 8 * s.words = may.1 in
      let fit : AllFitIn s.words ps bytes = fit_pieces s.words at size bytes within (omega (arith, value.sized, most)) are_bytes in
      let some : 0 < length ps = some_pieces at size (some_bytes value.width) in
      let all = λ (m : List ℕ) (mem : IsMemory s.words m).
      writes s.frames.depth s.frames.writes.rows s.frames.blocks s.arena s.frames.actions m s.words hint value at may.0 mem f.writes.rows within
      (ap is_some_row rows ∙ some_put (reserved_all s.frames.writes.rows ps) ps bytes some)
      (ap (λ (xs : List Row). bytes_of (overlay m xs)) rows
      ∙ bytes_of-put_all m s.frames.writes.rows at size bytes mem.1 idle.0.rows (omega (arith, within, mem.0)) (omega (arith, value.sized, most)) are_bytes value.sized) in
      let left =
      written_sound s f ends.Done s.buffer sound may.0 kept
      (subst (AllWritesWithin s.words) (sym rows) (AllWritesWithin-put_all s.words (reserved_all s.frames.writes.rows ps) ps bytes (AllWritesWithin-reserved_all s.words s.frames.writes.rows ps idle.0.writes (words_of-pieces_of at size s.words within)) fit))
      (subst AreRows (sym rows) (AreRows-put_all s.words (reserved_all s.frames.writes.rows ps) ps bytes (AreRows-reserved_all s.frames.writes.rows ps idle.0.rows) fit)) in
      let proceeds =
      told_replies s (Write hint at value) Done f s.arena sound (λ m mem. ((λ i. state_over f.writes.rows (blocks i) s.arena (actions i) m) ∙ (all m mem).0, (all m mem).1)) (λ m. rows) (λ m. refl)
      blocks actions (ap (λ (n : Nest). n.depth) kept) (ap (λ (n : Nest). n.room) kept, refl) (ap is_inside blocks) in
      search (rules, left, proceeds)

-- the same, by the bytes and their number as they were put
pub put_turns : (s : Data) (hint : WriteHint) (at : ℕ) (value : Datum) (f : Nest) (size : ℕ) (bytes : List ℕ) → IsSound s Idle → access_refusal (in_block s) s.words at (size_of value.width) ≡ None
    → size ≡ size_of value.width → size ≤ 32 → bytes ≡ value.bytes.items → AreBytes bytes
    → f.writes.rows ≡ put_all (reserved_all s.frames.writes.rows (pieces_of at size)) (pieces_of at size) bytes → KeepsAllButWrites s.frames f
    → CallTurns s (Write hint at value) false (End ends.Done) (record s { frames = f; spent = 0; entry = length s.log.rows })
put_turns s hint at value f size bytes sound accepted sized most same are rows kept =
    write_turns s hint at value f sound accepted (omega (arith, sized, most)) (subst AreBytes same are)
    (rows ∙ (λ i. put_all (reserved_all s.frames.writes.rows (pieces_of at (sized i))) (pieces_of at (sized i)) (same i))) kept
