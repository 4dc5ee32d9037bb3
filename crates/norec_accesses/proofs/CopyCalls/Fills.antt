-- Fills, as replies.
use Rattle.std.proofs.Common.{◌≡◌, ℕ, zero, suc, ◌+◌, ◌*◌, ◌%◌, ◌^◌, ◌<◌, ◌≤◌, false, List, length, replicate, Option, None, refl, sym, ap, subst, ◌∙◌, arith}
use Rattle.norec_accesses.proofs.Common.{Actions, AllWritesWithin, AllWritesWithin-put_range, AreBytes, AreRows, AreRows-put_range, CallTurns, Data, Done, End, Fill, Frame, Idle, IsMemory, IsSound, IsSoundTurn, KeepsAllButWrites, Nest, Refusal, Replies, Row, State, Up, Vec, WriteHint, access_refusal, access_same, after, after_unless, came, chunks_of, core, effect, in_block, is_inside, length-replicate, put_chunks, put_range, range_pieces, refusal, reply, reply_unless, reserved_all, served, state_over, told_replies, written_over}
use Rattle.itm_types.specs.declared.call.Call.{Call}
use Rattle.norec_data.specs.declared.end.CallEnd.TheVariants as ends
use Rattle.norec_turns.proofs.ImmediateReplies.{answered, filled_at_once}
use Rattle.norec_accesses.proofs.WriteReplies.{written_sound}

-- so many bytes of a value
abbrev pub bytes_set : ℕ → ℕ → List ℕ
bytes_set size byte = replicate size (byte % 256)

AreBytes-replicate : (n b : ℕ) → b < 2 ^ 8 → AreBytes (replicate n b)
AreBytes-replicate zero b l i = omega arith
AreBytes-replicate (suc n) b l zero = l
AreBytes-replicate (suc n) b l (suc i) = AreBytes-replicate n b l i

AreBytes-set : (size byte : ℕ) → AreBytes (bytes_set size byte)
AreBytes-set size byte = AreBytes-replicate size (byte % 256) (omega arith)

-- a fill by an engine that does not refuse it
fills : (depth : ℕ) (rows : List Row) (blocks : List Frame) (arena : List ℕ) (actions : Actions) (m : List ℕ) (words : ℕ) (hint : WriteHint) (to byte size : ℕ) → IsMemory words m → AreRows rows
    → access_refusal (is_inside blocks) words to size ≡ None
    → (state_over (put_range rows to Up (bytes_set size byte)) blocks arena actions m ≡ after depth (state_over rows blocks arena actions m) (Fill hint to byte size))
    × (Done ≡ reply depth (state_over rows blocks arena actions m) (Fill hint to byte size))
fills depth rows blocks arena actions m words hint to byte size mem are accepted =
    let s : State = state_over rows blocks arena actions m in
    let call : Call = Fill hint to byte size in
    let none : refusal depth s call ≡ None = access_same depth rows blocks arena actions m words call to size mem refl ∙ accepted in
    let within = (served (is_inside blocks) words to size accepted).1 in
    let n = mem.0 in
    let len : length (bytes_set size byte) ≡ size = length-replicate size (byte % 256) in (
      written_over m rows blocks arena actions to Up (bytes_set size byte) mem.1 are (AreBytes-set size byte) (omega arith) ∙ sym (ap (λ (r : Option Refusal). after_unless r s (effect s call)) none),
      sym (ap (λ (r : Option Refusal). reply_unless r Done) none),
    )

-- what a fill leaves
abbrev pub filled : Data → Nest → Vec ℕ → Data
filled d frames buffer = record d { frames = frames; buffer = buffer; spent = 0; entry = length d.log.rows }

pub record IsFilled (d : Data) (to byte size : ℕ) (frames : Nest) : Type 0 where
  pub accepted : access_refusal (in_block d) d.words to size ≡ None
  pub rows : frames.writes.rows ≡ put_range d.frames.writes.rows to Up (bytes_set size byte)
  pub kept : KeepsAllButWrites d.frames frames

-- a fill of no bytes
pub none_filled : (d : Data) (to byte size : ℕ) → access_refusal (in_block d) d.words to size ≡ None → size ≡ 0 → IsFilled d to byte size d.frames
none_filled d to byte size accepted none = record {
  accepted = accepted;
  rows = sym (ap (λ (n : ℕ). put_range d.frames.writes.rows to Up (bytes_set n byte)) none);
  kept = refl;
}

-- one of these bytes, whose words have rows
pub some_filled : (d : Data) (to byte size : ℕ) (rows : List Row) (bytes : List ℕ) (frames : Nest) → access_refusal (in_block d) d.words to size ≡ None
    → rows ≡ reserved_all d.frames.writes.rows (range_pieces to (chunks_of Up size)) → bytes ≡ bytes_set size byte → frames.writes.rows ≡ put_chunks rows to (chunks_of Up (length bytes)) bytes
    → KeepsAllButWrites d.frames frames → IsFilled d to byte size frames
some_filled d to byte size rows bytes frames accepted reserved are put kept =
    let len : size ≡ length (bytes_set size byte) = sym (length-replicate size (byte % 256)) in
    let same = reserved ∙ (λ i. reserved_all d.frames.writes.rows (range_pieces to (chunks_of Up (len i)))) in
    record {
      accepted = accepted;
      rows = put ∙ (λ i. put_chunks (same i) to (chunks_of Up (length (are i))) (are i));
      kept = kept;
    }

module _ (d : Data) (to byte size : ℕ) (frames : Nest) (buffer : Vec ℕ) (s : IsSound d Idle) (is : IsFilled d to byte size frames) where
  abbrev blocks : frames.blocks ≡ d.frames.blocks
  blocks = ap (λ (n : Nest). n.blocks) is.kept

  abbrev actions : frames.actions ≡ d.frames.actions
  actions = ap (λ (n : Nest). n.actions) is.kept

  filled_sound : IsSoundTurn (End ends.Done) (filled d frames buffer)
  filled_sound =
      let bytes = bytes_set size byte in
      let may = served (in_block d) d.words to size is.accepted in
      let idle = s.in_phase.0 may.0 in
      let len : length bytes ≡ size = length-replicate size (byte % 256) in
      let within = may.1 in
      let range : to + length bytes ≤ 8 * d.words = omega arith in
      written_sound d frames ends.Done buffer s may.0 is.kept
      (subst (AllWritesWithin d.words) (sym is.rows) (AllWritesWithin-put_range d.words d.frames.writes.rows to Up bytes idle.0.writes (AreBytes-set size byte) range))
      (subst AreRows (sym is.rows) (AreRows-put_range d.words d.frames.writes.rows to Up bytes idle.0.rows (AreBytes-set size byte) range))

  fill_replies : (hint : WriteHint) → Replies (came (core d Idle) (Fill hint to byte size) false) (Fill hint to byte size) Done (core (filled d frames buffer) Idle)
  fill_replies hint =
      let may = served (in_block d) d.words to size is.accepted in
      let all = λ (m : List ℕ) (mem : IsMemory d.words m). fills d.frames.depth d.frames.writes.rows d.frames.blocks d.arena d.frames.actions m d.words hint to byte size mem (s.in_phase.0 may.0).0.rows is.accepted in
      told_replies d (Fill hint to byte size) Done frames d.arena s (λ m mem. ((λ i. state_over (is.rows i) (blocks i) d.arena (actions i) m) ∙ (all m mem).0, (all m mem).1)) (λ m. is.rows) (λ m. refl)
      blocks actions (ap (λ (n : Nest). n.depth) is.kept) (ap (λ (n : Nest). n.room) is.kept, refl) (ap is_inside blocks)

  pub fill_turns : (hint : WriteHint) → CallTurns d (Fill hint to byte size) false (End ends.Done) (filled d frames buffer)
  fill_turns hint =
      answered d (Fill hint to byte size) ends.Done (filled d frames buffer) (filled_at_once d hint to byte size) filled_sound (fill_replies hint)
      (record { opens = λ o. sym (ap is_inside blocks) ∙ o; log = λ o. refl; snapshot = refl }) tt
