-- A value that is read whole, and its answer.
use Rattle.std.proofs.Common.{◌≡◌, ℕ, ◌+◌, ◌*◌, ◌/◌, ◌≤◌, List, [], drop, refl, sym, ap, subst, ◌∙◌, arith}
use Rattle.norec_accesses.proofs.Common.{Agrees, Bytes, Data, Idle, IsBounded, IsFor, IsMemory, IsOpen, IsValue, LogRow, Purpose, Read, Reading, Replies, Row, after, between, bytes_of, call_for, core, count, drop_all, load_among, load_past, load_stage, logged, overlay, parts, piece_of, reads, reply, rows_before, size_of, slice, state_over, take_all}
use Rattle.std.proofs.lemmas.List.FromFn.{length-map-range_with_len}
use Rattle.norec_core.specs.Aims as aims
use Rattle.norec_core.specs.declared.call_parts.Purpose.TheVariants as for

-- a value is read behind all the rows that there are
pub all_before : (s : Data) (what : Purpose) (at size : ℕ) → IsFor s what at size → IsValue what → rows_before s ≡ s.frames.writes.rows
all_before s (for.Value hint width) at size f value = take_all s.written s.frames.writes.rows (omega (arith, f.1))
all_before s (for.Chunk k n) at size f value = absurd value

-- the read finds these bytes in whatever memory agrees with the log
pub record Finds (s : Data) (r : Reading) (bytes : List ℕ) : Type 0 where
  pub bounds : IsBounded s.words s.limits s.restarted s.snapshot s.frames.size s.frames.depth s.arena
  pub is_open : IsOpen s
  pub within : r.at + r.size ≤ 8 * s.words
  pub purpose : IsFor s r.purpose r.at r.size
  pub settled : s.clock ≡ s.snapshot
  pub has : (m : List ℕ) → IsMemory s.words m → Agrees m s.log.rows → bytes ≡ slice (bytes_of (overlay m s.frames.writes.rows)) r.at r.size

-- so they are its answer
module _ (s : Data) (r : Reading) (bytes : List ℕ) (finds : Finds s r bytes) (log : List LogRow) where
  pub replies : (what : Purpose) → r.purpose ≡ what → IsValue what → Replies (logged (between s (aims.Read (record r { purpose = what }))) log) (call_for what r.at) (Bytes (record { items = bytes })) (core s Idle)
  replies (for.Value hint width) is value =
      let rows : List Row = s.frames.writes.rows in
      let f = subst (λ (what : Purpose). IsFor s what r.at r.size) is finds.purpose in
      let before : rows_before s ≡ rows = all_before s (for.Value hint width) r.at r.size f tt in
      let within : r.at + size_of width ≤ 8 * s.words = omega (arith, finds.within, f.0) in
      let all = λ (m : List ℕ) (mem : IsMemory s.words m) (agrees : Agrees m s.log.rows).
      reads s.frames.depth rows s.frames.blocks s.arena s.frames.actions m s.words hint width r.at finds.is_open.is_open mem bytes within (finds.has m mem agrees ∙ ap (slice (bytes_of (overlay m rows)) r.at) f.0) in
      record {
        meets = λ m mem agrees. (all m mem agrees).0 ∙ ap (λ (rs : List Row). after s.frames.depth (state_over rs s.frames.blocks s.arena s.frames.actions m) (Read hint width r.at)) (sym before);
        reply_is = λ m mem agrees. (all m mem agrees).1 ∙ ap (λ (rs : List Row). reply s.frames.depth (state_over rs s.frames.blocks s.arena s.frames.actions m) (Read hint width r.at)) (sym before);
        stays = refl;
        writes = λ m mem agrees. sym before;
        arena = λ m mem agrees. refl;
        free = refl;
        revocable = refl;
        unfreed = refl;
        blocks = refl;
        actions = refl;
        still = λ other o. o;
        settled = λ o. (finds.settled, finds.bounds.even);
      }
  replies (for.Chunk k n) is value = absurd value

-- past a value nothing is loaded
past_value : (writes : List Row) (log : List LogRow) (what : Purpose) → IsValue what → load_past writes log what ≡ Idle
past_value writes log (for.Value hint width) value = refl
past_value writes log (for.Chunk k n) value = absurd value

pub loads_no_more : (writes : List Row) (log : List LogRow) (r : Reading) → IsValue r.purpose → count r ≤ r.number → load_stage writes log r ≡ Idle
loads_no_more writes log r value whole =
    let past = load_past writes log r.purpose in
    let none : drop r.number (parts r) ≡ [] = drop_all r.number (parts r) (omega (arith, whole, length-map-range_with_len (piece_of r.at r.size) (r.at / 8) (count r))) in
    ap (load_among writes log past r) none ∙ past_value writes log r.purpose value
