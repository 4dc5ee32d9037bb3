use Rattle.std.proofs.Common.{◌≡◌, ℕ, suc, ◌+◌, length, drop, sym, ap, subst, ◌∙◌, arith, add-one, rules}
use Rattle.norec_accesses.proofs.Common.{Data, IsReading, Phase, Reading, Turns, Wait, bytes_of, chunk_reading, chunk_there, chunks_in, direction_of, in_copy, length-bytes_of, length-overlay, length-slice, load_among, load_chunks, load_proceeds, load_sound, logs_chunk, may_read, no_reading, none_drop, open_gathering, overlay, parts, reading_of, rows_before, some_count, some_drop, source_within, starts_chunk, whole_source, words_in-next}
use Rattle.norec_data.specs.declared.pending.Pending.TheVariants as waits
use Rattle.norec_accesses.proofs.copies.next_chunk.Goals as goal

pub take_known-requires : goal.take_known-requires
take_known-requires c =
    let s = c.loop-reading.state in
    let k = c.args.copying in
    let n = c.loop-reading.number in
    let may = c.loop-reading.invariant.may in
    let at = reading_of k n c.in-Some.reading (sym c.in-Some.is ∙ c.chunk_reading.ensures.value) in
    record {
      may = (
        may.bounds.small,
        open_gathering s _ may.is_open,
        subst (IsReading (record s { gathered = c.new-state.result })) (sym at.2) (starts_chunk s k n at.0 c.new-state.result at.1 c.new-state.ensures may),
      );
    }

pub returns-in-Some-take_known-clause-goes : goal.returns-in-Some-take_known-clause-goes
returns-in-Some-take_known-clause-goes c =
    let s = c.loop-reading.state in
    let may = c.loop-reading.invariant.may in
    let k = c.args.copying in
    let n = c.loop-reading.number in
    let at = reading_of k n c.in-Some.reading (sym c.in-Some.is ∙ c.chunk_reading.ensures.value) in
    let next : Reading = record c.in-Some.reading { number = c.in-Some-take_known.number } in
    let found = c.in-Some-take_known.ensures.next in
    let same : next ≡ record (chunk_reading k n at.0) { number = next.number } = ap (λ (r : Reading). record r { number = c.in-Some-take_known.number }) at.2 in
    let g = c.take_known.new.state.gathered in
    let read = may_read (record s { gathered = c.new-state.result }) (chunk_reading k n at.0) next g same (omega arith) (logs_chunk s k n at.0 c.new-state.result may) (rw (← c.take_known.ensures.frame) found.1) (rw (← c.take_known.ensures.frame) found.2) in
    record {
      sound = rw c.take_known.ensures.frame (load_sound (record s { gathered = g }) (chunk_reading k n at.0) next same (omega arith) may.bounds (open_gathering s _ may.is_open) read may.settled (omega (arith, may.spent)));
      proceeds =
          subst (λ mid. Turns mid (Wait waits.Load) (record c.take_known.new.state { reading = next })) (ap (λ (d : Data). in_copy d k) c.loop-reading.invariant.frame)
          (rw c.take_known.ensures.frame (load_proceeds (record s { gathered = g }) (chunk_reading k n at.0) next same (omega arith) may.bounds (open_gathering s _ may.is_open) read may.settled (omega (arith, may.spent)) s.log.rows));
      stays = search rules;
      order =
          (let before = rows_before c.args.state.now in
          let rest = drop (suc n) (chunks_in k) in
          let log = c.args.state.now.log.rows in
          let past : Phase = load_chunks before log k (suc n) rest in
          let rows = ap rows_before c.loop-reading.invariant.frame in
          let logs = ap (λ (d : Data). d.log.rows) c.loop-reading.invariant.frame in
          c.in-Some-take_known.ensures.order past
          ∙ ((λ i. load_among (rows i) (logs i) past (at.2 i) (drop (at.2 i).number (parts (at.2 i))))
          ∙ (sym (ap (load_chunks before log k n) (some_drop (chunks_in k) n at.0 at.1)) ∙ sym c.loop-reading.invariant.order)));
      ends = tt;
      tries = search rules;
    }

pub overflow_add-number : goal.overflow_add-number
overflow_add-number c =
    let k = c.args.copying in
    let n = c.loop-reading.number in
    let at = reading_of k n c.in-Some.reading (sym c.in-Some.is ∙ c.chunk_reading.ensures.value) in
    let there = chunk_there (direction_of k) k.size n at.0 at.1 in
    let may = c.loop-reading.invariant.may in
    omega (arith, there.0, source_within c.loop-reading.state.words (length c.loop-reading.state.arena) k may.copied.shared may.copied.served.accepted, may.bounds.small)

pub loop-reading-smaller : goal.loop-reading-smaller
loop-reading-smaller c =
    let k = c.args.copying in
    let n = c.loop-reading.number in
    let at = reading_of k n c.in-Some.reading (sym c.in-Some.is ∙ c.chunk_reading.ensures.value) in
    omega (arith, some_count (chunks_in k) n at.0 at.1)

pub loop-reading-preserved : goal.loop-reading-preserved
loop-reading-preserved c =
    let s = c.loop-reading.state in
    let may = c.loop-reading.invariant.may in
    let k = c.args.copying in
    let n = c.loop-reading.number in
    let cs = chunks_in k in
    let before = rows_before c.args.state.now in
    let at = reading_of k n c.in-Some.reading (sym c.in-Some.is ∙ c.chunk_reading.ensures.value) in
    let there = some_count cs n at.0 at.1 in
    let more = words_in-next k.from cs n at.0 at.1 in
    let log = c.args.state.now.log.rows in
    let past : Phase = load_chunks before log k (n + 1) (drop (n + 1) cs) in
    let next : load_chunks before log k (suc n) (drop (suc n) cs) ≡ past = ap (λ (i : ℕ). load_chunks before log k i (drop i cs)) (sym (add-one n)) in
    let rows = ap rows_before c.loop-reading.invariant.frame in
    let logs = ap (λ (d : Data). d.log.rows) c.loop-reading.invariant.frame in
    let kept = ap (λ (d : Data). d.gathered) c.keep_chunk.ensures.frame in
    let frame = c.keep_chunk.ensures.frame ∙ (λ i. record (c.take_known.ensures.frame i) { buffer = c.keep_chunk.new.state.buffer }) in
    record {
      may = record {
        bounds = rw frame may.bounds;
        is_open = rw frame (record { is_open = may.is_open.is_open; log = may.is_open.log; writes = may.is_open.writes; rows = may.is_open.rows; frames = may.is_open.frames; begun = may.is_open.begun; tries = may.is_open.tries });
        copied = c.keep_chunk.ensures.copied;
        settled = rw frame may.settled;
        far = omega (arith, there);
        room = rw frame (omega (arith, may.room, more));
        grown = rw frame (omega (arith, may.grown, more));
        spent = rw frame (omega (arith, may.spent, more));
      };
      frame =
          frame ∙ ((λ i. record (c.loop-reading.invariant.frame i) { gathered = c.take_known.new.state.gathered; buffer = c.keep_chunk.new.state.buffer })
          ∙ (λ i. record c.args.state.now { gathered = sym kept i; buffer = c.keep_chunk.new.state.buffer }));
      order =
          c.loop-reading.invariant.order
          ∙ (ap (load_chunks before log k n) (some_drop cs n at.0 at.1)
          ∙ ((λ i. load_among (sym rows i) (sym logs i) (load_chunks before log k (suc n) (drop (suc n) cs)) (sym at.2 i) (drop (sym at.2 i).number (parts (sym at.2 i))))
          ∙ (sym (c.in_default-take_known.ensures.order (load_chunks before log k (suc n) (drop (suc n) cs))) ∙ next)));
    }

pub copied-requires : goal.copied-requires
copied-requires c =
    let s = c.loop-reading.state in
    let may = c.loop-reading.invariant.may in
    let k = c.args.copying in
    let n = c.loop-reading.number in
    let none = no_reading k n (sym c.in_default.is ∙ c.chunk_reading.ensures.value) in
    let within = source_within s.words (length s.arena) k may.copied.shared may.copied.served.accepted in
    record {
      may = record {
        bounds = may.bounds;
        is_open = may.is_open;
        source = record {
          served = may.copied.served;
          has = λ m mem agrees.
              (let rows = s.frames.writes.rows in
              let bytes = length-bytes_of (overlay m rows) in
              let same : length (overlay m rows) ≡ s.words = length-overlay m rows ∙ mem.0 in
              whole_source k n s.arena (bytes_of (overlay m rows)) s.buffer.items may.copied.shared none
              (length-slice (bytes_of (overlay m rows)) k.from k.size (omega (arith, bytes, same, within)))
              (may.copied.has m mem agrees));
        };
        settled = may.settled;
      };
    }

pub returns-clause-goes : goal.returns-clause-goes
returns-clause-goes c =
    let k = c.args.copying in
    let n = c.loop-reading.number in
    let before = rows_before c.args.state.now in
    let none = no_reading k n (sym c.in_default.is ∙ c.chunk_reading.ensures.value) in
    search (rules, c.copied.ensures.goes.order ∙ (sym (ap (load_chunks before c.args.state.now.log.rows k n) (none_drop (chunks_in k) n none)) ∙ sym c.loop-reading.invariant.order))
