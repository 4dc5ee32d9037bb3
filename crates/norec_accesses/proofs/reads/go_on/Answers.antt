use Rattle.std.proofs.Common.{◌≡◌, ℕ, ◌+◌, ◌*◌, length, take, drop, refl, sym, ap, subst, ◌∙◌, arith, add-one, rules}
use Rattle.norec_accesses.proofs.Common.{Core, Data, IsFor, IsValue, Purpose, Reading, Turns, between, chunk_there, chunks_in, count, count_of, direction_of, in_copy, load_chunks, load_past, load_proceeds, load_sound, logged, may_read, open_gathering, passed, passed_for, rows_before, some_count, source_within, source_words, total, total_for, words_in, words_in-next}
use Rattle.norec_core.specs.Aims as aims
use Rattle.norec_accesses.proofs.reads.go_on.Goals as goal

pub take_known-requires : goal.take_known-requires
take_known-requires c =
    let may = c.requires.may in
    record { may = (may.bounds.small, may.is_open, may.reading) }

pub returns-in-Some-clause-proceeds : goal.returns-in-Some-clause-proceeds
returns-in-Some-clause-proceeds c log =
    let s = c.args.state.now in
    let may = c.requires.may in
    let found = c.in-Some.ensures.next in
    let next : Reading = record c.args.reading { number = c.in-Some.number } in
    let read = may_read s c.args.reading next c.take_known.new.state.gathered refl found.0 may.logging (rw (← c.take_known.ensures.frame) found.1) (rw (← c.take_known.ensures.frame) found.2) in
    rw c.take_known.ensures.frame (load_proceeds (record s { gathered = c.take_known.new.state.gathered }) c.args.reading next refl found.0 may.bounds (open_gathering s _ may.is_open) read may.settled may.spent log)

pub returns-in-Some-clause-goes : goal.returns-in-Some-clause-goes
returns-in-Some-clause-goes c = record {
  sound =
      (let s = c.args.state.now in
      let may = c.requires.may in
      let found = c.in-Some.ensures.next in
      let next : Reading = record c.args.reading { number = c.in-Some.number } in
      let read = may_read s c.args.reading next c.take_known.new.state.gathered refl found.0 may.logging (rw (← c.take_known.ensures.frame) found.1) (rw (← c.take_known.ensures.frame) found.2) in
      rw c.take_known.ensures.frame (load_sound (record s { gathered = c.take_known.new.state.gathered }) c.args.reading next refl found.0 may.bounds (open_gathering s _ may.is_open) read may.settled may.spent));
  proceeds = returns-in-Some-clause-proceeds c c.args.state.now.log.rows;
  stays = search rules;
  order = c.in-Some.ensures.order (load_past (rows_before c.args.state.now) c.args.state.now.log.rows c.args.reading.purpose);
  ends = search rules;
  tries = search rules;
}

pub overflow_add-number : goal.overflow_add-number
overflow_add-number c =
    let s = c.args.state.now in
    let r = c.args.reading in
    let k = c.in-Chunk.copying in
    let may = c.requires.may in
    let f = subst (λ (what : Purpose). IsFor s what r.at r.size) c.in-Chunk.is may.reading.purpose in
    let there = chunk_there (direction_of k) k.size c.in-Chunk.number f.chunk f.is in
    omega (arith, there.0, source_within s.words (length s.arena) k f.copied.shared f.copied.served.accepted, may.bounds.small)

pub next_chunk-requires : goal.next_chunk-requires
next_chunk-requires c =
    let s = c.args.state.now in
    let r = c.args.reading in
    let k = c.in-Chunk.copying in
    let n = c.in-Chunk.number in
    let may = c.requires.may in
    let f = subst (λ (what : Purpose). IsFor s what r.at r.size) c.in-Chunk.is may.reading.purpose in
    let words : count r ≡ count_of (k.from + f.chunk.at) f.chunk.size = λ i. count_of (f.at_is i) (f.size_is i) in
    let more = words_in-next k.from (chunks_in k) n f.chunk f.is in
    let passed_is : passed r ≡ words_in k.from (take n (chunks_in k)) + r.number = ap (λ (what : Purpose). passed_for what r.number) c.in-Chunk.is in
    let total_is : total r ≡ source_words k = ap (λ (what : Purpose). total_for what (count r)) c.in-Chunk.is in
    let rounds : s.tries * (s.entry + total r + 4) ≡ s.tries * (s.entry + source_words k + 4) = ap (λ (t : ℕ). s.tries * (s.entry + t + 4)) total_is in
    let frame = c.keep_chunk.ensures.frame ∙ (λ i. record (c.take_known.ensures.frame i) { buffer = c.keep_chunk.new.state.buffer }) in
    record {
      may = record {
        bounds = rw frame may.bounds;
        is_open = rw frame (record { is_open = may.is_open.is_open; log = may.is_open.log; writes = may.is_open.writes; rows = may.is_open.rows; frames = may.is_open.frames; begun = may.is_open.begun; tries = may.is_open.tries });
        copied = c.keep_chunk.ensures.copied;
        settled = rw frame may.settled;
        far = omega (arith, some_count (chunks_in k) n f.chunk f.is);
        room = rw frame (omega (arith, may.logging.room, may.reading.far, more, words, passed_is, total_is));
        grown = rw frame (omega (arith, may.logging.grown, may.reading.far, more, words, passed_is));
        spent = rw frame (omega (arith, may.spent, may.reading.far, more, words, passed_is, rounds));
      };
    }

pub reply_gathered-requires : goal.reply_gathered-requires
reply_gathered-requires c =
    let s = c.args.state.now in
    let may = c.requires.may in
    let o = may.is_open in
    record {
      may = record {
        bounds = rw c.take_known.ensures.frame may.bounds;
        is_open = rw c.take_known.ensures.frame (record { is_open = o.is_open; log = o.log; writes = o.writes; rows = o.rows; frames = o.frames; begun = o.begun; tries = o.tries });
        value = subst IsValue (sym c.in-Value.is) tt;
        whole = c.in_default.ensures.whole;
        settled = rw c.take_known.ensures.frame may.settled;
      };
    }

pub returns-in-Value-clause-proceeds : goal.returns-in-Value-clause-proceeds
returns-in-Value-clause-proceeds c log =
    let s = c.args.state.now in
    subst (λ (mid : Core). Turns (logged mid log) c.reply_gathered.result c.reply_gathered.new.state) (ap (λ (d : Data). between d (aims.Read c.args.reading)) c.take_known.ensures.frame) (c.reply_gathered.ensures.proceeds log)

pub returns-in-Value-clause-goes : goal.returns-in-Value-clause-goes
returns-in-Value-clause-goes c =
    let s = c.args.state.now in
    search (rules, returns-in-Value-clause-proceeds c c.args.state.now.log.rows, c.reply_gathered.ensures.goes.order ∙ (ap (load_past (rows_before s) s.log.rows) (sym c.in-Value.is) ∙ c.in_default.ensures.order (load_past (rows_before s) s.log.rows c.args.reading.purpose)))

pub returns-in-Chunk-clause-proceeds : goal.returns-in-Chunk-clause-proceeds
returns-in-Chunk-clause-proceeds c log =
    let s = c.args.state.now in
    let r = c.args.reading in
    let k = c.in-Chunk.copying in
    let frame = c.keep_chunk.ensures.frame ∙ (λ i. record (c.take_known.ensures.frame i) { buffer = c.keep_chunk.new.state.buffer }) in
    let same : in_copy c.keep_chunk.new.state k ≡ between s (aims.Read r) =
    ap (λ (d : Data). in_copy d k) frame ∙ ap (λ (what : Purpose). between s (aims.Read (record r { purpose = what }))) (sym c.in-Chunk.is) in
    subst (λ mid. Turns (logged mid log) c.next_chunk.result c.next_chunk.new.state) same (c.next_chunk.ensures.proceeds log)

pub returns-in-Chunk-clause-goes : goal.returns-in-Chunk-clause-goes
returns-in-Chunk-clause-goes c =
    let s = c.args.state.now in
    let k = c.in-Chunk.copying in
    let n = c.in-Chunk.number in
    let before = rows_before s in
    let frame = c.keep_chunk.ensures.frame ∙ (λ i. record (c.take_known.ensures.frame i) { buffer = c.keep_chunk.new.state.buffer }) in
    let order =
    c.next_chunk.ensures.goes.order
    ∙ ((λ i. load_chunks (rows_before (frame i)) (frame i).log.rows k (add-one n i) (drop (add-one n i) (chunks_in k)))
    ∙ (ap (load_past before s.log.rows) (sym c.in-Chunk.is) ∙ c.in_default.ensures.order (load_past before s.log.rows c.args.reading.purpose))) in
    search (rules, returns-in-Chunk-clause-proceeds c c.args.state.now.log.rows, order)
