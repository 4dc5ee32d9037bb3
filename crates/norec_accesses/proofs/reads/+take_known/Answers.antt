use Rattle.std.proofs.Common.{◌≡◌, ℕ, ◌+◌, Option, None, Some, List, [], ◌++◌, length, take, drop, refl, sym, ap, subst, ◌∙◌, arith, slice_index}
use Rattle.norec_accesses.proofs.Common.{IsReading, Phase, Reading, count, gathered, is_had, length-append, length-part_of, load_among, load_ends, load_here, load_next, next_load, none_left, overlay, part_is, part_of, parts, rows_before, some_left}
use Rattle.norec_accesses.proofs.CopyCalls.Sources.{had_before}
use Rattle.norec_accesses.proofs.reads.+take_known.Goals as goal

-- the piece that is loaded is one of the same access
next_load_at : (r : Reading) (n : ℕ) (o : Option ℕ) (past : Phase) → next_load (record r { number = n }) o past ≡ next_load r o past
next_load_at r n None past = refl
next_load_at r n (Some number) past = refl

next_load_on : (r next : Reading) (n : ℕ) → next ≡ record r { number = n } → (o : Option ℕ) (past : Phase) → next_load next o past ≡ next_load r o past
next_load_on r next n is o past = ap (λ (x : Reading). next_load x o past) is ∙ next_load_at r n o past

pub take_known-piece-requires-clause-place : goal.take_known-piece-requires-clause-place
take_known-piece-requires-clause-place t c = omega (arith, c.requires.may.0, c.requires.may.2.within)

pub take_known-returns-in_default-clause-whole : goal.take_known-returns-in_default-clause-whole
take_known-returns-in_default-clause-whole t c =
    let r = c.args.reading in
    let s = c.args.state.now in
    let reading = c.requires.may.2 in
    let all = none_left r (sym c.piece.ensures.value ∙ c.in_default.is) in
    let same : r.number ≡ count r = omega (arith, all, reading.far) in
    subst (λ (n : ℕ). IsReading s (record r { number = n })) same reading

pub take_known-returns-in_default-clause-order : goal.take_known-returns-in_default-clause-order
take_known-returns-in_default-clause-order t c past = sym (load_ends (rows_before c.args.state.now) c.args.state.now.log.rows past c.args.reading (sym c.piece.ensures.value ∙ c.in_default.is))

pub take_known-gather-requires-clause-room : goal.take_known-gather-requires-clause-room
take_known-gather-requires-clause-room t c =
    let sized = c.requires.may.2.sized in
    let before = c.in-Some.ensures.next.before [] in
    let most = c.in-Some.ensures.next.piece.in_value in
    omega (arith, sized, before, most)

pub take_known-take_more-requires : goal.take_known-take_more-requires
take_known-take_more-requires t c =
    let s = c.args.state.now in
    let r = c.args.reading in
    let is_open = c.requires.may.1 in
    let reading = c.requires.may.2 in
    let p = c.in-Some.piece in
    let left = some_left r p (sym c.piece.ensures.value ∙ c.in-Some.is) in
    let gone = c.gather.ensures in
    let had = c.in-Some-known_word.ensures.part in
    let more = λ (m : List ℕ). c.in-Some.ensures.next.reads_on m in (
      rw c.next.ensures (omega (arith, left, c.decreases)),
      rw c.next.ensures (
        c.requires.may.0,
        record { is_open = is_open.is_open; log = is_open.log; writes = is_open.writes; rows = is_open.rows; frames = is_open.frames; begun = is_open.begun; tries = is_open.tries },
        record {
          within = reading.within;
          small = reading.small;
          purpose = reading.purpose;
          far = omega (arith, left);
          has = λ m mem agrees.
              (let word = c.in-Some.ensures.next.in_memory s.words reading.within in
              let same = had m mem.1 agrees (omega (arith, word, mem.0)) in
              gone ∙ ((λ i. reading.has m mem agrees i ++ sym same i) ∙ sym (more (overlay m s.frames.writes.rows))));
          sized =
              (let parts_are = more [] in
              let in_word = c.in-Some.ensures.next.piece.in_word in
              omega (
                arith,
                ap (length {A = ℕ}) gone,
                length-append s.gathered.items (part_of p c.in-Some-known_word.value),
                reading.sized,
                ap (length {A = ℕ}) parts_are,
                length-append (gathered [] (take r.number (parts r))) (part_of p (slice_index [] p.word)),
                length-part_of p c.in-Some-known_word.value in_word,
                length-part_of p (slice_index [] p.word) in_word,
              ));
        },
      ),
    )

pub take_known-returns-in-Some-known_word-clause-order : goal.take_known-returns-in-Some-known_word-clause-order
take_known-returns-in-Some-known_word-clause-order t c past =
    let s = c.args.state.now in
    let r = c.args.reading in
    let is = sym c.piece.ensures.value ∙ c.in-Some.is in
    let had = had_before s r.purpose r.at r.size c.requires.may.2.purpose c.in-Some.piece c.in-Some.ensures.next.piece ∙ sym c.in-Some-known_word.ensures.had in
    sym (next_load_on r c.next.result (r.number + 1) c.next.ensures c.take_more.result past)
    ∙ (c.take_more.ensures.order past
    ∙ (ap (λ (x : Reading). load_among (rows_before s) s.log.rows past x (drop x.number (parts x))) c.next.ensures ∙ sym (load_next (rows_before s) s.log.rows past r c.in-Some.piece is had)))

pub take_known-returns-in-None-clause-next : goal.take_known-returns-in-None-clause-next
take_known-returns-in-None-clause-next t c =
    let s = c.args.state.now in
    let r = c.args.reading in
    let is = sym c.piece.ensures.value ∙ c.in-Some.is in
    let is_open = c.requires.may.1 in
    let reading = c.requires.may.2 in (
      omega arith,
      record { within = reading.within; small = reading.small; purpose = reading.purpose; far = reading.far; has = reading.has; sized = reading.sized },
      record {
        some = some_left r c.in-Some.piece is;
        unhad = ap (is_had s.frames.writes.rows s.log.rows) (sym (part_is r c.in-Some.piece is)) ∙ sym c.in-None.ensures.had;
      },
    )

pub take_known-returns-in-None-clause-order : goal.take_known-returns-in-None-clause-order
take_known-returns-in-None-clause-order t c past =
    let s = c.args.state.now in
    let r = c.args.reading in
    let unhad = had_before s r.purpose r.at r.size c.requires.may.2.purpose c.in-Some.piece c.in-Some.ensures.next.piece ∙ sym c.in-None.ensures.had in
    sym (load_here (rows_before s) s.log.rows past r c.in-Some.piece (sym c.piece.ensures.value ∙ c.in-Some.is) unhad)
