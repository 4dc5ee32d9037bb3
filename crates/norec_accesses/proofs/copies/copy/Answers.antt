use Rattle.std.proofs.Common.{◌≡◌, ℕ, false, List, length, None, sym, ap, subst, ◌∙◌, inl, inr, rules, is_none}
use Rattle.norec_accesses.proofs.Common.{CopyPair, Data, Nest, Phase, Row, Turns, accepted_sides, arena_within, bytes_of, chunks_in, cond-true, copy_refusal, in_block, in_copy, is_inside, is_out, length-slice, load_chunks, logged, overlay, phase_after, rows_before, slice, source_refusal, starts_chunks, tries_after, tries_at}
use Rattle.norec_accesses.proofs.CopyCalls.ReadyCopies.{ready, taken, before, ready_bounds, ready_open, ready_settled, ready_served, ready_came, ready_to_copy, copy_stage_is, out_source}
use Rattle.norec_accesses.proofs.copies.copy.Goals as goal

pub next_chunk-requires : goal.next_chunk-requires
next_chunk-requires c =
    let s = c.args.state.now in
    let e = c.reserve.new.state in
    let k = c.args.copying in
    let made = c.in_ok-reserve.ensures in
    let shared : is_out k.pair ≡ false = elim c.in-In.is [
      | inl is ↦ ap is_out is.1
      | inr is ↦ ap is_out is.2
    ] in
    rw c.start_call.ensures (rw made.frame (rw c.len-written.ensures.len (record {
      may = ready_to_copy s e k c.requires.sound (sym c.in_default.ensures) made.log made.kept made.rows made.may_put shared made.buffer (made.room shared);
    })))

pub copied-requires : goal.copied-requires
copied-requires c =
    let s = c.args.state.now in
    let e = c.reserve.new.state in
    let k = c.args.copying in
    let made = c.in_ok-reserve.ensures in
    let sound = c.requires.sound in
    let accepted = sym c.in_default.ensures in
    let arena_is : c.start_call.new.self.arena ≡ s.arena = ap (λ (d : Data). d.arena) c.start_call.ensures ∙ ap (λ (d : Data). d.arena) made.frame in
    let bytes = c.take_source.ensures.bytes ∙ ap (λ (a : List ℕ). slice a k.from k.size) arena_is in
    let fits = taken s e k sound accepted made.log made.kept made.rows made.may_put in
    let source = subst (λ (pair : CopyPair). source_refusal s.words (length s.arena) pair k.from k.size ≡ None) c.in-Out.is (accepted_sides s.words (length s.arena) k fits).1 in
    let many = ap (length {A = ℕ}) bytes ∙ length-slice s.arena k.from k.size (arena_within (length s.arena) k.from k.size source) in
    let ready_is = ready_open s e k sound accepted made.log made.kept made.rows made.may_put in
    rw c.take_source.ensures.frame (rw c.start_call.ensures (rw made.frame (rw c.len-written.ensures.len (record {
      may = record {
        bounds = ready_bounds s e k sound accepted made.log made.kept made.rows made.may_put;
        is_open = record { is_open = ready_is.is_open; log = ready_is.log; writes = ready_is.writes; rows = ready_is.rows; frames = ready_is.frames; begun = ready_is.begun; tries = ready_is.tries };
        source = record {
          served = ready_served s e k sound accepted made.log made.kept made.rows made.may_put c.take_source.new.state.buffer.items many;
          has = λ m mem agrees. bytes ∙ sym (out_source k.pair s.arena (bytes_of (overlay m e.frames.writes.rows)) k.from k.size (ap is_out c.in-Out.is));
        };
        settled = ready_settled s e k sound accepted made.log made.kept made.rows made.may_put;
      };
    }))))

pub returns-in-Out : goal.returns-in-Out
returns-in-Out c =
    let s = c.args.state.now in
    let e = c.reserve.new.state in
    let k = c.args.copying in
    let made = c.in_ok-reserve.ensures in
    let b = c.take_source.new.state.buffer in
    let is : c.take_source.new.state ≡ record (ready s e) { buffer = b } =
    c.take_source.ensures.frame
    ∙ ((λ i. record (c.start_call.ensures i) { tries = 0; written = c.len-written.ensures.len i; buffer = b })
    ∙ (λ i. record (made.frame i) { spent = 0; entry = length e.log.rows; tries = 0; written = length s.frames.writes.rows; buffer = b })) in
    let proceeds =
    subst (λ mid. Turns mid c.copied.result c.copied.new.state)
    (ap (λ (d : Data). logged (in_copy d k) s.log.rows) is ∙ ready_came s e k c.requires.sound (sym c.in_default.ensures) made.log made.kept made.rows made.may_put)
    (c.copied.ensures.proceeds s.log.rows) in
    search (rules, proceeds)

pub returns-in-In : goal.returns-in-In
returns-in-In c =
    let s = c.args.state.now in
    let e = c.reserve.new.state in
    let k = c.args.copying in
    let made = c.in_ok-reserve.ensures in
    let sound = c.requires.sound in
    let accepted = sym c.in_default.ensures in
    let cs = chunks_in k in
    let shared : is_out k.pair ≡ false = elim c.in-In.is [
      | inl is ↦ ap is_out is.1
      | inr is ↦ ap is_out is.2
    ] in
    let came_at : Data = record c.start_call.new.self { tries = 0; written = c.len-written.result } in
    let is : came_at ≡ ready s e =
    (λ i. record (c.start_call.ensures i) { tries = 0; written = c.len-written.ensures.len i })
    ∙ (λ i. record (made.frame i) { spent = 0; entry = length e.log.rows; tries = 0; written = length s.frames.writes.rows }) in
    let rows : List Row = s.frames.writes.rows in
    let old : rows_before came_at ≡ rows = ap rows_before is ∙ before s e k sound accepted made.log made.kept made.rows made.may_put in
    let log = s.log.rows in
    let logs : came_at.log.rows ≡ log = ap (λ (d : Data). d.log.rows) is ∙ made.log in
    let at : phase_after c.next_chunk.result c.next_chunk.new.state ≡ load_chunks rows log k 0 cs = c.next_chunk.ensures.goes.order ∙ (λ i. load_chunks (old i) (logs i) k 0 cs) in
    record {
      sound = c.next_chunk.ensures.goes.sound;
      proceeds =
          subst (λ mid. Turns mid c.next_chunk.result c.next_chunk.new.state)
          (ap (λ (d : Data). logged (in_copy d k) s.log.rows) is ∙ ready_came s e k sound accepted made.log made.kept made.rows made.may_put)
          (c.next_chunk.ensures.proceeds s.log.rows);
      stays = record {
        opens = λ o. sym (ap in_block is ∙ ap (λ (n : Nest). is_inside n.blocks) made.kept) ∙ c.next_chunk.ensures.goes.stays.opens o;
        log = λ o. c.next_chunk.ensures.goes.stays.log o ∙ (ap (λ (d : Data). d.log.rows) is ∙ made.log);
        snapshot = c.next_chunk.ensures.goes.stays.snapshot ∙ ap (λ (d : Data). d.snapshot) is;
      };
      order = at ∙ (sym (copy_stage_is rows log k k.pair shared) ∙ sym (cond-true (is_none (copy_refusal (in_block s) s.words (length s.arena) k)) _ _ (ap is_none accepted)));
      ends = c.next_chunk.ensures.goes.ends;
      tries = c.next_chunk.ensures.goes.tries ∙ (ap (λ (x : Phase). tries_after x 0) at ∙ (starts_chunks rows log k 0 cs ∙ sym (ap tries_at at)));
    }
