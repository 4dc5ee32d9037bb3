use Rattle.std.proofs.Common.{◌≡◌, ℕ, List, [], ◌∷◌, ◌++◌, Some, length, slice_get, take, sym, ap, subst, ◌∙◌, arith, ◌==◌, eq-eqb, Option, rules, slice_index}
use Rattle.norec_accesses.proofs.Common.{Answer, LogRow, Piece, TurnEndsSo, among, cond-true, count, gathered, index_of, is_had, length-append, length-part_of, none_left, overlay, part_is, part_of, parts, passed_next, total_left}
use Rattle.norec_accesses.proofs.ReadCalls.JoinedRows.{agreed_before, has_value, joined_open, joined_for, joins, stage_joined, log_joined}
use Rattle.norec_accesses.proofs.CopyCalls.Sources.{unlogged}
use Rattle.norec_accesses.proofs.reads.confirmed.Goals as goal

-- the rows with one of this word
abbrev with_row : List LogRow → ℕ → ℕ → List LogRow
with_row rows value word = rows ++ record { word = word; value = value } ∷ []

pub unreachable-requires : goal.unreachable-requires
unreachable-requires c = (let none = none_left c.args.state.now.reading (sym c.piece.ensures.value ∙ c.in_default-piece.is) in let some = c.requires.sound.in_phase.1.missing.some in absurd (omega arith))

pub add-requires : goal.add-requires
add-requires c =
    let s = c.args.state.now in
    let r = s.reading in
    let p = c.in-Some-piece.piece in
    let phase = c.requires.sound.in_phase in
    let to_come = total_left r.purpose r.number (count r) (among s r.purpose r.at r.size phase.1.reading.purpose) phase.1.missing.some in
    let word = c.in-Some-piece.ensures.next.in_memory s.words phase.1.reading.within in
    let is = part_is r p (sym c.piece.ensures.value ∙ c.in-Some-piece.is) in
    record {
      room = omega (arith, to_come, phase.1.logging.room);
      word = omega (arith, word, c.requires.sound.bounds.small);
      first = unlogged s.frames.writes.rows s.log.rows p (ap (is_had s.frames.writes.rows s.log.rows) is ∙ phase.1.missing.unhad);
    }

pub go_past-requires : goal.go_past-requires
go_past-requires c =
    let s = c.args.state.now in
    let r = s.reading in
    let sound = c.requires.sound in
    let reading = sound.in_phase.1.reading in
    let p = c.in-Some-piece.piece in
    let left = sound.in_phase.1.missing.some in
    let same = ap (λ (x : Piece). x.word) (part_is r p (sym c.piece.ensures.value ∙ c.in-Some-piece.is)) in
    let log = c.add.new.self in
    let rows = c.add.ensures.rows in
    let added = rows ∙ ap (with_row s.log.rows c.args.value) same in
    let word = c.in-Some-piece.ensures.next.in_memory s.words reading.within in
    let more = λ (m : List ℕ). c.in-Some-piece.ensures.next.reads_on m in
    let gone = c.gather.ensures in
    let on = passed_next r.purpose r.number in
    let to_come = total_left r.purpose r.number (count r) (among s r.purpose r.at r.size reading.purpose) left in
    record {
      may = record {
        bounds = sound.bounds;
        is_open = joined_open s c.args.value c.args.seen log sound c.if-seen-state.true added c.gather.new.value (omega arith) (omega (arith, same, word)) c.add.ensures.single;
        reading = record {
          within = reading.within;
          small = reading.small;
          purpose = joined_for s c.args.value c.args.seen log sound c.if-seen-state.true added c.gather.new.value;
          far = omega (arith, left);
          has = λ m mem agrees.
              (let here = subst (λ (n : ℕ). slice_get m n ≡ Some c.args.value) (sym same) (has_value s c.args.value c.args.seen log sound c.if-seen-state.true added m agrees) in
              let now = index_of (overlay m s.frames.writes.rows) p.word c.overlaid-word.result (c.overlaid-word.ensures m here) in
              gone ∙ ((λ i. reading.has m mem (agreed_before s c.args.value c.args.seen log sound c.if-seen-state.true added m agrees) i ++ part_of p (sym now i)) ∙ sym (more (overlay m s.frames.writes.rows))));
          sized =
              (let parts_are = more [] in
              let in_word = c.in-Some-piece.ensures.next.piece.in_word in
              omega (
                arith,
                ap (length {A = ℕ}) gone,
                length-append s.gathered.items (part_of p c.overlaid-word.result),
                reading.sized,
                ap (length {A = ℕ}) parts_are,
                length-append (gathered [] (take r.number (parts r))) (part_of p (slice_index [] p.word)),
                length-part_of p c.overlaid-word.result in_word,
                length-part_of p (slice_index [] p.word) in_word,
              ));
        };
        logging = record {
          room = omega (arith, to_come, on, sound.in_phase.1.logging.room, c.add.ensures.room);
          grown = omega (arith, on, sound.in_phase.1.logging.grown, ap (length {A = LogRow}) rows, length-append s.log.rows (record { word = p.word; value = c.args.value } ∷ []));
        };
        settled = c.if-seen-state.true;
        spent = omega (arith, on, sound.in_phase.3);
      };
      part = part_is r p (sym c.piece.ensures.value ∙ c.in-Some-piece.is);
      in_value = c.in-Some-piece.ensures.next.piece.in_value;
      few = c.in-Some-piece.ensures.next.few;
    }

pub returns-in-Some-piece : goal.returns-in-Some-piece
returns-in-Some-piece c =
    let s = c.args.state.now in
    let same = ap (λ (x : Piece). x.word) (part_is s.reading c.in-Some-piece.piece (sym c.piece.ensures.value ∙ c.in-Some-piece.is)) in
    let added = c.add.ensures.rows ∙ ap (with_row s.log.rows c.args.value) same in
    record {
      sound = c.go_past.ensures.goes.sound;
      proceeds = c.go_past.ensures.proceeds s.log.rows;
      joins =
          (let stays = c.go_past.ensures.goes.stays in
          joins s c.args.value c.args.seen c.add.new.self c.requires.sound c.if-seen-state.true added c.go_past.result c.go_past.new.state stays.log stays.snapshot);
      order =
          (c.go_past.ensures.goes.order ∙ stage_joined s c.args.value c.args.seen c.add.new.self c.requires.sound c.if-seen-state.true added);
      ends = subst (λ (so : Option Answer). TurnEndsSo so c.go_past.result c.go_past.new.state) (sym (cond-true (c.args.seen == c.args.state.now.snapshot) _ _ (eq-eqb c.args.seen c.args.state.now.snapshot c.if-seen-state.true))) c.go_past.ensures.goes.ends;
      tries = c.go_past.ensures.goes.tries;
      snapshot = c.go_past.ensures.goes.stays.snapshot;
      log =
          (λ o.
          (c.go_past.ensures.goes.stays.log o ∙ log_joined s c.args.value c.args.seen c.add.new.self c.requires.sound c.if-seen-state.true added));
    }

pub returns-else-seen-state : goal.returns-else-seen-state
returns-else-seen-state c = record {
  sound = search rules;
  proceeds = search rules;
  joins = search rules;
  order = search rules;
  ends = search rules;
  tries = search rules;
  snapshot = search rules;
  log = search rules;
}
