use Rattle.std.proofs.Common.{◌≡◌, ◌≢◌, ◌==◌, ◌+◌, Bool, Some, List, arith, refl, rules, sym, ap, subst, ◌∙◌, eq-eqb, take, ◌∷◌, [], ◌++◌}
use Rattle.norec_blocks.proofs.Common.{Conflict, ConflictsIn, Idle, LogRow, RoundRow, Turns, aim_of, cond-true, core, core_ended, ended_undone, get_or_from_slice_get, handed, in_rows, row_at, take_more}
use Rattle.norec_blocks.proofs.Blocks.DifferentRows.{decides, decides_order, decides_sound, ends_order}
use Rattle.norec_blocks.proofs.rounds.row_seen.Goals as goal

pub returns-then-logged-seen : goal.returns-then-logged-seen
returns-then-logged-seen c = record {
  sound = search rules;
  proceeds = (let s = c.args.state.now in
      let log = s.log.rows in
      let here : row_at log c.args.row ≡ c.row-logged.result = get_or_from_slice_get log c.args.row c.row-logged.result _ c.row-logged.ensures in
      let value = ap (λ (r : LogRow). r.value) here ∙ c.if-logged-seen.true in
      let seen : row_at log c.args.row ≡ record { word = (row_at log c.args.row).word; value = c.args.seen } = λ i. record { word = (row_at log c.args.row).word; value = value i } in
      let fresh = take_more log c.args.row (record { word = 0; value = 0 }) c.requires.sound.in_phase.2 ∙ ap (λ (r : LogRow). take c.args.row log ++ r ∷ []) seen in
      subst (λ (rows : List LogRow). Turns (record (in_rows s (aim_of c.args.state.now) (c.args.row + 1)) { fresh = rows }) c.next_row.result c.next_row.new.state) fresh c.next_row.ensures.goes.proceeds);
  stays = search rules;
  order = (let row = row_at c.args.state.now.log.rows c.args.row in
      let here : row ≡ c.row-logged.result = get_or_from_slice_get c.args.state.now.log.rows c.args.row c.row-logged.result _ c.row-logged.ensures in
      c.next_row.ensures.goes.order ∙ sym (cond-true (row.value == c.args.seen) _ _ (eq-eqb row.value c.args.seen (ap (λ (r : LogRow). r.value) here ∙ c.if-logged-seen.true))));
  ends = search (rules, c.next_row.ensures.waits);
  tries = search rules;
}

pub returns-else-may_restart : goal.returns-else-may_restart
returns-else-may_restart c = record {
  sound = search rules;
  proceeds = (let log = c.args.state.now.log.rows in
      let logged = c.row-logged.result in
      let here : row_at log c.args.row ≡ logged = get_or_from_slice_get log c.args.row logged _ c.row-logged.ensures in
      let s = c.args.state.now in
      subst (λ (b : Bool). ConflictsIn b (handed (core s (RoundRow (aim_of c.args.state.now) c.args.row)) c.args.seen) c.roll_back.new.state.clock (Some logged.word) (core c.roll_back.new.state Idle)) (sym c.requires.sound.in_phase.0.is_open.is_open) (record {
        is_open = c.requires.sound.in_phase.0.is_open.is_open;
        clock_is = c.roll_back.ensures.ended.clock;
        later = omega (arith, c.requires.sound.in_phase.0.later, c.roll_back.ensures.ended.clock);
        word_is = (
          take c.args.row log,
          c.args.seen,
          logged,
          c.args.row,
          ap (λ (r : LogRow). take c.args.row log ++ record { word = r.word; value = c.args.seen } ∷ []) here,
          c.row-logged.ensures,
          refl,
          c.if-logged-seen.false,
          sym c.may_restart.ensures ∙ c.if-may_restart.false,
        );
        free = refl;
        unfreed = refl;
        stays = core_ended _ _ _ _ c.roll_back.ensures.ended;
        undone =
            ended_undone (handed (core c.args.state.now (RoundRow (aim_of c.args.state.now) c.args.row)) c.args.seen) (core c.roll_back.new.state Idle) Idle 0 c.args.state.now.snapshot
            c.requires.sound.in_phase.0.is_open.frames c.roll_back.ensures.restored refl c.requires.sound.in_phase.0.is_open.is_open (core_ended _ _ _ _ c.roll_back.ensures.ended);
      }));
  stays = search rules;
  order = (let row = row_at c.args.state.now.log.rows c.args.row in
      let here : row ≡ c.row-logged.result = get_or_from_slice_get c.args.state.now.log.rows c.args.row c.row-logged.result _ c.row-logged.ensures in
      ends_order c.args.state.now c.args.row c.args.seen c.requires.sound (λ e. c.if-logged-seen.false (sym (ap (λ (r : LogRow). r.value) here) ∙ e)) (sym c.may_restart.ensures ∙ c.if-may_restart.false));
  ends = (let here : row_at c.args.state.now.log.rows c.args.row ≡ c.row-logged.result = get_or_from_slice_get c.args.state.now.log.rows c.args.row c.row-logged.result _ c.row-logged.ensures in
      λ i. Conflict (c.roll_back.ensures.ended.clock i) (Some (sym here i).word));
  tries = search rules;
}

pub returns-then-may_restart : goal.returns-then-may_restart
returns-then-may_restart c =
    let s = c.args.state.now in
    let here : row_at s.log.rows c.args.row ≡ c.row-logged.result = get_or_from_slice_get s.log.rows c.args.row c.row-logged.result _ c.row-logged.ensures in
    let differs : (row_at s.log.rows c.args.row).value ≢ c.args.seen = λ e. c.if-logged-seen.false (sym (ap (λ (r : LogRow). r.value) here) ∙ e) in
    let may = sym c.may_restart.ensures ∙ c.if-may_restart.true in
    search (rules, decides_sound s c.args.row c.args.seen c.requires.sound differs may, decides s c.args.row c.args.seen c.requires.sound differs, decides_order s c.args.row c.args.seen c.requires.sound differs may)
