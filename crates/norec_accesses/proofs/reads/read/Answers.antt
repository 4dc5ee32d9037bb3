use Rattle.std.proofs.Common.{◌≡◌, ◌+◌, ◌*◌, ◌≤◌, ◌&&◌, nat_le, ℕ, true, if◌then◌else◌, List, Some, length, drop, take, refl, sym, ap, subst, ◌∙◌, arith, rules}
use Rattle.norec_accesses.proofs.Common.{Core, Data, Idle, IsMissing, IsOpen, IsReading, IsSoundTurn, Load, Log, MayRead, Phase, Read, Reading, Row, Turns, Wait, between, cond-true, count_of, err_from_is_err_and, few_words, in_block, load_among, load_sound, load_stage, logged, parts, served, size_of, take_all, total, value_reading}
use Rattle.std.proofs.lemmas.Grind.{common_steps}
use Rattle.norec_core.specs.Aims as aims
use Rattle.norec_core.specs.declared.call_parts.Purpose.TheVariants as for
use Rattle.norec_data.specs.declared.pending.Pending.TheVariants as waits
use Rattle.norec_accesses.proofs.ReadCalls.ReadyReads.{gathering, ready, ready_came, ready_missing, ready_open, ready_reading, settled}
use Rattle.norec_accesses.proofs.reads.read.Goals as goal

-- where it stands as it comes, by the pieces that are to be had
stands : (s : Data) (written : ℕ) (r first : Reading) (accepted : (in_block s && nat_le (first.at + first.size) (8 * s.words)) ≡ true) → written ≡ length s.frames.writes.rows → r ≡ first
    → (past : Phase) → load_among (take written s.frames.writes.rows) s.log.rows past r (drop r.number (parts r))
    ≡ (if in_block s && nat_le (first.at + first.size) (8 * s.words) then load_among s.frames.writes.rows s.log.rows past first (drop first.number (parts first)) else Idle)
stands s written r first accepted all same past =
    let rows : List Row = s.frames.writes.rows in
    let before : take written rows ≡ rows = ap (λ (n : ℕ). take n rows) all ∙ take_all (length rows) rows (omega arith) in
    (λ i. load_among (before i) s.log.rows past (same i) (drop (same i).number (parts (same i)))) ∙ sym (cond-true (in_block s && nat_le (first.at + first.size) (8 * s.words)) _ _ accepted)

pub returns-in-Some : goal.returns-in-Some
returns-in-Some c =
    c.refuse.ensures (Read c.args.hint c.args.width c.args.at) c.args.at c.from.result
    (ap (λ (n : ℕ). Some (c.args.at, n)) (sym (c.from.ensures ∙ c.size.ensures.value))) (sym c.access_refusal.ensures.value ∙ c.in-Some.is)

pub returns-in_err-reserve-in-Some-take_known : goal.returns-in_err-reserve-in-Some-take_known
returns-in_err-reserve-in-Some-take_known c =
    let s = c.args.state.now in
    let bytes = c.from.ensures ∙ c.size.ensures.value in
    let may = served (in_block s) s.words c.args.at c.from.result (sym c.in_default.ensures.value) in
    let first : Reading = value_reading c.args.hint c.args.width c.args.at in
    let accepted : (in_block s && nat_le (first.at + first.size) (8 * s.words)) ≡ true = (λ i. in_block s && nat_le (c.args.at + sym bytes i) (8 * s.words)) ∙ sym c.in_default.ensures.served in
    let at : Load (record { purpose = for.Value c.args.hint c.args.width; at = c.args.at; size = c.size-2.result; number = c.in-Some-take_known.number }) ≡ load_stage s.frames.writes.rows s.log.rows first =
    c.in-Some-take_known.ensures.order Idle
    ∙ (stands s c.len-state.result (record { purpose = for.Value c.args.hint c.args.width; at = c.args.at; size = c.size-2.result; number = 0 }) first accepted c.len-state.ensures.len (λ i. record { purpose = for.Value c.args.hint c.args.width; at = c.args.at; size = c.size-2.ensures.value i; number = 0 }) Idle
    ∙ cond-true (in_block s && nat_le (first.at + first.size) (8 * s.words)) _ _ accepted) in
    let e = err_from_is_err_and c.from_residual.result c.from_residual.ensures.1 in
    rw e.1 (record {
      sound = search rules;
      same = search rules;
      starves = (may.0, subst (λ (n : ℕ). c.args.at + n ≤ 8 * s.words) bytes may.1, λ idle. (let loads = at ∙ idle in absurd (cc)));
    })

pub returns-in_ok-reserve-in-Some-take_known : goal.returns-in_ok-reserve-in-Some-take_known
returns-in_ok-reserve-in-Some-take_known c = record {
  sound =
      (let s = c.args.state.now in
      let hint = c.args.hint in
      let width = c.args.width in
      let sound = c.requires.sound in
      let bytes = c.from.ensures ∙ c.size.ensures.value in
      let may = served (in_block s) s.words c.args.at c.from.result (sym c.in_default.ensures.value) in
      let within = subst (λ (n : ℕ). c.args.at + n ≤ 8 * s.words) bytes may.1 in
      let small : size_of width ≤ 32 = omega (arith, c.size.ensures.value, c.size.ensures.most) in
      let g = c.take_known.new.state.gathered in
      let log : Log = c.reserve.new.self in
      let first : Reading = value_reading hint width c.args.at in
      let next : Reading = record { purpose = for.Value hint width; at = c.args.at; size = c.size-2.result; number = c.in-Some-take_known.number } in
      let found = c.in-Some-take_known.ensures.next in
      let st : c.take_known.new.state ≡ gathering s g = c.take_known.ensures.frame ∙ (λ i. record (gathering s g) { written = c.len-state.ensures.len i }) in
      let rows : log.rows ≡ s.log.rows = c.reserve.ensures.rows ∙ ap (λ (d : Data). d.log.rows) st in
      let is : c.start.new.state ≡ ready s g log = c.start.ensures ∙ (λ i. record (st i) { log = log; spent = 0; entry = length log.rows; tries = 0 }) in
      let on : next ≡ record first { number = next.number } = (λ i. record { purpose = for.Value hint width; at = c.args.at; size = c.size-2.ensures.value i; number = next.number }) in
      let words : total next ≡ count_of c.args.at (size_of width) = ap total on in
      let read : MayRead (ready s g log) next = record {
        reading = ready_reading s hint width c.args.at sound may.0 within small g log rows next (subst (λ (d : Data). IsReading d next) st found.1);
        logging = record { room = omega (arith, words, few_words c.args.at (size_of width) small, c.in_ok-reserve-in-Some-take_known.ensures.ok); grown = omega arith };
        missing = ready_missing s hint width c.args.at sound may.0 within small g log rows next (subst (λ (d : Data). IsMissing d next) st found.2);
      } in
      subst (λ (r : Reading). IsSoundTurn (Wait waits.Load) (record c.start.new.state { reading = r }))
      ((λ i. record { purpose = for.Value hint width; at = c.args.at; size = c.size-2.ensures.value i; number = next.number }) ∙ sym c.set_value.ensures)
      (subst (λ (d : Data). IsSoundTurn (Wait waits.Load) (record d { reading = next })) (sym is)
      (load_sound (ready s g log) first next on (omega arith) sound.bounds (ready_open s hint width c.args.at sound may.0 within small g log rows) read (settled s hint width c.args.at sound may.0 within small) (omega arith))));
  proceeds = grind (arith, common_steps);
  stays = search rules;
  order =
      (let s = c.args.state.now in
      let bytes = c.from.ensures ∙ c.size.ensures.value in
      let first : Reading = value_reading c.args.hint c.args.width c.args.at in
      let accepted : (in_block s && nat_le (first.at + first.size) (8 * s.words)) ≡ true = (λ i. in_block s && nat_le (c.args.at + sym bytes i) (8 * s.words)) ∙ sym c.in_default.ensures.served in
      ap Load (c.set_value.ensures ∙ sym (λ i. record { purpose = for.Value c.args.hint c.args.width; at = c.args.at; size = c.size-2.ensures.value i; number = c.in-Some-take_known.number }))
      ∙ c.in-Some-take_known.ensures.order Idle
      ∙ stands s c.len-state.result (record { purpose = for.Value c.args.hint c.args.width; at = c.args.at; size = c.size-2.result; number = 0 }) first accepted c.len-state.ensures.len (λ i. record { purpose = for.Value c.args.hint c.args.width; at = c.args.at; size = c.size-2.ensures.value i; number = 0 }) Idle);
  ends = search rules;
  tries = search rules;
}

pub returns-in-None : goal.returns-in-None
returns-in-None c =
    let s = c.args.state.now in
    let hint = c.args.hint in
    let width = c.args.width in
    let bytes = c.from.ensures ∙ c.size.ensures.value in
    let may = served (in_block s) s.words c.args.at c.from.result (sym c.in_default.ensures.value) in
    let within = subst (λ (n : ℕ). c.args.at + n ≤ 8 * s.words) bytes may.1 in
    let small : size_of width ≤ 32 = omega (arith, c.size.ensures.value, c.size.ensures.most) in
    let g = c.take_known.new.state.gathered in
    let st : c.take_known.new.state ≡ gathering s g = c.take_known.ensures.frame ∙ (λ i. record (gathering s g) { written = c.len-state.ensures.len i }) in
    let is : c.start-in-None.new.state ≡ ready s g s.log = c.start-in-None.ensures ∙ (λ i. record (st i) { spent = 0; entry = length (st i).log.rows; tries = 0 }) in
    let first : (n : ℕ) → Reading = λ n. record { purpose = for.Value hint width; at = c.args.at; size = n; number = 0 } in
    let proceeds =
    subst (λ (mid : Core). Turns mid c.reply_gathered.result c.reply_gathered.new.state)
    ((λ i. logged (between (is i) (aims.Read (first (c.size-2.ensures.value i)))) s.log.rows) ∙ ready_came s hint width c.args.at c.requires.sound may.0 within small g s.log refl)
    (c.reply_gathered.ensures.proceeds s.log.rows) in
    let first : Reading = value_reading c.args.hint c.args.width c.args.at in
    let accepted : (in_block s && nat_le (first.at + first.size) (8 * s.words)) ≡ true = (λ i. in_block s && nat_le (c.args.at + sym bytes i) (8 * s.words)) ∙ sym c.in_default.ensures.served in
    let order = c.reply_gathered.ensures.goes.order
    ∙ (c.in-None.ensures.order Idle
    ∙ stands s c.len-state.result (record { purpose = for.Value c.args.hint c.args.width; at = c.args.at; size = c.size-2.result; number = 0 }) first accepted c.len-state.ensures.len (λ i. record { purpose = for.Value c.args.hint c.args.width; at = c.args.at; size = c.size-2.ensures.value i; number = 0 }) Idle) in
    search (rules, proceeds, order)

pub reply_gathered-requires : goal.reply_gathered-requires
reply_gathered-requires c =
    let s = c.args.state.now in
    let hint = c.args.hint in
    let width = c.args.width in
    let bytes = c.from.ensures ∙ c.size.ensures.value in
    let may = served (in_block s) s.words c.args.at c.from.result (sym c.in_default.ensures.value) in
    let within = subst (λ (n : ℕ). c.args.at + n ≤ 8 * s.words) bytes may.1 in
    let small : size_of width ≤ 32 = omega (arith, c.size.ensures.value, c.size.ensures.most) in
    let g = c.take_known.new.state.gathered in
    let st : c.take_known.new.state ≡ gathering s g = c.take_known.ensures.frame ∙ (λ i. record (gathering s g) { written = c.len-state.ensures.len i }) in
    let is : c.start-in-None.new.state ≡ ready s g s.log = c.start-in-None.ensures ∙ (λ i. record (st i) { spent = 0; entry = length (st i).log.rows; tries = 0 }) in
    record {
      may = record {
        bounds = search rules;
        is_open = subst IsOpen (sym is) (ready_open s hint width c.args.at c.requires.sound may.0 within small g s.log refl);
        value = search rules;
        whole = search rules;
        settled = search rules;
      };
    }
