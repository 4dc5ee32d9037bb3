use Rattle.std.proofs.Common.{◌≡◌, ◌≢◌, ◌<◌, ◌*◌, ◌==◌, nat_lt, length, arith, refl, sym, ap, subst, ◌∙◌, rules}
use Rattle.norec_blocks.proofs.Common.{AllWritesWithin-at, BackLoad, CallEnd, Code, Done, EndIrrevocable, Enters, IsHolding, Row, Store, Taking, Turns, call_of, cond-false, cond-true, core_held, in_stores, lt-ltb, ne_eqb, row_store, stored_stage, whole, write_at, write_at_of}
use Rattle.norec_core.specs.Aims as aims
use Rattle.norec_blocks.{proofs.Blocks.IrrevocableEntries.begin_entered, proofs.Blocks.IrrevocableEntries.mode_entered, proofs.ClockHolding.holds_on}
use Rattle.norec_blocks.proofs.commits.next_store.Goals as goal

pub returns-else-written : goal.returns-else-written
returns-else-written c =
    let rows = c.args.state.now.frames.writes.rows in
    let within : c.args.row < length rows = omega (arith, c.if-row-len.true, c.len.ensures.len) in
    let mask : (write_at rows c.args.row).mask ≢ whole = λ e. c.if-written.false (ap (λ (r : Row). r.mask) (sym (write_at_of rows c.args.row c.row-written.result c.row-written.ensures.row)) ∙ e) in
    record {
      sound =
          (let may = c.requires.may in
          let hold = may.holding in
          record {
            asked = tt;
            sound = record {
              bounds = may.bounds;
              reached = omega (arith, hold.settled);
              in_phase = (holds_on c.args.state.now c.args.state.now.got c.args.row hold, within, mask);
            };
          });
      proceeds =
          record {
            unfreed = refl;
            lawful = (omega (arith, AllWritesWithin-at c.args.state.now.words rows c.args.row c.requires.may.holding.is_open.writes within), (c.requires.may.holding.is_open.is_open, λ h r. (within, refl)));
            stays = refl;
          };
      stays = record { opens = λ o. o; log = λ o. refl; snapshot = refl };
      order =
          (sym (cond-true (nat_lt c.args.row (length rows)) (row_store c.args.state.now.taking (write_at rows c.args.row) c.args.row) (stored_stage c.args.state.now.taking) (lt-ltb c.args.row (length rows) within)
          ∙ cond-false ((write_at rows c.args.row).mask == whole) (Store c.args.state.now.taking c.args.row _) (BackLoad c.args.state.now.taking c.args.row) (ne_eqb (write_at rows c.args.row).mask whole mask)));
      ends = tt;
      tries = refl;
    }

pub returns-in-Mode : goal.returns-in-Mode
returns-in-Mode c =
    let s = c.args.state.now in
    let row = c.args.row in
    let new = c.go_irrevocable.new.state in
    let gone = c.go_irrevocable.ensures in
    let stored : row ≡ length s.frames.writes.rows = omega (arith, c.if-row-len.false, c.len.ensures.len, c.requires.may.far) in
    let holding = subst (λ (t : Taking). IsHolding s t (2 * row)) c.in-Mode.is c.requires.may.holding in
    let enters = mode_entered s new row stored c.requires.may.bounds.even c.in-Mode.room (2 * row) holding (record { frames = gone.frames; log = gone.log; others = gone.others }) in
    let proceeds =
    subst (λ (end : CallEnd). Turns (in_stores s s.taking row) (EndIrrevocable end) new) (sym gone.end)
    (subst (λ (t : Taking). Enters (in_stores s t row) (call_of (aims.Take t)) Done (core_held new)) (sym c.in-Mode.is) enters) in
    search (rules, proceeds)

pub returns-in-Begin : goal.returns-in-Begin
returns-in-Begin c =
    let s = c.args.state.now in
    let row = c.args.row in
    let new = c.go_irrevocable-in-Begin.new.state in
    let gone = c.go_irrevocable-in-Begin.ensures in
    let stored : row ≡ length s.frames.writes.rows = omega (arith, c.if-row-len.false, c.len.ensures.len, c.requires.may.far) in
    let holding = subst (λ (t : Taking). IsHolding s t (2 * row)) c.in-Begin.is c.requires.may.holding in
    let enters = begin_entered s new row stored c.requires.may.bounds.even c.in-Begin.props c.in-Begin.room (2 * row) holding (record { frames = gone.frames; log = gone.log; others = gone.others }) in
    let proceeds =
    subst (λ (end : CallEnd). Turns (in_stores s s.taking row) (EndIrrevocable end) new) (sym gone.end)
    (subst (λ (t : Taking). Enters (in_stores s t row) (call_of (aims.Take t)) (Code 5) (core_held new)) (sym c.in-Begin.is) enters) in
    search (rules, proceeds)
