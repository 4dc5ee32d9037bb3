use Rattle.std.proofs.Common.{◌≡◌, ℕ, [], ◌++◌, length, refl, subst, arith}
use Rattle.itm_runtime.proofs.Common.{Asks, InCall, LeadsOn, Step, Store, cell_within, cells_of, due_on, exchanging, lawful_of, leads_further, next_step, storing, view_of}
use Rattle.itm_runtime.proofs.blocks.store_rows.Goals as goal

pub loop-row-init : goal.loop-row-init
loop-row-init g c = record {
  own = c.requires.own;
  back = c.requires.back;
  stores = c.requires.stores;
  rows = c.requires.rows;
  far = omega arith;
  few = omega arith;
  start = c.requires.due.0;
  due = c.requires.due.1;
  steps = [];
  leads = (refl, refl, refl);
}

pub store_row-loads-requires : goal.store_row-loads-requires
store_row-loads-requires g c =
    let inv = c.loop-row.invariant in
    record { own = inv.own; back = inv.back; stores = inv.stores; within = omega (arith, inv.rows, c.loop-row-test.true); few = inv.few; fits = omega (arith, c.loop-row-test.true, c.ranges.rows.fits); due = (inv.start, inv.due) }

pub loop-row-preserved : goal.loop-row-preserved
loop-row-preserved g c =
    let inv = c.loop-row.invariant in
    let words = cells_of c.args.words.now in
    let on = c.store_row-loads.ensures in
    let next = Asks (next_step c.args.engine.now c.loop-row.row) in
    record {
      own = on.own;
      back = inv.back;
      stores = inv.stores;
      rows = inv.rows;
      far = omega (arith, c.loop-row-test.true);
      few = on.few;
      start = inv.start;
      due = due_on words inv.start on.steps _ _ _ _ next _ inv.own.over inv.due on.leads;
      steps = inv.steps ++ on.steps;
      leads = leads_further words inv.steps on.steps _ _ _ _ _ _ _ next _ inv.leads on.leads;
    }

-- ## The clock is freed

pub step-freed-requires : goal.step-freed-requires
step-freed-requires g c =
    let inv = c.loop-row.invariant in
    let e = exchanging c.args.engine.now in
    let view = view_of c.loop-row.pass in
    let loads = c.loop-row.loads in
    let step = Store 0 c.freed_clock.result in
    let last : c.loop-row.row ≡ length e.writes = omega (arith, inv.far, inv.rows, c.loop-row-test.false) in
    let all = subst (λ (n : ℕ). InCall inv.start view (storing e n loads) (next_step e n)) last inv.due in
    let i = subst (λ (s : Step). InCall inv.start view (storing e (length e.writes) loads) s) c.freed_clock.ensures all in
    record { own = inv.own; cell = cell_within _ _ _ step inv.own.over i.tied i.lawful; lawful = lawful_of _ _ i.tied step i.lawful }

pub returns : goal.returns
returns g c =
    let inv = c.loop-row.invariant in
    let words = cells_of c.args.words.now in
    let e = exchanging c.args.engine.now in
    let first = storing e 0 0 in
    let next = Asks (next_step e 0) in
    let view = view_of c.loop-row.pass in
    let loads = c.loop-row.loads in
    let step = Store 0 c.freed_clock.result in
    let last : c.loop-row.row ≡ length e.writes = omega (arith, inv.far, inv.rows, c.loop-row-test.false) in
    let all = subst (λ (n : ℕ). LeadsOn words (view_of c.args.pass.now) first next inv.steps view (storing e n loads) (Asks (next_step e n))) last inv.leads in
    record {
      few = omega (arith, inv.few, inv.far, inv.rows);
      freed = c.step-freed.result;
      finds = record {
        own = c.step-freed.ensures.own;
        steps = inv.steps;
        before = view;
        step = step;
        over = inv.own.over;
        leads = subst (λ (s : Step). LeadsOn words (view_of c.args.pass.now) first next inv.steps view (storing e (length e.writes) loads) (Asks s)) c.freed_clock.ensures all;
        stepped = record { turn = c.step-freed.ensures.turn; moves = c.step-freed.ensures.moves };
      };
    }
