use Rattle.std.proofs.Common.{ℕ, refl, sym, ap, ◌∙◌, arith, rules}
use Rattle.norec_blocks.proofs.Common.{Idle, between, core, core_ended, ended_undone, moved, rolled_back}
use Rattle.norec_core.specs.Aims as aims
use Rattle.norec_blocks.proofs.Blocks.IrrevocableEntries.{wants_clock}
use Rattle.norec_blocks.proofs.commits.exchange.Goals as goal

pub returns-else-at-state-clause-proceeds : goal.returns-else-at-state-clause-proceeds
returns-else-at-state-clause-proceeds c = λ was.
    (let s = c.args.state.now in
    let may = c.requires.may in
    let over = c.roll_back.ensures in
    let left = core_ended _ _ _ _ over.ended in
    record {
      wants = wants_clock s c.args.taking was may.is_open.is_open may.may.wants;
      at_is = refl;
      full = omega (arith, c.if-at-state.false);
      free = refl;
      unfreed = refl;
      stays = left ∙ ap (λ (n : ℕ). record (rolled_back (moved (between s (aims.Take c.args.taking)) was)) { stage = Idle; tries = 0; snapshot = n }) (sym over.ended.snapshot);
      undone = ended_undone (moved (between s (aims.Take c.args.taking)) was) (core c.roll_back.new.state Idle) Idle 0 s.snapshot may.is_open.frames over.restored refl may.is_open.is_open left;
    })

pub returns-else-at-state-clause-goes : goal.returns-else-at-state-clause-goes
returns-else-at-state-clause-goes c = search (rules, returns-else-at-state-clause-proceeds c c.args.state.now.snapshot)
