use Rattle.std.proofs.Common.{◌≡◌, ◌≤◌, ◌-◌, List, ℕ, length}
use Rattle.itm_runtime.proofs.Common.{Asks, InCall, LeadsOn, Owns, Start, Step, StoresRows, WritesBack, cells_of, exchanging, next_step, storing, view_of}
use Rattle.itm_runtime.proofs.blocks.store_rows.Given as goal

abbrev pub invariant-loop-row : goal.invariant-loop-row
invariant-loop-row g l = record {
  own : Owns l.words l.pass;
  back : WritesBack l.engine;
  stores : StoresRows (exchanging l.engine);
  rows : l.rows ≡ length l.engine.writes;
  far : l.row ≤ l.rows;
  few : l.loads ≤ l.row;
  start : Start;
  due : InCall start (view_of l.pass) (storing (exchanging l.engine) l.row l.loads) (next_step l.engine l.row);
  steps : List (Step × ℕ);
  leads : LeadsOn (cells_of l.words) (view_of l.fn.pass) (storing (exchanging l.fn.engine) 0 0) (Asks (next_step l.fn.engine 0)) steps (view_of l.pass) (storing (exchanging l.engine) l.row l.loads) (Asks (next_step l.engine l.row));
}

abbrev pub decreases-loop-row : goal.decreases-loop-row
decreases-loop-row g l = l.rows - l.row
