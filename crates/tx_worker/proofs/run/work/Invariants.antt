use Rattle.std.proofs.Common.{◌≡◌, ◌≤◌, ℕ}
use Rattle.norec_core.specs.Core.{in_transaction}
use Rattle.tx_runs.{specs.Nesting.whole, specs.Ranks.rank, specs.Ranks.restarts_left}
use Rattle.worker_rules.specs.Accounts.{account_of, first_account}
use Rattle.worker_rules.specs.Calls.{HasMade}
use Rattle.worker_rules.specs.Gates.{call_number}
use Rattle.worker_rules.specs.Workers.{IsWorking, bounds_of}
use Rattle.worker_rules.specs.Works.{course_of}
use Rattle.tx_worker.proofs.run.work.Given as goal

abbrev pub invariant-loop-end : goal.invariant-loop-end
invariant-loop-end g l = record {
  works : IsWorking g.P.Player l.words (course_of l.fn.thread l.fn.player l.fn.number l.fn.retries) (bounds_of l.fn.thread.engine) l.worker;
  made : (calls : ℕ) × HasMade l.words g.P.Player l.fn.number l.fn.retries g.G.Gate.answers calls (first_account l.fn.player) l.fn.thread (account_of l.worker) l.worker.thread × (l.worker.calls ≡ call_number calls);
  bound : whole g.P.Player (in_transaction l.worker.thread.engine) l.worker.run.player ≤ g.P.Player.calls_left l.fn.player;
  number : l.worker.run.thread ≡ l.fn.number;
  retries : l.worker.run.retries ≡ l.fn.retries;
}

abbrev pub decreases-loop-end : goal.decreases-loop-end
decreases-loop-end g l = rank g.P.Player l.fn.retries l.fn.thread.engine.restarts (g.P.Player.calls_left l.fn.player) (in_transaction l.worker.thread.engine) l.worker.run.nth (restarts_left l.worker.thread.engine) l.worker.run.player
