-- What a run of a program on threads leaves.
use Rattle.std.specs.Prelude.{◌≡◌, ℕ, ◌+◌, ◌*◌, ◌≤◌, nat_lt, zero, suc, List, [], ◌++◌, length, Some, slice_get}
use Rattle.itm_types.specs.Memory.{bytes_of}
use Rattle.shared_words.specs.declared.view.View.{View}
use Rattle.shared_words.specs.InGlobal.{Words}
use Rattle.shared_words.specs.Good.{EndsWith}
use Rattle.script_program.specs.declared.instruction.Instruction.{Instruction}
use Rattle.script_program.specs.Listing.{Listing, opening_of, threads_of}
use Rattle.tx_attempts.specs.declared.attempt.Attempt.{Attempt}
use Rattle.tx_attempts.specs.Attempts.{of_thread}
use Rattle.tx_attempts.specs.Counts.{count_at, count_committed, one_where}
use Rattle.tx_attempts.specs.Outrun.{AreDisturbed, AreOutrun}
use Rattle.tx_history.specs.Legal.{IsLegal, memory_at}
use Rattle.tx_runs.specs.declared.ending.End.{End}
use Rattle.worker_rules.specs.Gates.{Gating}
use Rattle.worker_rules.specs.Positions.{bytes_at, positions}
use Rattle.report_rules.specs.declared.report.Report.{Report}
use Rattle.report_rules.specs.Courses.{IsCourse}
use Rattle.report_rules.specs.Rows.{HeldAmong, WasRun}
use Rattle.report_rules.specs.Versions.{version_of}

-- the attempts of thread k, then those of k + 1, and so on, of n threads
abbrev pub by_number : ℕ → ℕ → List Attempt → List Attempt
by_number k zero attempts = []
by_number k (suc n) attempts = of_thread k attempts ++ by_number (k + 1) n attempts

abbrev pub commits_of : Report → ℕ
commits_of r = count_committed r.history.attempts

-- in a run over the program's memory a thread of it ended while it held the clock
abbrev pub StaysHeld : Gating → Listing → Type 0
StaysHeld gate p = (words : Words) × (base : List ℕ) × (bytes_of base ≡ opening_of p) × HeldAmong words p base gate (length (threads_of p))

-- of each thread of the program its run, call by call, and by the bytes that the first commits left, each run alone on those that the one before it left. `gate` is what its gate may answer
pub record Ran (gate : Gating) (p : Listing) (r : Report) : Type 0 where
  pub version : r.history.version ≡ version_of p
  pub memory : r.history.memory ≡ opening_of p
  pub count : length r.ends.items ≡ length (threads_of p)
  pub threads : (number : ℕ) (code : List Instruction) (end : End) → slice_get (threads_of p) number ≡ Some code → slice_get r.ends.items number ≡ Some end
      → IsCourse p (commits_of r) (memory_at r.history) number code end (of_thread number r.history.attempts)
  pub words : Words
  pub view : View
  pub closed : EndsWith view r.history.clock r.history.bytes  -- the words were closed with one pass
  pub base : bytes_of view.base ≡ r.history.memory
  pub seen : (k : ℕ) → k ≤ commits_of r → bytes_at view k ≡ memory_at r.history k  -- which had seen just the commits that are told
  pub mine : view.mine ≡ positions r.history.attempts
  pub rows : (number : ℕ) (end : End) → slice_get r.ends.items number ≡ Some end → WasRun words p view gate number end (of_thread number r.history.attempts)  -- each made its calls up to that end, within the program's limits, and its pass was joined to that one
  pub by_thread : r.history.attempts ≡ by_number 0 (length (threads_of p)) r.history.attempts  -- there are no others
  pub counted : (position : ℕ) → count_at position r.history.attempts ≡ one_where (nat_lt position (commits_of r))  -- each position below their number is that of one commit
  pub few : commits_of r ≤ p.limits.max_commits  -- no more than the program lets there be
  pub clock : r.history.clock ≡ 2 * commits_of r
  pub outrun : AreOutrun r.history.clock r.history.attempts  -- the clock has moved on from where each conflict had read
  pub disturbed : AreDisturbed r.history.attempts  -- each reads as many commits past its begin as it tells of blocks that ran again
  pub bytes : r.history.bytes ≡ memory_at r.history (commits_of r)
  pub legal : IsLegal r.history  -- the history is legal, by the plain machine alone
