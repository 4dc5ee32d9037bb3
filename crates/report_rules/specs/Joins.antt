-- What a pass has after it took in those of the workers.
use Rattle.std.specs.Prelude.{◌≡◌, ℕ, ◌+◌, false, List, [], ◌∷◌, ◌++◌, length}
use Rattle.shared_words.specs.declared.view.View.{View}
use Rattle.shared_words.specs.InGlobal.{Words}
use Rattle.script_program.specs.Listing.{Listing, threads_of}
use Rattle.tx_attempts.specs.declared.attempt.Attempt.{Attempt}
use Rattle.tx_attempts.specs.Outrun.{AreOutrun}
use Rattle.tx_runs.specs.declared.ending.End.{End}
use Rattle.worker_rules.specs.Gates.{Gating}
use Rattle.worker_rules.specs.Positions.{AreFew, AreLeft, bytes_at, positions}
use Rattle.worker_rules.specs.Works.{AreHeld}
use Rattle.report_rules.specs.declared.done.Done.{Done}
use Rattle.report_rules.specs.Courses.{IsCourse}
use Rattle.report_rules.specs.Numbers.{Numbered}
use Rattle.report_rules.specs.Rows.{WasRun}
use Rattle.report_rules.specs.Fresh.{code_of}

-- the attempts of all workers, one after the other
abbrev pub attempts_in : List Done → List Attempt
attempts_in [] = []
attempts_in (d ∷ ds) = d.attempts ++ attempts_in ds

-- how they ended
abbrev pub ends_in : List Done → List End
ends_in [] = []
ends_in (d ∷ ds) = d.end ∷ ends_in ds

-- what the worker with this number did, by the commits that this view has seen, and the clock; none of its attempts holds the clock
pub record Did (words : Words) (p : Listing) (gate : Gating) (v : View) (number : ℕ) (d : Done) : Type 0 where
  pub course : IsCourse p (length v.seen) (bytes_at v) number (code_of p number) d.end d.attempts
  pub row : WasRun words p v gate number d.end d.attempts
  pub left : AreLeft p.limits.depth v d.attempts
  pub few : AreFew p.limits.max_commits d.attempts
  pub held : AreHeld p.limits.depth v false d.attempts
  pub outrun : AreOutrun v.high d.attempts

-- n workers' passes were joined to a pass with the view `start`, and are in `now`
pub record Joins (words : Words) (start : View) (p : Listing) (gate : Gating) (n : ℕ) (now : View) (all : List Done) : Type 0 where
  pub base : now.base ≡ start.base
  pub share : now.share ≡ start.share + n
  pub mine : now.mine ≡ start.mine ++ positions (attempts_in all)
  pub workers : Numbered (Did words p gate now) 0 all

-- there is a worker for each thread of the program, and all parts that were given away are back
pub record Gathers (words : Words) (start : View) (p : Listing) (gate : Gating) (now : View) (all : List Done) : Type 0 where
  pub count : length all ≡ length (threads_of p)
  pub idle : now.holds ≡ false
  pub joins : Joins words start p gate 0 now all
