-- Where a worker stands between two calls.
use Rattle.std.specs.Prelude.{◌≡◌, ℕ, ◌+◌, ◌/◌, ◌<◌, ◌≤◌, Bool, true, false, List, ◌++◌, length, Option, Some}
use Rattle.itm_types.specs.Memory.{IsMemory}
use Rattle.norec_core.specs.Core.{Core, in_transaction}
use Rattle.norec_core.specs.Stands.{stands_for}
use Rattle.shared_words.specs.declared.view.View.{View}
use Rattle.shared_words.specs.Passes.{commits_known}
use Rattle.shared_words.specs.Views.{held_words}
use Rattle.call_rules.specs.Ties.{memory_of}
use Rattle.call_rules.specs.Served.{Went}
use Rattle.tx_attempts.specs.declared.attempt.Attempt.{Attempt}
use Rattle.tx_attempts.specs.Opacity.{Between, IsRunOf}
use Rattle.tx_attempts.specs.Outrun.{AreOutrun}
use Rattle.tx_player.specs.Rules.{Rules}
use Rattle.tx_runs.specs.Nesting.{IsNested}
use Rattle.tx_runs.specs.OpenTries.{IsOpenTry, ReadsFrom, whole_then}
use Rattle.tx_runs.specs.Restarts.{RestartAtMost}
use Rattle.tx_runs.specs.Runs.{IsBefore, run_after}
use Rattle.worker_rules.specs.Positions.{bytes_at, positions, AreLeft, AreSince, known_after, AreOwn}
use Rattle.tx_runs.specs.declared.savepoint.Savepoint.{Savepoint}
use Rattle.tx_runs.specs.Tallies.{outside, within}
use Rattle.worker_rules.specs.Accounts.{Account}

-- the memories that the open attempt may have read: those that agree with its log, or, once it is irrevocable, that of its position
abbrev pub MayRead : View → Core → List ℕ → Type 0
MayRead v e m = IsMemory e.words m × ReadsFrom e.irrevocable (memory_of v (e.snapshot / 2)) e.log m

-- the words that its engine stands over then: its own stores are in those that are held
abbrev pub stood : Bool → View → List ℕ → List ℕ
stood false v m = m
stood true v m = held_words v

-- what a run began with: its view, its number, how often a block may be tried again, how often inner blocks may go back to their begins in one transaction, how many blocks may be open at once, how many commits were known, and its player
pub record Course (P : Type 0) : Type 0 where
  pub view : View
  pub number : ℕ
  pub retries : ℕ
  pub restarts : ℕ
  pub depth : ℕ
  pub known : ℕ
  pub first : Between P

module _ {P : Type 0} (rules : Rules P) where
  -- the open attempt is the engine's; once it is irrevocable, the engine stands, over the words that are held, where its calls led for the engine over the memory of its position
  pub record IsTry (deepest : ℕ) (b : Between P) (row : Attempt) (points : List Savepoint) (p : P) (v : View) (e : Core) : Type 0 where
    pub is_open : IsOpenTry rules deepest (memory_of v (e.snapshot / 2)) b row points p e
    pub stands_held : e.irrevocable ≡ true → stands_for e (held_words v) ≡ whole_then deepest row (memory_of v (e.snapshot / 2)) row.calls.list

  -- the attempts that have ended are the player's run over the commits that were seen
  pub record HasRun (c : Course P) (v : View) (ended : List Attempt) : Type 0 where
    pub went : Went c.view v
    pub run : IsRunOf rules c.depth (length v.seen) (bytes_at v) (Some c.first) ended
    pub left : AreLeft c.depth v ended
    pub since : AreSince c.known ended
    pub known : known_after c.known ended ≤ length v.seen
    pub own : AreOwn c.number (c.retries + 1) ended
    pub few : RestartAtMost c.restarts ended  -- none tells of more inner blocks that ran again
    pub outrun : AreOutrun v.high ended  -- the clock was seen past where each that ended in a conflict had read

  -- where the run stands after them
  abbrev pub now_at : Course P → View → List Attempt → Option (Between P)
  now_at c v ended = run_after rules c.depth (bytes_at v) (Some c.first) ended

  -- within a transaction an attempt is open
  pub record IsInside (c : Course P) (v : View) (e : Core) (t : Account P) : Type 0 where
    pub between : Between P
    pub row : Attempt
    pub points : List Savepoint
    pub stage_is : t.stage ≡ within row points
    pub now_is : now_at c v t.ended ≡ Some between
    pub try : IsTry c.depth between row points t.player v e
    pub again : t.again ≡ true
    pub nth : row.nth ≡ t.nth
    pub thread : row.thread ≡ c.number
    pub known : known_after c.known t.ended ≤ row.began
    pub looked : c.view.looks + t.nth ≤ v.looks  -- each try of the block has looked at the clock

  -- outside none is
  pub record IsOutside (c : Course P) (v : View) (e : Core) (t : Account P) : Type 0 where
    pub between : Between P
    pub stage_is : t.stage ≡ outside
    pub now_is : now_at c v t.ended ≡ Some between
    pub before : IsBefore rules c.depth between t.player e.arena t.again t.nth
    pub known : known_after c.known t.ended ≤ commits_known v
    pub looked : c.view.looks + t.nth ≤ v.looks + 1

  pub record IsRunning (c : Course P) (v : View) (e : Core) (t : Account P) : Type 0 where
    pub has_run : HasRun c v t.ended
    pub mine : v.mine ≡ c.view.mine ++ positions t.ended
    pub tried : 0 < t.nth
    pub tries : t.nth ≤ c.retries + 1
    pub nested : IsNested rules (in_transaction e) t.player
    pub depth : rules.depth t.player ≡ length e.blocks
    pub deepest : e.depth ≡ c.depth
    pub limit : e.restarts ≡ c.restarts
    pub inside : in_transaction e ≡ true → IsInside c v e t
    pub outside : in_transaction e ≡ false → IsOutside c v e t
