-- Who holds the clock, over one step.
use Rattle.std.specs.Prelude.{◌≡◌, ◌*◌, ◌≤◌, ◌%◌, true, false, length}
use Rattle.norec_core.specs.Core.{Core}
use Rattle.world_rules.specs.Cells.{Cells}

-- what the cells are before and after a step of this engine
pub record HoldsOn (cells : Cells) (e : Core) (cells' : Cells) (e' : Core) : Type 0 where
  pub takes : e.holds ≡ false → e'.holds ≡ true → (cells.clock % 2 ≡ 0) × (cells'.words ≡ cells.words)  -- the clock is taken where it is even
  pub frees : e.holds ≡ true → e'.holds ≡ false → (cells'.clock % 2 ≡ 0) × (cells'.words ≡ cells.words)  -- and even where it is freed
  pub stores : e.holds ≡ true → e'.holds ≡ true → cells'.clock ≡ cells.clock  -- the holder stores words
  pub leaves : e.holds ≡ false → e'.holds ≡ false → cells' ≡ cells  -- one that neither holds nor takes it changes no cell
  pub late : cells.clock ≤ cells'.clock
  pub long : length cells'.words ≡ length cells.words
  pub limit : (e'.max_commits ≡ e.max_commits) × (e'.patience ≡ e.patience) × (e'.depth ≡ e.depth) × (e'.restarts ≡ e.restarts)
  pub capped : cells.clock ≤ 2 * e.max_commits → cells'.clock ≤ 2 * e.max_commits  -- no more writers commit than may
  pub seen : (e.holds ≡ false → e.clock ≡ cells.clock) → e'.holds ≡ false → e'.clock ≡ cells'.clock  -- who has seen the clock as it is still has

-- what an actor's steps do to the clock, as the others see it
pub record ClocksOn (cells : Cells) (e : Core) (cells' : Cells) (e' : Core) : Type 0 where
  pub apart : cells.clock % 2 ≡ 1 → e.holds ≡ false → (cells' ≡ cells) × (e'.holds ≡ false)  -- while another one holds it, nothing changes
  pub alone : (cells.clock % 2 ≡ 1 → e.holds ≡ true) → cells'.clock % 2 ≡ 1 → e'.holds ≡ true  -- where no other one holds it, it is odd for this one alone
  pub odd : (e.holds ≡ true → cells.clock % 2 ≡ 1) → e'.holds ≡ true → cells'.clock % 2 ≡ 1  -- it is odd where this one holds it
  pub late : cells.clock ≤ cells'.clock
  pub long : length cells'.words ≡ length cells.words
  pub limit : (e'.max_commits ≡ e.max_commits) × (e'.patience ≡ e.patience) × (e'.depth ≡ e.depth) × (e'.restarts ≡ e.restarts)
  pub capped : cells.clock ≤ 2 * e.max_commits → cells'.clock ≤ 2 * e.max_commits
  pub seen : (e.holds ≡ false → e.clock ≡ cells.clock) → e'.holds ≡ false → e'.clock ≡ cells'.clock
