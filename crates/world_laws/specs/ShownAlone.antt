-- What a world with one player shows, by what that player does alone.
use Rattle.std.specs.Prelude.{◌≡◌, ℕ, ◌/◌, ◌%◌, [], ◌∷◌, List, length, replicate, Option, None, Some, Result}
use Rattle.tx_attempts.specs.declared.attempt.Outcome.TheVariants.{Unfinished}
use Rattle.tx_runs.specs.declared.ending.End.{End}
use Rattle.world_rules.specs.World.{World, attempts_of, ending_at, memory_of, observed}
use Rattle.world_laws.specs.SoFar.{IsSoFar, HasEnded}
use Rattle.world_rules.specs.declared.fault.WorldFault.{WorldFault}
use Rattle.world_rules.specs.Commits.{CommitsInOrder}
use Rattle.world_rules.specs.Headline.{AreOpaque}
use Rattle.world_rules.specs.Starts.{IsNew}
use Rattle.world_rules.specs.Tied.{AreTied}
use Rattle.world_rules.specs.WorldEvents.{Leads, Takes}
use Rattle.tx_player.specs.Rules.{Rules}

module _ {P : Type 0} (rules : Rules P) where
  -- What its player has done alone: a beginning before its end, where the memory is told only of an even clock; all of it at its end, or a beginning where memory was refused.
  abbrev pub DoneBy : World P → P → Option End → Type 0
  DoneBy w p None = (memory : List ℕ) × IsSoFar rules w.limits.depth w.limits.max_commits 0 p w.base (replicate w.arena 0) (w.cells.clock / 2) memory Unfinished (attempts_of w)
      × (w.cells.clock % 2 ≡ 0 → memory_of w ≡ memory)
  DoneBy w p (Some end) = HasEnded rules w.limits.depth w.limits.max_commits 0 p w.base (replicate w.arena 0) w.cells (attempts_of w) end

  -- where there is one player, the world so far shows what that one has done alone
  abbrev pub ShowsAlone : World P → Type 0
  ShowsAlone w = length w.opening ≡ 1 → (p : P) × (w.opening ≡ p ∷ []) × DoneBy w p (ending_at w 0)

  -- so does one that such a world was led to by any schedule
  abbrev pub OnePlayerShows : Type 0
  OnePlayerShows = (schedule : List ℕ) (results : List (Result (Unit {0}) WorldFault)) (first w : World P) → IsNew rules first → CommitsInOrder first → AreOpaque rules (observed first) → AreTied rules first
      → Leads rules first schedule results w → length first.opening ≡ 1 → ShowsAlone w

  -- events of one actor in a row are so many entries of a schedule
  abbrev pub TakesLead : Type 0
  TakesLead = (actor n : ℕ) (old new : World P) → Takes rules actor n old new → (results : List (Result (Unit {0}) WorldFault)) × Leads rules old (replicate n actor) results new
