-- The run of a program: its players, the world that begins with them, and what its schedule makes of that world.
use Rattle.std.specs.Prelude.{◌≡◌, ℕ, List, [], ◌∷◌, length, map, Option}
use Rattle.std.specs.List.{range_with_len}
use Rattle.tx_runs.specs.declared.ending.End.{End}
use Rattle.world_rules.specs.declared.setup.Setup.{Setup}
use Rattle.world_rules.specs.World.{IsSetUp, World, ending_at, memory_of, observed}
use Rattle.world_rules.specs.Commits.{CommitsInOrder}
use Rattle.world_rules.specs.Headline.{AreOpaque}
use Rattle.world_rules.specs.Tied.{AreTied}
use Rattle.world_rules.specs.Starts.{IsNew}
use Rattle.script_program.specs.declared.schedule.Item.{Item}
use Rattle.script_program.specs.declared.schedule.Item.TheVariants.{Out}
use Rattle.script_program.specs.Listing.{Listing, opening_of, threads_of}
use Rattle.script_vm.specs.Threads.{Thread, opening, thread_rules}
use Rattle.run_commands.specs.Items.{ItemsLead}

-- the players of its threads, by number
abbrev pub players_of : Listing → List Thread
players_of p = map (opening p.limits.depth) (threads_of p)

-- what its world begins with
abbrev pub setup_of : Listing → Setup
setup_of p = record { bytes = opening_of p; arena = p.arena; limits = p.limits }

-- the world has these players and just began
pub record Begins (p : Listing) (w : World Thread) : Type 0 where
  pub players : w.opening ≡ players_of p
  pub setup : IsSetUp (setup_of p) w
  pub memory : memory_of w ≡ opening_of p
  pub anew : IsNew thread_rules w  -- before its first event, each thread having done its local work up to its first step
  pub commits : CommitsInOrder w
  pub opaque : AreOpaque thread_rules (observed w)
  pub tied : AreTied thread_rules w

-- ## The schedule

-- each thread to its end, by number
abbrev pub each_out : ℕ → List Item
each_out threads = map Out (range_with_len 0 threads)

-- the items that there are, or, where there is none, each thread to its end
abbrev pub items_or_each : List Item → ℕ → List Item
items_or_each [] threads = each_out threads
items_or_each (item ∷ items) threads = item ∷ items

abbrev pub schedule_of : Listing → List Item
schedule_of p = items_or_each p.schedule (length (threads_of p))

-- the program's schedule leads to this world from one that begins with its players
abbrev pub Leaves : Listing → World Thread → Type 0
Leaves p w = (first : World Thread) × Begins p first × ItemsLead thread_rules (schedule_of p) first w

-- how its threads stand then, by number
abbrev pub endings_of : ℕ → World Thread → List (Option End)
endings_of threads w = map (ending_at w) (range_with_len 0 threads)
