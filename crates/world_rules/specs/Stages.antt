-- The attempt of an actor that is under way, and the places that are kept for it.
use Rattle.std.specs.Prelude.{◌≡◌, ℕ, ◌+◌, ◌<◌, ◌≤◌, List, [], ◌∷◌, ◌++◌, length, Option, None, Some}
use Rattle.std.specs.Option.{option_map_or}
use Rattle.itm_types.specs.declared.limits.TheConstants.{MAX_ACTORS}
use Rattle.tx_attempts.specs.declared.attempt.Attempt.{Attempt}
use Rattle.tx_runs.specs.Currents.{Current, Outside, Begins, Within}
use Rattle.tx_runs.specs.declared.savepoint.Savepoint.{Savepoint}
use Rattle.tx_runs.specs.PlayerRuns.{stage_of}
use Rattle.tx_runs.specs.Tallies.{Stage, outside, begins, within}
use Rattle.world_rules.specs.Actor.{Actor}
use Rattle.world_rules.specs.Rows.{Rows}

-- ## Its attempt

-- the open one
abbrev pub open_in : Stage → Option Attempt
open_in outside = None
open_in (begins row) = None
open_in (within row points) = Some row

-- where the inner blocks of the open one began, the innermost first
abbrev pub points_in : Stage → List Savepoint
points_in outside = []
points_in (begins row) = []
points_in (within row points) = points

-- the one that the begin in progress is to open
abbrev pub begun_in : Stage → Option Attempt
begun_in outside = None
begun_in (begins row) = Some row
begun_in (within row points) = None

-- of an actor
abbrev pub active_of : {P : Type 0} → Actor P → Option Attempt
active_of a = open_in (stage_of a.run.current)

abbrev pub pending_of : {P : Type 0} → Actor P → Option Attempt
pending_of a = begun_in (stage_of a.run.current)

-- how many calls of its open one have a reply
abbrev pub calls_of : {P : Type 0} → Actor P → ℕ
calls_of a = option_map_or (λ row. length row.calls.list) (active_of a) 0

-- its open one is at this position, if it has one
abbrev pub moved_to : ℕ → Current → Current
moved_to at Outside = Outside
moved_to at (Begins o) = Begins o
moved_to at (Within o) = Within (record o { row = record o.row { at = at } })

-- its open one has room for so many calls more
abbrev pub with_room : ℕ → Stage → Stage
with_room room outside = outside
with_room room (begins row) = begins row
with_room room (within row points) = within (record row { calls = record row.calls { room = room } }) points

-- the open attempts of these actors, by actor
abbrev pub with_open : Option Attempt → List Attempt → List Attempt
with_open None rest = rest
with_open (Some row) rest = row ∷ rest

abbrev pub opens : {P : Type 0} → List (Actor P) → List Attempt
opens [] = []
opens (a ∷ rest) = with_open (active_of a) (opens rest)

-- ## Places

-- for the actions that have run once the attempt ends
abbrev pub ends_in : Current → ℕ
ends_in Outside = 0
ends_in (Begins o) = o.ends
ends_in (Within o) = o.ends

-- for those that have run once a cancel is done
abbrev pub cancels_in : Current → ℕ
cancels_in Outside = 0
cancels_in (Begins o) = o.cancels
cancels_in (Within o) = o.cancels

-- how many attempts are to find a place among those that have ended
abbrev pub count_in : Stage → ℕ
count_in outside = 0
count_in (begins row) = 1
count_in (within row points) = 1

abbrev pub count_of : {P : Type 0} → Actor P → ℕ
count_of a = count_in (stage_of a.run.current)

-- of these actors
abbrev pub count_all : {P : Type 0} → List (Actor P) → ℕ
count_all [] = 0
count_all (a ∷ rest) = count_of a + count_all rest

-- ## Its work is its own

-- each of these is the actor's
abbrev pub AllOf : ℕ → List Attempt → Type 0
AllOf thread [] = Unit {0}
AllOf thread (a ∷ rest) = (a.thread ≡ thread) × AllOf thread rest

-- where there was room for the attempts of the others too, there still is
abbrev pub LeavesRoom : {P : Type 0} → Actor P → Rows → Actor P → Rows → Type 0
LeavesRoom a r a' r' = (others : ℕ) → others < MAX_ACTORS → others + count_of a ≤ r.room → others + count_of a' ≤ r'.room

-- only attempts of its own end by it
pub record KeepsOthers {P : Type 0} (a : Actor P) (r : Rows) (a' : Actor P) (r' : Rows) : Type 0 where
  pub thread : a'.run.thread ≡ a.run.thread
  pub more : List Attempt
  pub ended : r'.ended ≡ r.ended ++ more
  pub mine : AllOf a.run.thread more
  pub room : LeavesRoom a r a' r'
