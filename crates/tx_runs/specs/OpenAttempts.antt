-- The attempt that is under way, and the room that is made ahead for it.
use Rattle.std.specs.Prelude.{◌≡◌, ◌⊎◌, ℕ, ◌+◌, ◌<◌, ◌≤◌, true, if◌then◌else◌, is_some, length, List, [], ◌∷◌, Option, None, Some}
use Rattle.std.specs.Global.{Box}
use Rattle.itm_types.specs.declared.call.Call.{Call}
use Rattle.itm_types.specs.Calls.{is_abort, is_begin, registered_by}
use Rattle.norec_core.specs.Core.{Core}
use Rattle.tx_attempts.specs.declared.attempt.Attempt.{Attempt}
use Rattle.tx_attempts.specs.Kept.{Backing}
use Rattle.tx_attempts.specs.Restarts.{count_undone}
use Rattle.tx_runs.specs.declared.savepoint.Savepoint.{Savepoint}
use Rattle.tx_runs.specs.Savepoints.{due_at}
use Rattle.tx_runs.specs.Tallies.{Stand}

pub record Open : Type 0 where
  pub row : Attempt
  pub points : List Savepoint  -- where its open inner blocks began, the innermost first
  pub deep : ℕ  -- places for so many of them
  pub ends : ℕ  -- places for the actions that have run once it ends
  pub cancels : ℕ  -- and for those that have run once a cancel is done, where it stays open
  pub again : Option Backing  -- and for a block that runs again

-- what is made ahead, besides the room for calls, and where the blocks began
pub record Rooms : Type 0 where
  pub points : List Savepoint
  pub deep : ℕ
  pub ends : ℕ
  pub cancels : ℕ
  pub again : Option Backing

abbrev pub no_rooms : Rooms
no_rooms = record { points = []; deep = 0; ends = 0; cancels = 0; again = None }

abbrev pub rooms_in : Option (Box Rooms) → Rooms
rooms_in None = no_rooms
rooms_in (Some places) = places.value

abbrev pub open_of : Attempt → Rooms → Open
open_of row r = record { row = row; points = r.points; deep = r.deep; ends = r.ends; cancels = r.cancels; again = r.again }

-- there is room for one more block that runs again, where the arena has so many bytes, and so many actions may have run
pub record IsBacked (bytes actions : ℕ) (o : Open) : Type 0 where
  pub room : Backing
  pub has : o.again ≡ Some room
  pub records : length o.row.restarts < room.records
  pub arena : bytes ≤ room.arena
  pub undone : actions ≤ room.undone

-- There is room for the block that the call begins, for the actions that it may leave, where there are so many, and for as many more blocks and actions as it asks for. Where the innermost block may run again by the call, with an arena of so many bytes, there is room for that.
pub record HasPlacesFor (call : Call) (actions ahead : ℕ) (arena : Option ℕ) (o : Open) : Type 0 where
  pub begins : is_begin call ≡ true → length o.points < o.deep
  pub ends : is_some (registered_by call) ≡ true → actions < o.ends
  pub cancels : is_abort call ≡ true → actions ≤ o.cancels
  pub ahead_begins : 0 < ahead → length o.points + ahead < o.deep
  pub ahead_ends : 0 < ahead → actions + ahead ≤ o.ends
  pub ahead_cancels : 0 < ahead → actions + ahead ≤ o.cancels
  pub again : (bytes : ℕ) → arena ≡ Some bytes → IsBacked bytes actions o

-- the innermost block may run again by the call, and there is no room for what is told of that
abbrev pub LacksRecord : ℕ → Option ℕ → Open → Type 0
LacksRecord actions arena o = (bytes : ℕ) × (arena ≡ Some bytes) × (IsBacked bytes actions o → ⊥)

-- there is none for the call, or for its block, or for its actions; or it asks for more; or there is none for a block that runs again by it
abbrev pub LacksPlaces : Call → ℕ → ℕ → Option ℕ → Open → Type 0
LacksPlaces call actions ahead arena o = (o.row.calls.room ≡ 0) ⊎ ((is_begin call ≡ true) × (o.deep ≤ length o.points)) ⊎ ((is_some (registered_by call) ≡ true) × (o.ends ≤ actions)) ⊎ ((is_abort call ≡ true) × (o.cancels < actions)) ⊎ (0 < ahead) ⊎ LacksRecord actions arena o

-- how many calls it may have room for between two calls, at most: in an irrevocable transaction as many as its engine has room for, in one that may be tried again none
abbrev pub promised : Core → ℕ
promised e = if e.irrevocable then e.room else 0

-- so many of the actions that have come to run in the transaction are told already
abbrev pub told_in : Attempt → ℕ
told_in row = length row.ran + count_undone row.restarts

-- there is room for what comes of the call's answer
pub record HasRoom (call : Call) (s : Stand) (o : Open) : Type 0 where
  pub entry : 0 < o.row.calls.room
  pub begins : is_begin call ≡ true → length o.points < o.deep
  pub told : told_in o.row ≤ length s.ran
  pub ends : length s.ran ≤ o.ends
  pub cancels : s.is_open ≡ true → told_in o.row < length s.ran → length s.ran ≤ o.cancels

-- its innermost block began after as many actions as have come to run, or fewer
abbrev pub BeganBy : List Savepoint → Attempt → ℕ → Type 0
BeganBy [] row due = Unit {0}
BeganBy (s ∷ outer) row due = due_at s row.restarts ≤ due

-- there is room for what is told of its innermost block where that runs again
pub record MayRenew (s : Stand) (o : Open) : Type 0 where
  pub told : told_in o.row ≤ length s.ran
  pub began : BeganBy o.points o.row (length s.ran)
  pub backed : IsBacked (length s.arena) (length s.ran) o
