-- The room that the call in progress asks for, and what takes places of it.
use Rattle.std.specs.Prelude.{◌≡◌, ℕ, ◌+◌, ◌<◌, ◌≤◌, ◌&&◌, ◌||◌, not, nat_lt, if◌then◌else◌, Bool, true, is_some, Option, None, Some, unwrap_or}
use Rattle.user_actions.specs.Actions.{total}
use Rattle.itm_types.specs.declared.call.Call.{Call}
use Rattle.norec_core.specs.Core.{Core, irrevocable_room, in_transaction, is_within}

-- the room that the call in progress asks for, where it makes the transaction irrevocable
abbrev pub goes_in : Core → Option Call → Option ℕ
goes_in e None = None
goes_in e (Some call) = irrevocable_room e call

-- the transaction is irrevocable, or the call in progress makes it so
abbrev pub is_held : Core → Bool
is_held e = e.irrevocable || is_some (goes_in e e.doing)

-- how many calls the call in progress asks for room for, where it makes the transaction so
abbrev pub wanted : Core → ℕ
wanted e = unwrap_or (goes_in e e.doing) 0

-- an inner block is open that may go back to its begin, and a restart is left; by a call that waits for a step it may
abbrev pub may_go_back : Core → Bool
may_go_back e = nat_lt e.restarted e.restarts && (not e.irrevocable && is_within e.blocks)

-- the actions of the open transaction
abbrev pub counted : Core → ℕ
counted e = if in_transaction e then total e.actions else 0

-- while some of the room of an irrevocable transaction is left, there are places for each of its actions and for as many more as the room has: at its end, and once a cancel is done
abbrev pub HasRoomIn : Core → ℕ → ℕ → Type 0
HasRoomIn e ends cancels = is_held e ≡ true → 0 < e.room → (counted e + e.room ≤ ends) × (counted e + e.room ≤ cancels)
