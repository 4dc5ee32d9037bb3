-- The room that calls tell.
use Rattle.std.specs.Prelude.{ℕ, Option, None, Some}
use Rattle.itm_types.specs.declared.call.Call.{Call}
use Rattle.itm_types.specs.declared.call.Call.TheVariants.{Begin, Mode}

-- how many calls come at most until the outermost block ends, as a call tells it: also a begin that is not to go irrevocable
abbrev pub carried_room : Call → Option ℕ
carried_room (Begin props room) = Some room
carried_room (Mode room) = Some room
carried_room call = None
