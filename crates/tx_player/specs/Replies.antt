-- Which replies a call may get.
use Rattle.std.specs.Prelude.{◌≡◌, ℕ, ◌<◌}
use Rattle.itm_types.specs.declared.call.Call.{Call}
use Rattle.itm_types.specs.declared.call.Call.TheVariants.{Begin, Commit}
use Rattle.itm_types.specs.declared.call.Reply.{Reply}
use Rattle.itm_types.specs.declared.call.Reply.TheVariants.{Done, Code, Refused}

-- a reply that a call may get with so many blocks open: a begin is accepted or refused, and a commit within a block is done
abbrev pub MayReply : ℕ → Call → Reply → Type 0
MayReply depth (Begin props room) (Code n) = Unit {0}
MayReply depth (Begin props room) (Refused why) = Unit {0}
MayReply depth (Begin props room) reply = ⊥
MayReply depth Commit reply = 0 < depth → reply ≡ Done
MayReply depth call reply = Unit {0}
