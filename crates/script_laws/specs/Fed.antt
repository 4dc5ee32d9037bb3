-- The room that the threads of nested code tell, and the memory that a world of them wants.
use Rattle.std.specs.Prelude.{◌≡◌, ℕ, List, [], map, Some}
use Rattle.itm_types.specs.declared.call.Call.{Call}
use Rattle.itm_types.specs.declared.call.Reply.{Reply}
use Rattle.world_rules.specs.PlayerRooms.{ComesTo, EndsWithin}
use Rattle.tx_player.specs.Replies.{MayReply}
use Rattle.world_rules.specs.Tied.{AreTied}
use Rattle.world_rules.specs.World.{World}
use Rattle.script_laws.specs.Assembled.{HasNestedCode}
use Rattle.script_program.specs.declared.instruction.Instruction.{Instruction}
use Rattle.script_program.specs.Listing.{Listing, threads_of}
use Rattle.script_vm.specs.Nesting.{Nests}
use Rattle.script_vm.specs.Rooms.{carried_room}
use Rattle.script_vm.specs.Threads.{Thread, answered, depth_of, next_call, opening, thread_rules}
use Rattle.world_laws.specs.Starved.{IsFed}

-- wherever it comes to, its blocks end within the room that its call tells
abbrev pub TellsEachRoom : Thread → Type 0
TellsEachRoom t = (n : ℕ) (u : Thread) (call : Call) (reply : Reply) (room : ℕ) → ComesTo thread_rules n t u → next_call u ≡ Some call → MayReply (depth_of u) call reply → carried_room call ≡ Some room → EndsWithin thread_rules room (answered u reply)

-- each thread of nested code tells it truly
abbrev pub TellRoom : Type 0
TellRoom = (deepest : ℕ) (code : List Instruction) → Nests code [] → TellsEachRoom (opening deepest code)

-- in a world that began with a program's threads, whose code is nested, at every moment: no actor that ended for want of memory has an irrevocable attempt
abbrev pub AreFed : Type 0
AreFed = (p : Listing) (w : World Thread) → HasNestedCode p → w.opening ≡ map (opening p.limits.depth) (threads_of p) → AreTied thread_rules w → IsFed w
