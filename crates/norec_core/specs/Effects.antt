-- What an accepted call leaves of an engine: its write set, arena, blocks, actions and room.
use Rattle.std.specs.Prelude.{ℕ, ◌-◌, ◌%◌, Bool, true, if◌then◌else◌, List, [], ◌∷◌, drop, length, replicate}
use Rattle.write_set.specs.declared.row.Row.{Row}
use Rattle.itm_types.specs.declared.call.Call.{Call}
use Rattle.user_actions.specs.Actions.{Actions, registered}
use Rattle.nest_frames.specs.Nest.{Frame, begun, closed, logged, log_of, rows_of, arena_back, actions_back, actions_cancelled, actions_closed}
use Rattle.undo_log.specs.Rollback.{found, put_back}
use Rattle.itm_types.specs.declared.call.ActionKind.TheVariants as kinds
use Rattle.itm_types.specs.declared.call.Call.TheVariants.{Begin, Commit, Abort, Write, Log, LogBytes, Copy, Fill, CommitAction, UndoAction, Save}
use Rattle.itm_types.specs.declared.call.Copying.{Copying}
use Rattle.itm_types.specs.declared.copy.CopyPair.{CopyPair}
use Rattle.itm_types.specs.declared.copy.CopyPair.TheVariants.{Out, In, Within}
use Rattle.word_pieces.specs.declared.chunk.Direction.TheVariants.{Up}
use Rattle.itm_types.specs.declared.call.Reply.{Reply as Replied}
use Rattle.itm_types.specs.declared.call.Reply.TheVariants.{Done, Code}
use Rattle.itm_types.specs.Access.{size_of}
use Rattle.word_pieces.specs.Pieces.{pieces_of}
use Rattle.itm_types.specs.Memory.{bytes_of}
use Rattle.itm_types.specs.Slices.{with_slice}
use Rattle.write_set.specs.Rows.{overlay}
use Rattle.norec_core.specs.Rows.{reserved_all, put_all, put_range}
use Rattle.norec_core.specs.Copies.{direction_of, source_in}
use Rattle.norec_core.specs.Core.{Core, in_transaction}

-- the begin of a block that was begun before is told so
abbrev pub recoded : Call → Bool → Replied → Replied
recoded (Begin props room) true (Code n) = Code 9
recoded _ again r = r

-- the bytes that a copy reads, where this is the memory under the write set
abbrev pub source_over : Core → List ℕ → Copying → List ℕ
source_over c m k = source_in k.pair c.arena (bytes_of (overlay m c.writes)) k.from k.size

-- bytes that a copy writes: in the write set, from the end that the copy is taken from
abbrev pub writes_copied : List Row → Copying → CopyPair → List ℕ → List Row
writes_copied rows k (Out to) bytes = put_range rows k.to (direction_of k) bytes
writes_copied rows k (In from) bytes = rows
writes_copied rows k (Within from to) bytes = put_range rows k.to (direction_of k) bytes

-- or in the arena
abbrev pub arena_copied : List ℕ → Copying → CopyPair → List ℕ → List ℕ
arena_copied arena k (Out to) bytes = arena
arena_copied arena k (In from) bytes = with_slice arena k.to bytes
arena_copied arena k (Within from to) bytes = arena

-- an accepted write, copy or fill puts its pieces in the write set, which keeps the order of first writing; a cancel goes back to the rows as at the block's begin
abbrev pub writes_after : Core → List ℕ → Call → Replied → List Row
writes_after c m (Write hint at value) Done = (let ps = pieces_of at (size_of value.width) in put_all (reserved_all c.writes ps) ps value.bytes.items)
writes_after c m (Copy k) Done = writes_copied c.writes k k.pair (source_over c m k)
writes_after c m (Fill hint to byte size) Done = put_range c.writes to Up (replicate size (byte % 256))
writes_after c m (Abort outer) (Code n) = if outer then [] else rows_of c.blocks
writes_after c m _ r = c.writes

-- an accepted save puts its bytes in the arena, and so does a copy to it; a cancel puts back what was logged
abbrev pub arena_after : Core → List ℕ → Call → Replied → List ℕ
arena_after c m (Save at value) Done = with_slice c.arena at value.bytes.items
arena_after c m (Copy k) Done = arena_copied c.arena k k.pair (source_over c m k)
arena_after c m (Abort outer) (Code n) = if outer then arena_back c.blocks c.arena else put_back (log_of c.blocks) c.arena
arena_after c m _ r = c.arena

-- in an irrevocable transaction a copy to the arena is there chunk by chunk as it is read
abbrev pub arena_held : Core → Call → Replied → List ℕ
arena_held c (Save at value) Done = with_slice c.arena at value.bytes.items
arena_held c _ r = c.arena

-- an accepted begin opens a block, a commit closes one, a cancel takes one or all away, and a log adds to the innermost one, unless the transaction is irrevocable
abbrev pub blocks_after : Core → Call → Replied → List Frame
blocks_after c (Begin props room) (Code n) = begun props c.writes c.actions (length c.log) ∷ c.blocks
blocks_after c Commit Done = closed c.blocks
blocks_after c (Abort outer) (Code n) = if outer then [] else drop 1 c.blocks
blocks_after c (Log width at) Done = if c.irrevocable then c.blocks else logged c.blocks (found c.arena at (size_of width))
blocks_after c (LogBytes at size) Done = if c.irrevocable then c.blocks else logged c.blocks (found c.arena at size)
blocks_after c _ r = c.blocks

-- an accepted outermost begin forgets those that have come to run; a registration adds one, and a cancel runs undo actions
abbrev pub actions_after : Core → Call → Replied → Actions
actions_after c (Begin props room) (Code n) = if in_transaction c then c.actions else record c.actions { ran = [] }
actions_after c Commit Done = actions_closed c.blocks c.actions
actions_after c (Abort outer) (Code n) = if outer then actions_back c.blocks c.actions else actions_cancelled c.blocks c.actions
actions_after c (CommitAction action) Done = registered kinds.Commit action c.actions
actions_after c (UndoAction action) Done = if c.irrevocable then c.actions else registered kinds.Undo action c.actions
actions_after c _ r = c.actions

-- a commit action takes of the room, where there is some
abbrev pub room_left : Core → Call → Replied → ℕ
room_left c (CommitAction action) Done = c.room - 1
room_left c _ r = c.room
