-- The order of the steps: where a call stands once it has come, and after each value that is handed in.
use Rattle.std.specs.Prelude.{ℕ, suc, ◌+◌, ◌*◌, ◌/◌, ◌%◌, ◌==◌, ◌&&◌, nat_le, nat_lt, Bool, if◌then◌else◌, List, [], ◌∷◌, ◌++◌, drop, length, take, is_none, Option, None, Some}
use Rattle.itm_types.specs.declared.row.LogRow.{LogRow}
use Rattle.itm_types.specs.declared.call.Call.{Call}
use Rattle.itm_types.specs.declared.call.Call.TheVariants as calls
use Rattle.norec_core.specs.Aims.{Aim}
use Rattle.norec_core.specs.Aims as aims
use Rattle.norec_core.specs.declared.call_parts.Opening.{Opening}
use Rattle.norec_core.specs.declared.call_parts.Taking.{Taking}
use Rattle.norec_core.specs.declared.call_parts.Taking.TheVariants as takings
use Rattle.norec_core.specs.declared.call_parts.Writing.{Writing}
use Rattle.norec_core.specs.declared.call_parts.Target.{Target}
use Rattle.norec_core.specs.declared.call_parts.Target.TheVariants as into
use Rattle.norec_core.specs.declared.call_parts.Reading.{Reading}
use Rattle.norec_core.specs.declared.call_parts.Purpose.{Purpose}
use Rattle.norec_core.specs.declared.call_parts.Purpose.TheVariants as for
use Rattle.norec_core.specs.Phases.{Phase}
use Rattle.norec_core.specs.Phases.{Idle, Begin, Take, Load, Confirm, RoundStart, RoundRow, RoundEnd, RoundBack, Exchange, BackLoad, Store, Free, Fetch, Place}
use Rattle.itm_types.specs.Access.{size_of}
use Rattle.itm_types.specs.declared.access.ReadHint.{ReadHint}
use Rattle.itm_types.specs.declared.access.WriteHint.{WriteHint}
use Rattle.itm_types.specs.declared.access.Width.{Width}
use Rattle.itm_types.specs.declared.call.Copying.{Copying}
use Rattle.itm_types.specs.declared.copy.CopyPair.{CopyPair}
use Rattle.itm_types.specs.declared.copy.CopyPair.TheVariants.{Out, In, Within}
use Rattle.word_pieces.specs.declared.chunk.Chunk.{Chunk}
use Rattle.norec_core.specs.Copies.{copy_refusal, chunks_in}
use Rattle.write_set.specs.declared.row.Row.{Row}
use Rattle.word_pieces.specs.declared.piece.Piece.{Piece}
use Rattle.word_pieces.specs.declared.chunk.Direction.TheVariants.{Up}
use Rattle.word_pieces.specs.Chunks.{chunks_of}
use Rattle.word_pieces.specs.Masks.{mask_of, merge, whole}
use Rattle.word_pieces.specs.Pieces.{count_of, piece_of, pieces_of, scattered}
use Rattle.norec_core.specs.Rows.{row_at, write_at, value_into, is_had}
use Rattle.itm_types.specs.declared.step.Step.{Step}
use Rattle.itm_types.specs.declared.step.Step.TheVariants as steps
use Rattle.nest_frames.specs.Nest.{reads_of}
use Rattle.norec_core.specs.Core.{Core, irrevocable_room, in_transaction, is_outermost, is_within, may_go}
use Rattle.norec_core.specs.OwnAccesses.{word_of}

-- one more round, or the end
abbrev pub try_stage : ℕ → ℕ → Aim → Phase
try_stage tries patience aim = if nat_lt tries patience then RoundStart aim else Idle

-- the next row of a round, or the clock load that ends it
abbrev pub row_stage : ℕ → Aim → ℕ → Phase
row_stage rows aim row = if nat_lt row rows then RoundRow aim row else RoundEnd aim

-- the exchange, or the end where as many commits are done as may be
abbrev pub exchange_stage : ℕ → ℕ → Taking → Phase
exchange_stage max_commits snapshot taking = if nat_lt (snapshot / 2) max_commits then Exchange taking else Idle

-- a row with a whole word is stored at once; of another one the word is loaded first
abbrev pub row_store : Taking → Row → ℕ → Phase
row_store taking r row = if r.mask == whole then Store taking row None else BackLoad taking row

-- once each row is stored: a commit frees the clock, and an irrevocable transaction keeps it
abbrev pub stored_stage : Taking → Phase
stored_stage takings.Commit = Free
stored_stage (takings.Mode room) = Idle
stored_stage (takings.Begin props room) = Idle

-- the next row of the write set, or what comes past them
abbrev pub store_stage : Taking → List Row → ℕ → Phase
store_stage taking rows row = if nat_lt row (length rows) then row_store taking (write_at rows row) row else stored_stage taking

-- the first of these pieces, of which the next one is the access's, that is not to be had with no step, or what comes past them
abbrev pub load_among : List Row → List LogRow → Phase → Reading → List Piece → Phase
load_among writes log past r [] = past
load_among writes log past r (p ∷ ps) = if is_had writes log p then load_among writes log past (record r { number = suc r.number }) ps else Load r

-- a chunk of a copy's source, at its first piece
abbrev pub chunk_reading : Copying → ℕ → Chunk → Reading
chunk_reading k number c = record { purpose = for.Chunk k number; at = k.from + c.at; size = c.size; number = 0 }

-- the same among these chunks of a copy's source, the first of which has this number
abbrev pub load_chunks : List Row → List LogRow → Copying → ℕ → List Chunk → Phase
load_chunks writes log k number [] = Idle
load_chunks writes log k number (c ∷ cs) = load_among writes log (load_chunks writes log k (suc number) cs) (chunk_reading k number c) (pieces_of (k.from + c.at) c.size)

-- and past the access that is made for this
abbrev pub load_past : List Row → List LogRow → Purpose → Phase
load_past writes log (for.Value hint width) = Idle
load_past writes log (for.Chunk k number) = load_chunks writes log k (suc number) (drop (suc number) (chunks_in k))

-- the next piece that is loaded, from this one on
abbrev pub load_stage : List Row → List LogRow → Reading → Phase
load_stage writes log r = load_among writes log (load_past writes log r.purpose) r (drop r.number (pieces_of r.at r.size))

-- a read, at its first piece
abbrev pub value_reading : ReadHint → Width → ℕ → Reading
value_reading hint width at = record { purpose = for.Value hint width; at = at; size = size_of width; number = 0 }

-- where a copy stands as it comes: one out of the arena loads nothing
abbrev pub copy_stage : List Row → List LogRow → Copying → CopyPair → Phase
copy_stage writes log k (Out to) = Idle
copy_stage writes log k (In from) = load_chunks writes log k 0 (chunks_in k)
copy_stage writes log k (Within from to) = load_chunks writes log k 0 (chunks_in k)

-- ### In an irrevocable transaction

-- the first of these pieces, which is the access's: a piece of a whole word is stored at once, and of another one the word is loaded first
abbrev pub place_among : Phase → Writing → List Piece → Phase
place_among past w [] = past
place_among past w (p ∷ ps) = if mask_of p.first p.count == whole then Place w None else Fetch w

abbrev pub place_from : Phase → Writing → Phase
place_from past w = place_among past w (drop w.number (pieces_of w.at w.size))

abbrev pub read_from : Phase → Reading → Phase
read_from past r = if nat_lt r.number (count_of r.at r.size) then Load r else past

-- a chunk of a copy that is to be written, at its first piece
abbrev pub chunk_writing : Copying → ℕ → Chunk → Writing
chunk_writing k number c = record { target = into.Chunk k number; at = k.to + c.at; size = c.size; number = 0 }

-- the next chunk of a copy
abbrev pub chunk_stage : Copying → CopyPair → ℕ → List Chunk → Phase
chunk_stage k pair number [] = Idle
chunk_stage k (Out to) number (c ∷ cs) = place_from Idle (chunk_writing k number c)
chunk_stage k (In from) number (c ∷ cs) = read_from Idle (chunk_reading k number c)
chunk_stage k (Within from to) number (c ∷ cs) = read_from Idle (chunk_reading k number c)

abbrev pub chunk_from : Copying → ℕ → Phase
chunk_from k number = chunk_stage k k.pair number (drop number (chunks_in k))

-- past the chunk that was read: it is written to the memory, or was saved in the arena
abbrev pub chunk_read : Copying → CopyPair → ℕ → List Chunk → Phase
chunk_read k pair number [] = Idle
chunk_read k (Out to) number (c ∷ cs) = Idle
chunk_read k (In from) number (c ∷ cs) = chunk_from k (suc number)
chunk_read k (Within from to) number (c ∷ cs) = place_from Idle (chunk_writing k number c)

-- the next chunk of a fill
abbrev pub fill_writing : WriteHint → ℕ → ℕ → ℕ → ℕ → Chunk → Writing
fill_writing hint to byte size number c = record { target = into.Fill hint to byte size number; at = to + c.at; size = c.size; number = 0 }

abbrev pub fill_stage : WriteHint → ℕ → ℕ → ℕ → ℕ → List Chunk → Phase
fill_stage hint to byte size number [] = Idle
fill_stage hint to byte size number (c ∷ cs) = place_from Idle (fill_writing hint to byte size number c)

abbrev pub fill_from : WriteHint → ℕ → ℕ → ℕ → ℕ → Phase
fill_from hint to byte size number = fill_stage hint to byte size number (drop number (chunks_of Up size))

-- past an access
abbrev pub read_past : Purpose → Phase
read_past (for.Value hint width) = Idle
read_past (for.Chunk k number) = chunk_read k k.pair number (drop number (chunks_in k))

abbrev pub placed_past : Target → Phase
placed_past (into.Value hint width) = Idle
placed_past (into.Fill hint to byte size number) = fill_from hint to byte size (suc number)
placed_past (into.Chunk k number) = chunk_from k (suc number)

-- the value of a write, at its first piece
abbrev pub value_writing : WriteHint → ℕ → Width → Writing
value_writing hint at width = record { target = into.Value hint width; at = at; size = size_of width; number = 0 }

-- ### After a value

-- what a round was made for
abbrev pub aimed_stage : Core → Aim → ℕ → Phase
aimed_stage c (aims.Read r) seen = Load r
aimed_stage c (aims.Take taking) seen = exchange_stage c.max_commits seen taking

-- a begin that found the clock even: one that goes irrevocable takes it
abbrev pub begin_stage : ℕ → Opening → ℕ → Phase
begin_stage max_commits b seen = if b.props.goes_irrevocable then (if nat_lt (seen / 2) max_commits then Take b else Idle) else Idle

-- one more try of a begin, or the end
abbrev pub again_stage : Core → Opening → Phase
again_stage c b = if nat_lt c.tries c.patience then Begin b else Idle

-- a row that differs is of the part that the innermost block has added, which is not the outermost one, and a block may go back to its begin once more
abbrev pub may_restart : Core → ℕ → Bool
may_restart c row = is_within c.blocks && nat_le (reads_of c.blocks) row && nat_lt c.restarted c.restarts

-- then the clock decides; else the transaction ends
abbrev pub differ_stage : Core → Aim → ℕ → Phase
differ_stage c aim row = if may_restart c row then RoundBack aim row else Idle

abbrev pub stage_from : Core → Phase → ℕ → Phase
stage_from c Idle seen = Idle
stage_from c (Begin b) seen = if seen % 2 == 0 then begin_stage c.max_commits b seen else again_stage c b
stage_from c (Take b) seen = if seen == c.snapshot then Idle else again_stage c b
stage_from c (Load r) seen = if c.irrevocable then read_from (read_past r.purpose) (record r { number = suc r.number }) else Confirm r seen
stage_from c (Confirm r value) seen = if seen == c.snapshot then load_stage c.writes (c.log ++ c.fresh) (record r { number = suc r.number }) else try_stage c.tries c.patience (aims.Read r)
stage_from c (RoundStart aim) seen = if seen % 2 == 0 then row_stage (length c.log) aim 0 else try_stage c.tries c.patience aim
stage_from c (RoundRow aim row) seen = if (row_at c.log row).value == seen then row_stage (length c.log) aim (row + 1) else differ_stage c aim row
stage_from c (RoundEnd aim) seen = if seen == c.clock then aimed_stage c aim seen else try_stage c.tries c.patience aim
stage_from c (RoundBack aim row) seen = if seen == c.clock then Idle else try_stage c.tries c.patience aim
stage_from c (Exchange taking) seen = if seen == c.snapshot then store_stage taking c.writes 0 else try_stage c.tries c.patience (aims.Take taking)
stage_from c (BackLoad taking row) seen = Store taking row (Some seen)
stage_from c (Store taking row got) seen = store_stage taking c.writes (row + 1)
stage_from c Free seen = Idle
stage_from c (Fetch w) seen = Place w (Some seen)
stage_from c (Place w got) seen = place_from (placed_past w.target) (record w { number = suc w.number })

abbrev pub stage_after : Core → ℕ → Phase
stage_after c seen = stage_from c c.stage seen

-- an irrevocable transaction has the clock, and one that wrote nothing needs none
abbrev pub commit_stage : Core → Phase
commit_stage c = if c.irrevocable then Free else (if length c.writes == 0 then Idle else exchange_stage c.max_commits c.snapshot takings.Commit)

-- the clock is taken where the call makes the transaction irrevocable
abbrev pub going_stage : Core → Option ℕ → Taking → Phase
going_stage c None taking = Idle
going_stage c (Some room) taking = exchange_stage c.max_commits c.snapshot taking

-- a read, a copy and a fill that are served
abbrev pub read_stage : Core → Reading → Phase
read_stage c r = if c.irrevocable then read_from Idle r else load_stage c.writes c.log r

abbrev pub copying_stage : Core → Copying → Phase
copying_stage c k = if c.irrevocable then chunk_from k 0 else copy_stage c.writes c.log k k.pair

-- a write and a fill take no step but in an irrevocable transaction
abbrev pub placed_in : Core → Phase → Phase
placed_in c stage = if c.irrevocable then stage else Idle

-- where a call stands as it comes
abbrev pub stage_at : Core → Call → Bool → Phase
stage_at c (calls.Begin props room) again =
    if in_transaction c then going_stage c (irrevocable_room c (calls.Begin props room)) (takings.Begin props room) else (if may_go c.blocks props then Begin (record { props = props; room = room; again = again }) else Idle)
stage_at c calls.Commit again = if is_outermost c.blocks then commit_stage c else Idle
stage_at c (calls.Abort outer) again = Idle
stage_at c (calls.Mode room) again = going_stage c (irrevocable_room c (calls.Mode room)) (takings.Mode room)
stage_at c calls.InTransaction again = Idle
stage_at c (calls.Read hint width at) again =
    if in_transaction c && nat_le (at + size_of width) (8 * c.words) then read_stage c (value_reading hint width at) else Idle
stage_at c (calls.Write hint at value) again =
    if in_transaction c && nat_le (at + size_of value.width) (8 * c.words) then placed_in c (place_from Idle (value_writing hint at value.width)) else Idle
stage_at c (calls.Log width at) again = Idle
stage_at c (calls.LogBytes at size) again = Idle
stage_at c (calls.Copy k) again = if is_none (copy_refusal (in_transaction c) c.words (length c.arena) k) then copying_stage c k else Idle
stage_at c (calls.Fill hint to byte size) again = if in_transaction c && nat_le (to + size) (8 * c.words) then placed_in c (fill_from hint to byte size 0) else Idle
stage_at c (calls.CommitAction action) again = Idle
stage_at c (calls.UndoAction action) again = Idle
stage_at c (calls.Load width at) again = Idle
stage_at c (calls.Save at value) again = Idle

-- ## Tries

-- each round that starts, and each further load of a begin, is one try more; outside a call there is none
abbrev pub tries_after : Phase → ℕ → ℕ
tries_after Idle tries = 0
tries_after (Begin b) tries = suc tries
tries_after (RoundStart aim) tries = suc tries
tries_after _ tries = tries

-- a call starts with none, but for the first load of a begin
abbrev pub tries_at : Phase → ℕ
tries_at (Begin b) = 1
tries_at _ = 0

-- ## The snapshot

-- an even clock at a begin, and a clock that has not moved over a round, are the new snapshot
abbrev pub snapshot_from : Core → Phase → ℕ → ℕ
snapshot_from c (Begin b) seen = if seen % 2 == 0 then seen else c.snapshot
snapshot_from c (RoundEnd aim) seen = if seen == c.clock then seen else c.snapshot
snapshot_from c (RoundBack aim row) seen = if seen == c.clock then seen else c.snapshot
snapshot_from c _ seen = c.snapshot

abbrev pub snapshot_after : Core → ℕ → ℕ
snapshot_after c seen = snapshot_from c c.stage seen

-- ## The log

-- a transaction that has become irrevocable needs none
abbrev pub kept_log : Phase → List LogRow → List LogRow
kept_log Idle log = []
kept_log stage log = log

-- a word that was confirmed joins it, and as a block goes back to its begin, what was read since is cut off
abbrev pub log_from : Core → Phase → ℕ → List LogRow
log_from c (Confirm r value) seen = if seen == c.snapshot then c.log ++ c.fresh else c.log
log_from c (RoundBack aim row) seen = if seen == c.clock then take (reads_of c.blocks) c.log else c.log
log_from c (Exchange taking) seen = if seen == c.snapshot then kept_log (store_stage taking c.writes 0) c.log else c.log
log_from c (Store taking row got) seen = kept_log (store_stage taking c.writes (row + 1)) c.log
log_from c _ seen = c.log

abbrev pub log_after : Core → ℕ → List LogRow
log_after c seen = log_from c c.stage seen

-- ## The steps

-- the piece of an access that writes
abbrev pub placed_piece : Writing → Piece
placed_piece w = piece_of w.at w.size (w.at / 8 + w.number)

-- the word with the piece's bytes of these
abbrev pub placed_value : Writing → List ℕ → Option ℕ → ℕ
placed_value w bytes None = scattered (placed_piece w) bytes
placed_value w bytes (Some word) = (let p = placed_piece w in merge word (mask_of p.first p.count) (scattered p bytes))

-- the step that a stage asks for, by the value log, the snapshot, the write set and what is gathered
abbrev pub step_in : List LogRow → ℕ → List Row → List ℕ → Phase → Step
step_in log snapshot writes bytes (Load r) = steps.Load (suc (word_of r))
step_in log snapshot writes bytes (RoundRow aim row) = steps.Load (suc (row_at log row).word)
step_in log snapshot writes bytes (Take b) = steps.Cas 0 snapshot (snapshot + 1)
step_in log snapshot writes bytes (Exchange taking) = steps.Cas 0 snapshot (snapshot + 1)
step_in log snapshot writes bytes (BackLoad taking row) = steps.Load (suc (write_at writes row).word)
step_in log snapshot writes bytes (Store taking row got) = steps.Store (suc (write_at writes row).word) (value_into (write_at writes row) got)
step_in log snapshot writes bytes Free = steps.Store 0 (snapshot + 2)
step_in log snapshot writes bytes (Fetch w) = steps.Load (suc (placed_piece w).word)
step_in log snapshot writes bytes (Place w got) = steps.Store (suc (placed_piece w).word) (placed_value w bytes got)
step_in log snapshot writes bytes _ = steps.Load 0

-- while no call is in progress there is none
abbrev pub asked_in : List LogRow → ℕ → List Row → List ℕ → Phase → Option Step
asked_in log snapshot writes bytes Idle = None
asked_in log snapshot writes bytes stage = Some (step_in log snapshot writes bytes stage)

abbrev pub asked_from : Core → Phase → Option Step
asked_from c stage = asked_in c.log c.snapshot c.writes c.gathered stage

-- and the engine, by its stage
abbrev pub asked : Core → Option Step
asked c = asked_from c c.stage
