-- What is true of the fields in each phase.
use Rattle.std.specs.Prelude.{◌≡◌, ◌≢◌, ℕ, ◌+◌, ◌-◌, ◌*◌, ◌/◌, ◌%◌, ◌<◌, ◌≤◌, true, false, List, [], ◌∷◌, length, take, replicate, slice_get, All, Option, None, Some}
use Rattle.itm_types.specs.declared.row.LogRow.{LogRow}
use Rattle.write_set.specs.declared.row.Row.{Row}
use Rattle.nest_frames.specs.Nest.{Frame, stays_revocable}
use Rattle.itm_types.specs.Access.{size_of}
use Rattle.itm_types.specs.Memory.{bytes_of, IsMemory, Agrees}
use Rattle.word_pieces.specs.Masks.{whole}
use Rattle.word_pieces.specs.Pieces.{gathered}
use Rattle.norec_core.specs.Aims.{Aim}
use Rattle.norec_core.specs.Aims as aims
use Rattle.norec_core.specs.declared.call_parts.Opening.{Opening}
use Rattle.norec_core.specs.declared.call_parts.Taking.{Taking}
use Rattle.norec_core.specs.declared.call_parts.Taking.TheVariants as takings
use Rattle.norec_core.specs.Phases.{Phase}
use Rattle.norec_core.specs.Phases as at
use Rattle.norec_core.specs.declared.call_parts.Reading.{Reading}
use Rattle.norec_core.specs.declared.call_parts.Purpose.{Purpose}
use Rattle.norec_core.specs.declared.call_parts.Purpose.TheVariants as for
use Rattle.itm_types.specs.declared.call.Copying.{Copying}
use Rattle.itm_types.specs.declared.copy.CopyPair.{CopyPair}
use Rattle.itm_types.specs.declared.copy.CopyPair.TheVariants.{Out, In, Within}
use Rattle.itm_types.specs.Slices.{slice}
use Rattle.word_pieces.specs.declared.chunk.Chunk.{Chunk}
use Rattle.word_pieces.specs.Chunks.{chunks_written}
use Rattle.norec_core.specs.Copies.{copy_refusal, chunks_in, source_in, is_out}
use Rattle.norec_data.specs.declared.data.Data.{Data}
use Rattle.norec_core.specs.Rows.{row_at, write_at, is_had, reserved_all, range_pieces, AllWritesWithin, IsLog}
use Rattle.write_set.specs.Marks.{Written, MayPut}
use Rattle.write_set.specs.Rows.{overlay, AreRows}
use Rattle.norec_core.specs.Core.{is_outermost, may_go}
use Rattle.norec_core.specs.Accesses.{part, parts, count, total, passed}
use Rattle.norec_core.specs.Order.{may_restart}
use Rattle.norec_data.specs.View.{core, rows_before, in_block}
use Rattle.norec_turns.specs.OpenBegins.{AreBegun}
use Rattle.norec_data.specs.Bounds.{IsBounded, IsOutside}

-- the steps of one round for this aim, and those before the first round
abbrev pub round_of : Aim → Data → ℕ
round_of (aims.Read r) d = d.entry + total r + 4
round_of (aims.Take taking) d = d.entry + 3

abbrev pub first_of : Aim → ℕ
first_of (aims.Read r) = 2 * passed r + 2
first_of (aims.Take taking) = 1

-- the rows of the open blocks lie within the memory, and the outermost one began with none
abbrev pub AreFrames : ℕ → List Frame → Type 0
AreFrames words [] = Unit {0}
AreFrames words (b ∷ []) = b.rows ≡ []
AreFrames words (b ∷ p ∷ bs) = AllWritesWithin words b.rows × AreRows b.rows × AreFrames words (p ∷ bs)

-- a transaction is open, and its words lie within the memory
pub record IsOpen (d : Data) : Type 0 where
  pub is_open : in_block d ≡ true
  pub log : IsLog d.words d.log.rows
  pub writes : AllWritesWithin d.words d.frames.writes.rows
  pub rows : AreRows d.frames.writes.rows
  pub frames : AreFrames d.words d.frames.blocks
  pub begun : AreBegun (length d.log.rows) (length d.frames.actions.commits) (length d.frames.actions.undos) d.frames.blocks
  pub tries : d.tries ≤ d.limits.patience

-- the rows that a copy's destination was given
abbrev pub reserved_for : Copying → CopyPair → List Row → List Row
reserved_for k (Out to) rows = reserved_all rows (range_pieces k.to (chunks_in k))
reserved_for k (In from) rows = rows
reserved_for k (Within from to) rows = reserved_all rows (range_pieces k.to (chunks_in k))

-- bytes may be put in them
abbrev pub MayPutFor : Copying → CopyPair → Written → Type 0
MayPutFor k (Out to) writes = All (λ p. MayPut writes p.word) (range_pieces k.to (chunks_in k))
MayPutFor k (In from) writes = Unit {0}
MayPutFor k (Within from to) writes = All (λ p. MayPut writes p.word) (range_pieces k.to (chunks_in k))

-- a copy is served, over so many words and bytes of arena: its destination is ready, with these rows before it
pub record IsServed (words bytes : ℕ) (before : List Row) (writes : Written) (buffer : List ℕ) (k : Copying) : Type 0 where
  pub accepted : copy_refusal true words bytes k ≡ None
  pub reserved : writes.rows ≡ reserved_for k k.pair before
  pub may_put : MayPutFor k k.pair writes
  pub sized : length buffer ≡ k.size

-- of a copy's source, so many chunks are in the buffer
pub record HasCopied (words bytes : ℕ) (before : List Row) (writes : Written) (log : List LogRow) (buffer : List ℕ) (k : Copying) (chunks : ℕ) : Type 0 where
  pub served : IsServed words bytes before writes buffer k
  pub shared : is_out k.pair ≡ false
  pub has : (m : List ℕ) → IsMemory words m → Agrees m log
      → buffer ≡ chunks_written (replicate k.size 0) 0 (take chunks (chunks_in k)) (slice (bytes_of (overlay m writes.rows)) k.from k.size)

-- the access is the chunk of this number of a copy's source
pub record IsChunk (words bytes : ℕ) (before : List Row) (writes : Written) (log : List LogRow) (buffer : List ℕ) (k : Copying) (number at size : ℕ) : Type 0 where
  pub copied : HasCopied words bytes before writes log buffer k number
  pub chunk : Chunk
  pub is : slice_get (chunks_in k) number ≡ Some chunk
  pub at_is : at ≡ k.from + chunk.at
  pub size_is : size ≡ chunk.size

-- the access is what it is made for
abbrev pub FitsPurpose : ℕ → ℕ → ℕ → Written → List LogRow → List ℕ → Purpose → ℕ → ℕ → Type 0
FitsPurpose words bytes written writes log buffer (for.Value hint width) at size = (size ≡ size_of width) × (written ≡ length writes.rows)
FitsPurpose words bytes written writes log buffer (for.Chunk k number) at size = IsChunk words bytes (take written writes.rows) writes log buffer k number at size

abbrev pub IsFor : Data → Purpose → ℕ → ℕ → Type 0
IsFor d purpose at size = FitsPurpose d.words (length d.arena) d.written d.frames.writes d.log.rows d.buffer.items purpose at size

abbrev pub Copied : Data → Copying → ℕ → Type 0
Copied d k chunks = HasCopied d.words (length d.arena) (rows_before d) d.frames.writes d.log.rows d.buffer.items k chunks

-- the buffer has a copy's whole source
pub record HasSource (d : Data) (k : Copying) : Type 0 where
  pub served : IsServed d.words (length d.arena) (rows_before d) d.frames.writes d.buffer.items k
  pub has : (m : List ℕ) → IsMemory d.words m → Agrees m d.log.rows → d.buffer.items ≡ source_in k.pair d.arena (bytes_of (overlay m d.frames.writes.rows)) k.from k.size

-- the pieces before this one are gathered
pub record IsReading (d : Data) (r : Reading) : Type 0 where
  pub within : r.at + r.size ≤ 8 * d.words
  pub small : r.size ≤ 32
  pub purpose : IsFor d r.purpose r.at r.size
  pub far : r.number ≤ count r
  pub has : (m : List ℕ) → IsMemory d.words m → Agrees m d.log.rows → d.gathered.items ≡ gathered (overlay m d.frames.writes.rows) (take r.number (parts r))
  pub sized : length d.gathered.items ≡ length (gathered [] (take r.number (parts r)))

-- the rows that the call may log from this piece on have room, and so far it has logged no more than it has read
pub record MayLog (d : Data) (r : Reading) : Type 0 where
  pub room : total r - passed r ≤ d.log.room
  pub grown : length d.log.rows ≤ d.entry + passed r

-- this piece is not to be had with no step
pub record IsMissing (d : Data) (r : Reading) : Type 0 where
  pub some : r.number < count r
  pub unhad : is_had d.frames.writes.rows d.log.rows (part r) ≡ false

-- it may be loaded
pub record MayRead (d : Data) (r : Reading) : Type 0 where
  pub reading : IsReading d r
  pub logging : MayLog d r
  pub missing : IsMissing d r

-- a commit takes the clock where something is written, and any other call that makes the transaction irrevocable, with its room reserved
abbrev pub Wants : Data → Taking → Type 0
Wants d takings.Commit = (is_outermost d.frames.blocks ≡ true) × (d.frames.writes.rows ≢ [])
Wants d (takings.Mode room) = (stays_revocable d.frames.blocks ≡ false) × (d.frames.room ≡ room)
Wants d (takings.Begin props room) = (props.goes_irrevocable ≡ true) × (may_go d.frames.blocks props ≡ true) × (length d.frames.blocks < d.frames.depth) × (d.frames.room ≡ room)

pub record MayTake (d : Data) (taking : Taking) : Type 0 where
  pub wants : Wants d taking
  pub grown : length d.log.rows ≤ d.entry

abbrev pub Aims : Data → Aim → Type 0
Aims d (aims.Read r) = MayRead d r
Aims d (aims.Take taking) = MayTake d taking

pub record InRound (d : Data) (aim : Aim) (steps : ℕ) : Type 0 where
  pub is_open : IsOpen d
  pub may : Aims d aim
  pub tried : 0 < d.tries
  pub later : d.snapshot < d.clock
  pub spent : d.spent ≤ first_of aim + (d.tries - 1) * round_of aim d + steps

-- the clock is held: so many steps may have been asked for
pub record IsHolding (d : Data) (taking : Taking) (steps : ℕ) : Type 0 where
  pub is_open : IsOpen d
  pub wants : Wants d taking
  pub settled : d.clock ≡ d.snapshot
  pub free : d.snapshot / 2 < d.limits.max_commits
  pub spent : d.spent ≤ 1 + d.tries * (d.entry + 3) + steps

-- a begin that goes irrevocable is not refused, and its room is reserved
abbrev pub MayBegin : Data → Opening → Type 0
MayBegin d b = (may_go [] b.props ≡ true) × (b.props.goes_irrevocable ≡ true → d.frames.room ≡ b.room)

-- a row was found different, of the part that the innermost block has added, and that block may go back to its begin
pub record MayGoBack (d : Data) (row : ℕ) : Type 0 where
  pub may : may_restart (core d at.Idle) row ≡ true
  pub found : ℕ
  pub got : d.got ≡ Some found
  pub differs : (row_at d.log.rows row).value ≢ found

abbrev pub InPhase : Data → Phase → Type 0
InPhase d at.Idle = (in_block d ≡ true → IsOpen d × (d.clock ≡ d.snapshot)) × (in_block d ≡ false → IsOutside d)
InPhase d (at.Begin b) = IsOutside d × MayBegin d b × (d.spent ≤ 2 * (d.tries - 1) + 1) × (0 < d.tries)
InPhase d (at.Take b) = IsOutside d × MayBegin d b × (b.props.goes_irrevocable ≡ true) × (d.clock ≡ d.snapshot) × (d.snapshot / 2 < d.limits.max_commits) × (d.spent ≤ 2 * d.tries) × (0 < d.tries)
InPhase d (at.Load r) = IsOpen d × MayRead d r × (d.clock ≡ d.snapshot) × (d.spent ≤ 2 * passed r + 1 + d.tries * round_of (aims.Read r) d)
InPhase d (at.Confirm r value) = IsOpen d × MayRead d r × (d.clock ≡ d.snapshot) × (d.spent ≤ 2 * passed r + 2 + d.tries * round_of (aims.Read r) d)
InPhase d (at.RoundStart aim) = InRound d aim 1
InPhase d (at.RoundRow aim row) = InRound d aim (row + 2) × (d.clock % 2 ≡ 0) × (row < length d.log.rows)
InPhase d (at.RoundEnd aim) = InRound d aim (length d.log.rows + 2) × (d.clock % 2 ≡ 0)
InPhase d (at.RoundBack aim row) = InRound d aim (row + 3) × (d.clock % 2 ≡ 0) × (row < length d.log.rows) × MayGoBack d row
InPhase d (at.Exchange taking) = IsOpen d × MayTake d taking × (d.clock ≡ d.snapshot) × (d.snapshot / 2 < d.limits.max_commits) × (d.spent ≤ 1 + d.tries * (d.entry + 3))
InPhase d (at.BackLoad taking row) = IsHolding d taking (2 * row + 1) × (row < length d.frames.writes.rows) × ((write_at d.frames.writes.rows row).mask ≢ whole)
InPhase d (at.Store taking row None) = IsHolding d taking (2 * row + 1) × (row < length d.frames.writes.rows) × ((write_at d.frames.writes.rows row).mask ≡ whole)
InPhase d (at.Store taking row (Some word)) = IsHolding d taking (2 * row + 2) × (row < length d.frames.writes.rows)
InPhase d at.Free = IsHolding d takings.Commit (2 * length d.frames.writes.rows + 1)
-- the others are those of an irrevocable transaction
InPhase d (at.Fetch w) = ⊥
InPhase d (at.Place w got) = ⊥

pub record IsSound (d : Data) (phase : Phase) : Type 0 where
  pub bounds : IsBounded d.words d.limits d.restarted d.snapshot d.frames.size d.frames.depth d.arena
  pub reached : d.snapshot ≤ d.clock
  pub in_phase : InPhase d phase

-- the piece that is loaded next, or what comes past the access
abbrev pub next_load : Reading → Option ℕ → Phase → Phase
next_load r None past = past
next_load r (Some number) past = at.Load (record r { number = number })
