-- A turn, and what is true of the fields between two steps.
use Rattle.std.specs.Prelude.{◌≡◌, ℕ, ◌+◌, ◌-◌, ◌*◌, ◌%◌, ◌<◌, ◌≤◌, List, [], ◌∷◌, length, take, Option, None, Some}
use Rattle.itm_types.specs.declared.row.LogRow.{LogRow}
use Rattle.norec_core.specs.Aims.{Aim}
use Rattle.norec_core.specs.Aims as aims
use Rattle.norec_core.specs.Phases as at
use Rattle.norec_core.specs.declared.call_parts.Reading.{Reading}
use Rattle.norec_core.specs.declared.call_parts.Taking.{Taking}
use Rattle.norec_core.specs.declared.call_parts.Purpose.{Purpose}
use Rattle.norec_core.specs.declared.call_parts.Purpose.TheVariants as for
use Rattle.itm_types.specs.declared.call.Copying.{Copying}
use Rattle.norec_core.specs.Copies.{chunks_in, words_in, source_words}
use Rattle.norec_data.specs.declared.end.CallEnd.{CallEnd}
use Rattle.norec_data.specs.declared.end.CallEnd.TheVariants as ends
use Rattle.norec_data.specs.declared.turn.Turn.{Turn}
use Rattle.norec_data.specs.declared.turn.Turn.TheVariants.{Wait, End as Ends, EndIrrevocable}
use Rattle.norec_data.specs.declared.data.Data.{Data}
use Rattle.itm_types.specs.declared.call.Props.{Props}
use Rattle.nest_frames.specs.Nest.{Frame, Nest, begun}
use Rattle.norec_core.specs.Core.{Core}
use Rattle.norec_core.specs.Accesses.{count, passed}
use Rattle.norec_data.specs.View.{core, phase_of}
use Rattle.norec_data.specs.Turns.{counted, Asked}
use Rattle.norec_turns.specs.InPhases.{round_of, first_of, IsOpen, Copied, HasSource, IsReading, MayLog, MayTake, Aims, InRound, IsHolding, IsSound}
use Rattle.norec_data.specs.Bounds.{IsBounded, IsHeld}

abbrev pub IsSoundAfter : Turn → Data → Type 0
IsSoundAfter (Wait p) d = IsSound (counted d) (phase_of d p)
IsSoundAfter (Ends end) d = IsSound d at.Idle
IsSoundAfter (EndIrrevocable end) d = IsHeld d

pub record IsSoundTurn (turn : Turn) (d : Data) : Type 0 where
  pub sound : IsSoundAfter turn d
  pub asked : Asked turn

-- ## Becoming irrevocable

-- the open blocks, with the one that begins
abbrev pub blocks_with : Option Props → Nest → List Frame
blocks_with None n = n.blocks
blocks_with (Some props) n = begun props n.writes.rows n.actions 0 ∷ n.blocks

abbrev pub entry_end : Option Props → CallEnd
entry_end None = ends.Done
entry_end (Some props) = ends.Entered

-- ## Between two steps

-- in a call with rounds; the last step was on the clock
abbrev pub between : Data → Aim → Core
between d aim = record (core d (at.RoundStart aim)) { waits = None; stage = at.Idle; tries = 0 }

-- in a copy whose source is read
abbrev pub in_copy : Data → Copying → Core
in_copy d k = between d (aims.Read (record { purpose = for.Chunk k 0; at = 0; size = 0; number = 0 }))

-- with another log
abbrev pub logged : Core → List LogRow → Core
logged c log = record c { log = log }

-- with another snapshot
abbrev pub moved : Core → ℕ → Core
moved c was = record c { snapshot = was }

-- as the clock is taken, these rows being stored
abbrev pub in_stores : Data → Taking → ℕ → Core
in_stores d taking row = record (core d (at.BackLoad taking row)) { waits = None; stage = at.Idle; tries = 0 }

-- with what was found of a word, and so many steps more
abbrev pub storing : Data → Option ℕ → ℕ → Data
storing d got steps = record d { got = got; spent = d.spent + steps }

-- in a round, the rows before this one being loaded
abbrev pub in_rows : Data → Aim → ℕ → Core
in_rows d aim row = record (core d (at.RoundRow aim row)) { waits = None; stage = at.Idle; tries = 0 }

-- ## The log

-- a transaction that becomes irrevocable needs none
abbrev pub log_left : Turn → List LogRow → List LogRow
log_left (Wait phase) log = log
log_left (Ends end) log = log
log_left (EndIrrevocable end) log = []

-- the fields, with the log that a turn leaves of theirs
abbrev pub left_by : Turn → Data → Data
left_by turn d = record d { log = record d.log { rows = log_left turn d.log.rows } }

-- ## What has to hold

-- a round may be tried
pub record MayTry (d : Data) (aim : Aim) : Type 0 where
  pub bounds : IsBounded d.words d.limits d.restarted d.snapshot d.frames.size d.frames.depth d.arena
  pub is_open : IsOpen d
  pub may : Aims d aim
  pub later : d.snapshot < d.clock
  pub spent : d.spent ≤ first_of aim + d.tries * round_of aim d

-- the next piece of a read may be taken
pub record MayGather (d : Data) (r : Reading) : Type 0 where
  pub bounds : IsBounded d.words d.limits d.restarted d.snapshot d.frames.size d.frames.depth d.arena
  pub is_open : IsOpen d
  pub reading : IsReading d r
  pub logging : MayLog d r
  pub settled : d.clock ≡ d.snapshot
  pub spent : d.spent ≤ 2 * passed r + d.tries * round_of (aims.Read r) d

-- the access is made for the value of a read
abbrev pub IsValue : Purpose → Type 0
IsValue (for.Value hint width) = Unit {0}
IsValue (for.Chunk k number) = ⊥

-- it is made for the value of a read, which is this word
pub record IsWord (r : Reading) (word : ℕ) : Type 0 where
  pub value : IsValue r.purpose
  pub at_is : r.at ≡ 8 * word
  pub size_is : r.size ≡ 8

-- a read may be answered: its pieces are gathered
pub record MayAnswerRead (d : Data) (r : Reading) : Type 0 where
  pub bounds : IsBounded d.words d.limits d.restarted d.snapshot d.frames.size d.frames.depth d.arena
  pub is_open : IsOpen d
  pub value : IsValue r.purpose
  pub whole : IsReading d (record r { number = count r })
  pub settled : d.clock ≡ d.snapshot

-- the next chunk of a copy's source may be taken
pub record MayCopy (d : Data) (k : Copying) (chunks : ℕ) : Type 0 where
  pub bounds : IsBounded d.words d.limits d.restarted d.snapshot d.frames.size d.frames.depth d.arena
  pub is_open : IsOpen d
  pub copied : Copied d k chunks
  pub settled : d.clock ≡ d.snapshot
  pub far : chunks ≤ length (chunks_in k)
  pub room : source_words k - words_in k.from (take chunks (chunks_in k)) ≤ d.log.room
  pub grown : length d.log.rows ≤ d.entry + words_in k.from (take chunks (chunks_in k))
  pub spent : d.spent ≤ 2 * words_in k.from (take chunks (chunks_in k)) + d.tries * (d.entry + source_words k + 4)

-- a copy's destination may be written
pub record MayFinish (d : Data) (k : Copying) : Type 0 where
  pub bounds : IsBounded d.words d.limits d.restarted d.snapshot d.frames.size d.frames.depth d.arena
  pub is_open : IsOpen d
  pub source : HasSource d k
  pub settled : d.clock ≡ d.snapshot

-- a round goes on: its rows before this one are as logged
pub record InRows (d : Data) (aim : Aim) (row : ℕ) : Type 0 where
  pub bounds : IsBounded d.words d.limits d.restarted d.snapshot d.frames.size d.frames.depth d.arena
  pub round : InRound d aim (row + 1)
  pub steady : d.clock % 2 ≡ 0
  pub far : row ≤ length d.log.rows

-- the clock may be taken
pub record MayExchange (d : Data) (taking : Taking) : Type 0 where
  pub bounds : IsBounded d.words d.limits d.restarted d.snapshot d.frames.size d.frames.depth d.arena
  pub is_open : IsOpen d
  pub may : MayTake d taking
  pub settled : d.clock ≡ d.snapshot
  pub spent : d.spent ≤ d.tries * (d.entry + 3)

-- the clock is held, and this many rows are stored
pub record InStores (d : Data) (taking : Taking) (row : ℕ) : Type 0 where
  pub bounds : IsBounded d.words d.limits d.restarted d.snapshot d.frames.size d.frames.depth d.arena
  pub holding : IsHolding d taking (2 * row)
  pub far : row ≤ length d.frames.writes.rows
