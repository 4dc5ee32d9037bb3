-- What is true of the fields in each phase of an irrevocable transaction.
use Rattle.std.specs.Prelude.{◌≡◌, ◌≢◌, ◌⊎◌, ℕ, suc, ◌+◌, ◌*◌, ◌<◌, ◌≤◌, ◌%◌, Bool, true, false, List, [], length, replicate, take, slice_get, None, Some}
use Rattle.itm_types.specs.declared.call.Copying.{Copying}
use Rattle.itm_types.specs.declared.copy.CopyPair.{CopyPair}
use Rattle.itm_types.specs.declared.copy.CopyPair.TheVariants.{Out, In, Within}
use Rattle.itm_types.specs.Access.{size_of}
use Rattle.word_pieces.specs.declared.chunk.Chunk.{Chunk}
use Rattle.word_pieces.specs.declared.chunk.Direction.TheVariants.{Up}
use Rattle.word_pieces.specs.Chunks.{chunks_of}
use Rattle.word_pieces.specs.Masks.{mask_of, whole}
use Rattle.word_pieces.specs.Pieces.{count_of, gathered}
use Rattle.norec_core.specs.Phases.{Phase}
use Rattle.norec_core.specs.Phases as at
use Rattle.norec_core.specs.declared.call_parts.Reading.{Reading}
use Rattle.norec_core.specs.declared.call_parts.Purpose.{Purpose}
use Rattle.norec_core.specs.declared.call_parts.Purpose.TheVariants as for
use Rattle.norec_core.specs.declared.call_parts.Writing.{Writing}
use Rattle.norec_core.specs.declared.call_parts.Target.{Target}
use Rattle.norec_core.specs.declared.call_parts.Target.TheVariants as into
use Rattle.norec_core.specs.Accesses.{count, parts}
use Rattle.norec_core.specs.Copies.{copy_refusal, chunks_in, is_out, words_in, WritesShared}
use Rattle.norec_core.specs.Order.{place_from, placed_piece}
use Rattle.norec_core.specs.OwnAccesses.{chunk_source}
use Rattle.norec_data.specs.declared.data.Data.{Data}
use Rattle.norec_data.specs.Bounds.{IsHeld}

-- ## Copies and fills

-- the copy is served
abbrev pub IsServed : Data → Copying → Type 0
IsServed d k = copy_refusal true d.words (length d.arena) k ≡ None

-- the access is the chunk of this number of a copy, on the side that begins at this place
pub record IsChunkOf (d : Data) (k : Copying) (number place start size : ℕ) : Type 0 where
  pub served : IsServed d k
  pub chunk : Chunk
  pub is : slice_get (chunks_in k) number ≡ Some chunk
  pub start_is : start ≡ place + chunk.at
  pub size_is : size ≡ chunk.size

-- the copy writes the arena
abbrev pub is_in : CopyPair → Bool
is_in (Out to) = false
is_in (In from) = true
is_in (Within from to) = false

-- the steps of a copy for these chunks
abbrev pub copy_steps : Copying → CopyPair → List Chunk → ℕ
copy_steps k (Out to) cs = 2 * words_in k.to cs
copy_steps k (In from) cs = words_in k.from cs
copy_steps k (Within from to) cs = words_in k.from cs + 2 * words_in k.to cs

-- and of the chunks before the one of this number
abbrev pub steps_before : Copying → ℕ → ℕ
steps_before k number = copy_steps k k.pair (take number (chunks_in k))

-- before what it writes of that chunk, with what it reads of it
abbrev pub placed_before : Copying → CopyPair → ℕ → ℕ
placed_before k (Out to) number = 2 * words_in k.to (take number (chunks_in k))
placed_before k (In from) number = words_in k.from (take number (chunks_in k))
placed_before k (Within from to) number = words_in k.from (take (suc number) (chunks_in k)) + 2 * words_in k.to (take number (chunks_in k))

-- ## Accesses that read

abbrev pub LoadsFor : Data → Purpose → ℕ → ℕ → Type 0
LoadsFor d (for.Value hint width) at size = size ≡ size_of width
LoadsFor d (for.Chunk k number) at size = IsChunkOf d k number k.from at size × (is_out k.pair ≡ false)

abbrev pub before_loads : Purpose → ℕ
before_loads (for.Value hint width) = 0
before_loads (for.Chunk k number) = steps_before k number

-- the pieces before this one are gathered
pub record IsLoading (d : Data) (r : Reading) : Type 0 where
  pub within : r.at + r.size ≤ 8 * d.words
  pub small : r.size ≤ 32
  pub some : r.number < count r
  pub purpose : LoadsFor d r.purpose r.at r.size
  pub sized : length d.gathered.items ≡ length (gathered [] (take r.number (parts r)))
  pub spent : d.spent ≤ before_loads r.purpose + r.number + 1

-- ## Accesses that write

abbrev pub PlacesFor : Data → Target → ℕ → ℕ → Type 0
PlacesFor d (into.Value hint width) at size = (width ≡ d.value.width) × (size ≡ size_of width)
PlacesFor d (into.Fill hint to byte size number) at count =
    (to + size ≤ 8 * d.words) × (d.gathered.items ≡ replicate count (byte % 256)) × (c : Chunk) × (slice_get (chunks_of Up size) number ≡ Some c) × (at ≡ to + c.at) × (count ≡ c.size)
PlacesFor d (into.Chunk k number) at size =
    IsChunkOf d k number k.to at size × WritesShared k.pair × (d.gathered.items ≡ chunk_source k k.pair at size d.arena d.gathered.items)

abbrev pub before_places : Target → ℕ
before_places (into.Value hint width) = 0
before_places (into.Fill hint to byte size number) = 2 * words_in to (take number (chunks_of Up size))
before_places (into.Chunk k number) = placed_before k k.pair number

-- so many steps for this piece may have been asked for
pub record IsPlacing (d : Data) (w : Writing) (steps : ℕ) : Type 0 where
  pub within : w.at + w.size ≤ 8 * d.words
  pub small : w.size ≤ 32
  pub some : w.number < count_of w.at w.size
  pub sized : length d.gathered.items ≡ w.size
  pub target : PlacesFor d w.target w.at w.size
  pub spent : d.spent ≤ before_places w.target + 2 * w.number + steps

abbrev pub piece_mask : Writing → ℕ
piece_mask w = (let p = placed_piece w in mask_of p.first p.count)

-- the phase is that of the access's piece
abbrev pub IsNext : Writing → Phase → Type 0
IsNext w phase =
    ((past : Phase) → phase ≡ place_from past w) × (w.number < count_of w.at w.size)
    × (((piece_mask w ≡ whole) × (phase ≡ at.Place w None)) ⊎ ((piece_mask w ≢ whole) × (phase ≡ at.Fetch w)))

-- ## Phases

abbrev pub InPhase : Data → Phase → Type 0
InPhase d at.Idle = Unit {0}
InPhase d (at.Load r) = IsLoading d r
InPhase d (at.Fetch w) = IsPlacing d w 1 × (piece_mask w ≢ whole)
InPhase d (at.Place w None) = IsPlacing d w 1 × (piece_mask w ≡ whole)
InPhase d (at.Place w (Some word)) = IsPlacing d w 2
InPhase d at.Free = (length d.frames.blocks ≡ 1) × (d.spent ≤ 1)
InPhase d _ = ⊥

pub record IsSoundHeld (d : Data) (phase : Phase) : Type 0 where
  pub held : IsHeld d
  pub in_phase : InPhase d phase

-- ## Between two steps

-- the access is read whole
pub record HasLoaded (d : Data) (r : Reading) : Type 0 where
  pub within : r.at + r.size ≤ 8 * d.words
  pub small : r.size ≤ 32
  pub purpose : LoadsFor d r.purpose r.at r.size
  pub sized : length d.gathered.items ≡ r.size
  pub spent : d.spent ≤ before_loads r.purpose + count r

-- the bytes of an access that writes are gathered
pub record MayPlace (d : Data) (w : Writing) : Type 0 where
  pub within : w.at + w.size ≤ 8 * d.words
  pub small : w.size ≤ 32
  pub some : 0 < w.size
  pub first : w.number ≡ 0
  pub sized : length d.gathered.items ≡ w.size
  pub target : PlacesFor d w.target w.at w.size
  pub spent : d.spent ≤ before_places w.target

-- they are written
pub record HasPlaced (d : Data) (w : Writing) : Type 0 where
  pub within : w.at + w.size ≤ 8 * d.words
  pub target : PlacesFor d w.target w.at w.size
  pub spent : d.spent ≤ before_places w.target + 2 * count_of w.at w.size

-- so many chunks of a copy are done
pub record MayCopy (d : Data) (k : Copying) (number : ℕ) : Type 0 where
  pub served : IsServed d k
  pub spent : d.spent ≤ steps_before k number

-- the bytes of a chunk are gathered
pub record MayStore (d : Data) (k : Copying) (number at size : ℕ) : Type 0 where
  pub served : IsServed d k
  pub chunk : slice_get (chunks_in k) number ≡ Some (record { at = at; size = size })
  pub shared : WritesShared k.pair
  pub sized : length d.gathered.items ≡ size
  pub source : d.gathered.items ≡ chunk_source k k.pair (k.to + at) size d.arena d.gathered.items
  pub spent : d.spent ≤ placed_before k k.pair number

-- so many chunks of a fill are done
pub record MayFill (d : Data) (to size number : ℕ) : Type 0 where
  pub within : to + size ≤ 8 * d.words
  pub spent : d.spent ≤ 2 * words_in to (take number (chunks_of Up size))
