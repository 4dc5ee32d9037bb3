-- A piece that is loaded, and the chunk of a copy's source that it may be one of.
use Rattle.std.proofs.Common.{◌≡◌, ℕ, ◌+◌, ◌*◌, ◌≤◌, ◌==◌, Bool, true, false, if◌then◌else◌, List, [], ◌++◌, length, take, replicate, Option, None, Some, slice_get, refl, sym, ap, subst, ◌∙◌, arith, append-nil, option_map}
use Rattle.norec_turns.proofs.Common.{Aims, CopyPair, Copying, Data, In, IsMissing, IsOpen, IsReading, IsSoundTurn, Load, LogRow, MayCopy, MayLog, MayRead, Out, Taking, Turns, Wait, Wants, Within, between, chunk_reading, chunks_in, core, direction_of, drop_all, is_out, length-replicate, passed, passed_for, passed_on, round_of, slice, source_in, total, with_slice}
use Rattle.norec_core.{specs.Aims.Aim, specs.declared.call_parts.Reading.Reading}
use Rattle.arrayvec.specs.ArrayVec.{ArrayVec}
use Rattle.word_pieces.{specs.declared.chunk.Chunk.Chunk, proofs.Covers.word-pieces_of, proofs.ChunkBytes.all-written, specs.Chunks.chunks_written}
use Rattle.norec_data.specs.Bounds.{IsBounded}
use Rattle.norec_turns.{specs.Between.logged, proofs.AcceptedCopies.source_within}
use Rattle.access_rules.{proofs.CopyChunks.chunk_within, proofs.CopyChunks.no_chunk}
use Rattle.norec_data.specs.declared.pending.Pending.TheVariants as waits
use Rattle.norec_core.specs.Aims as aims
use Rattle.norec_core.specs.declared.call_parts.Taking.TheVariants as takings

-- an engine with other bytes gathered is as open
pub open_gathering : (d : Data) (g : ArrayVec ℕ) → IsOpen d → IsOpen (record d { gathered = g })
open_gathering d g o = record { is_open = o.is_open; log = o.log; writes = o.writes; rows = o.rows; frames = o.frames; begun = o.begun; tries = o.tries }

-- what may be loaded still may, whatever is known of the clock
pub read_later : (d : Data) (r reading : Reading) (got : Option ℕ) (clock snapshot spent : ℕ) → MayRead d r → MayRead (record d { reading = reading; got = got; clock = clock; snapshot = snapshot; spent = spent }) r
read_later d r reading got clock snapshot spent may = record {
  reading = record {
    within = may.reading.within;
    small = may.reading.small;
    purpose = may.reading.purpose;
    far = may.reading.far;
    has = may.reading.has;
    sized = may.reading.sized;
  };
  logging = record { room = may.logging.room; grown = may.logging.grown };
  missing = record { some = may.missing.some; unhad = may.missing.unhad };
}

-- a piece further on that is not to be had may be loaded
pub may_read : (d : Data) (r next : Reading) (g : ArrayVec ℕ) → next ≡ record r { number = next.number } → r.number ≤ next.number → MayLog d r
    → IsReading (record d { gathered = g }) next → IsMissing (record d { gathered = g }) next → MayRead (record d { gathered = g }) next
may_read d r next g is on may reading missing =
    let later = passed_on r.purpose r.number next.number on in
    let here : passed next ≡ passed_for r.purpose next.number = ap passed is in
    let all : total next ≡ total r = ap total is in
    record {
      reading = reading;
      logging = record { room = omega (arith, may.room, later, here, all); grown = omega (arith, may.grown, later, here) };
      missing = missing;
    }

-- nothing is gathered but in an irrevocable transaction
none_gathered : (first : Bool) → ◌≡◌ {A = List ℕ} [] (if first then [] else [])
none_gathered true = refl
none_gathered false = refl

-- ## The piece that is loaded next

module _ (d : Data) (r next : Reading) (is : next ≡ record r { number = next.number }) (on : r.number ≤ next.number)
    (bounds : IsBounded d.words d.limits d.restarted d.snapshot d.frames.size d.frames.depth d.arena) (o : IsOpen d) (may : MayRead d next) (settled : d.clock ≡ d.snapshot)
    (spent : d.spent ≤ 2 * passed r + d.tries * round_of (aims.Read r) d) where
  spent_so_far : d.spent ≤ 2 * passed next + d.tries * round_of (aims.Read next) d
  spent_so_far =
      let later = passed_on r.purpose r.number next.number on in
      let here : passed next ≡ passed_for r.purpose next.number = ap passed is in
      let rounds : d.tries * round_of (aims.Read next) d ≡ d.tries * round_of (aims.Read r) d = ap (λ (x : Reading). d.tries * (d.entry + total x + 4)) is in
      omega (arith, later, here, rounds, spent)

  pub load_sound : IsSoundTurn (Wait waits.Load) (record d { reading = next })
  load_sound = record {
    asked = tt;
    sound = record {
      bounds = bounds;
      reached = omega (arith, settled);
      in_phase = (
        record { is_open = o.is_open; log = o.log; writes = o.writes; rows = o.rows; frames = o.frames; begun = o.begun; tries = o.tries },
        read_later d next next d.got d.clock d.snapshot (d.spent + 1) may,
        settled,
        omega (arith, spent_so_far),
      );
    };
  }

  at_next : (log : List LogRow) → Turns (logged (between d (aims.Read next)) log) (Wait waits.Load) (record d { reading = next })
  at_next log = record {
    lawful = (
      (let within = word-pieces_of next.at next.size next.number d.words may.missing.some may.reading.within in omega arith),
      (o.is_open, λ h r. absurd (cc)),
    );
    unfreed = refl;
    stays = ap (λ (g : List ℕ). record (logged (core (record d { spent = d.spent + 1 }) (Load next)) d.log.rows) { gathered = g }) (none_gathered (next.number == 0));
  }

  pub load_proceeds : (log : List LogRow) → Turns (logged (between d (aims.Read r)) log) (Wait waits.Load) (record d { reading = next })
  load_proceeds log =
      let same : between d (aims.Read next) ≡ between d (aims.Read r) = ap (λ (x : Reading). between d (aims.Read x)) is in
      subst (λ c. Turns (logged c log) (Wait waits.Load) (record d { reading = next })) same (at_next log)

-- ## A chunk of a copy's source

some_mapped : {X Y : Type 0} (f : X → Y) (o : Option X) (y : Y) → Some y ≡ option_map f o → (x : X) × (o ≡ Some x) × (y ≡ f x)
some_mapped f None y e = absurd (cc)
some_mapped f (Some x) y e = (x, refl, cc)

pub reading_of : (k : Copying) (n : ℕ) (r : Reading) → Some r ≡ option_map (chunk_reading k n) (slice_get (chunks_in k) n) → (c : Chunk) × (slice_get (chunks_in k) n ≡ Some c) × (r ≡ chunk_reading k n c)
reading_of k n r e = some_mapped (chunk_reading k n) (slice_get (chunks_in k) n) r e

none_mapped : {X Y : Type 0} (f : X → Y) (o : Option X) → None ≡ option_map f o → o ≡ None
none_mapped f None e = refl
none_mapped f (Some x) e = absurd (cc)

pub no_reading : (k : Copying) (n : ℕ) → None ≡ option_map (chunk_reading k n) (slice_get (chunks_in k) n) → slice_get (chunks_in k) n ≡ None
no_reading k n e = none_mapped (chunk_reading k n) (slice_get (chunks_in k) n) e

-- nothing is gathered of it yet
pub starts_chunk : (d : Data) (k : Copying) (n : ℕ) (c : Chunk) (g : ArrayVec ℕ) → slice_get (chunks_in k) n ≡ Some c → g.items ≡ [] → MayCopy d k n → IsReading (record d { gathered = g }) (chunk_reading k n c)
starts_chunk d k n c g is empty may =
    let within = chunk_within (direction_of k) k.size n c is in
    let source = source_within d.words (length d.arena) k may.copied.shared may.copied.served.accepted in
    record {
      within = omega (arith, within.0, source);
      small = within.1;
      purpose = record { copied = may.copied; chunk = c; is = is; at_is = refl; size_is = refl };
      far = omega arith;
      has = λ m mem agrees. empty;
      sized = ap (length {A = ℕ}) empty;
    }

-- and none of it is logged
pub logs_chunk : (d : Data) (k : Copying) (n : ℕ) (c : Chunk) (g : ArrayVec ℕ) → MayCopy d k n → MayLog (record d { gathered = g }) (chunk_reading k n c)
logs_chunk d k n c g may = record { room = omega (arith, may.room); grown = omega (arith, may.grown) }

-- ## The whole source

source_is : (pair : CopyPair) (arena memory : List ℕ) (place size : ℕ) → is_out pair ≡ false → source_in pair arena memory place size ≡ slice memory place size
source_is (Out to) arena memory place size e = absurd (cc)
source_is (In from) arena memory place size e = refl
source_is (Within from to) arena memory place size e = refl

replaced_whole : (xs ys : List ℕ) → length xs ≡ length ys → with_slice xs 0 ys ≡ ys
replaced_whole xs ys e = ap (λ (rest : List ℕ). ys ++ rest) (drop_all (0 + length ys) xs (omega (arith, e))) ∙ append-nil ys

-- the buffer has all bytes of the source once no chunk is left
pub whole_source : (k : Copying) (n : ℕ) (arena memory buffer : List ℕ) → is_out k.pair ≡ false → slice_get (chunks_in k) n ≡ None → length (slice memory k.from k.size) ≡ k.size
    → buffer ≡ chunks_written (replicate k.size 0) 0 (take n (chunks_in k)) (slice memory k.from k.size) → buffer ≡ source_in k.pair arena memory k.from k.size
whole_source k n arena memory buffer out none many has =
    let zeros : List ℕ = replicate k.size 0 in
    let size : length zeros ≡ k.size = length-replicate k.size 0 in
    has ∙ (all-written (direction_of k) k.size n (no_chunk (direction_of k) k.size n none) zeros (slice memory k.from k.size) 0 many (omega (arith, size))
    ∙ (replaced_whole zeros (slice memory k.from k.size) (size ∙ sym many)
    ∙ sym (source_is k.pair arena memory k.from k.size out)))

-- ## After the clock was loaded

pub wants_later : (d : Data) (taking : Taking) (clock snapshot spent : ℕ) → Wants d taking → Wants (record d { clock = clock; snapshot = snapshot; spent = spent }) taking
wants_later d takings.Commit clock snapshot spent w = w
wants_later d (takings.Mode room) clock snapshot spent w = w
wants_later d (takings.Begin props room) clock snapshot spent w = w

-- what a round is made for stays
pub aims_later : (d : Data) (aim : Aim) (got : Option ℕ) (clock snapshot spent : ℕ) → Aims d aim → Aims (record d { got = got; clock = clock; snapshot = snapshot; spent = spent }) aim
aims_later d (aims.Read r) got clock snapshot spent may = read_later d r d.reading got clock snapshot spent may
aims_later d (aims.Take taking) got clock snapshot spent may = record { wants = wants_later d taking clock snapshot spent may.wants; grown = may.grown }
