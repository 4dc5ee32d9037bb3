-- What copies and fills of an irrevocable transaction come to, chunk by chunk.
use Rattle.std.proofs.Common.{◌≡◌, ℕ, suc, ◌+◌, ◌-◌, ◌*◌, ◌%◌, ◌≤◌, true, false, List, length, drop, Some, slice_get, refl, sym, ap, ◌∙◌, arith, add-one}
use Rattle.norec_irrevocable.proofs.Common.{Chunk, Copy, CopyPair, Copying, Data, Done, Fill, IsMemory, IsServed, Out, State, Up, WriteHint, after, chunk_copying, chunk_part, chunk_source, chunks_in, chunks_of, copied, copied_each, direction_of, filled_each, gathered, gathered-pieces_of, in_block, is_out, kept, pieces_of, reply, serves, slice, some_drop, source_bytes, source_within, target_written, written_at}
use Rattle.norec_irrevocable.proofs.Replies.KeptStates.{many_bytes}
use Rattle.norec_irrevocable.proofs.Replies.HeldAccesses.{access_served}
use Rattle.norec_irrevocable.proofs.Replies.Completions.{copy_served}
use Rattle.norec_irrevocable.proofs.Pieces.PartCopies.{copied_by_chunks, filled_by_chunks}

-- the copies of the chunks from one on
copies_on : (s : State) (k : Copying) (n : ℕ) (c : Chunk) → slice_get (chunks_in k) n ≡ Some c → copied_each s k (drop n (chunks_in k)) ≡ copied_each (copied s (chunk_copying k c)) k (drop (suc n) (chunks_in k))
copies_on s k n c is = ap (copied_each s k) (some_drop (chunks_in k) n c is)

-- the bytes of a chunk are those that its pieces have
reads_source : (d : Data) (m : List ℕ) (pair : CopyPair) (place size : ℕ) → is_out pair ≡ false → place + size ≤ 8 * length m → gathered m (pieces_of place size) ≡ source_bytes (kept d m) pair place size
reads_source d m (Out to) place size o l = absurd (cc)
reads_source d m pair place size o l = gathered-pieces_of m place size l

module _ (d : Data) (k : Copying) (ok : IsServed d k) (n : ℕ) (c : Chunk) (is : slice_get (chunks_in k) n ≡ Some c) where
  pub chunk_in_memory : is_out k.pair ≡ false → k.from + c.at + c.size ≤ 8 * d.words
  chunk_in_memory o = omega (arith, source_within d.words (length d.arena) k o ok, (chunk_part (direction_of k) k.size n c is).within)

  -- as a chunk's load comes, its copy and those of the chunks after it are to come
  pub chunk_comes : is_out k.pair ≡ false → (m : List ℕ) → IsMemory d.words m
      → copied_each (target_written (kept d m) k.pair (k.to + (k.from + c.at - k.from)) (gathered m (pieces_of (k.from + c.at) c.size))) k (drop (suc n) (chunks_in k)) ≡ copied_each (kept d m) k (drop n (chunks_in k))
  chunk_comes o m mem =
      let place : k.to + (k.from + c.at - k.from) ≡ k.to + c.at = omega arith in
      let l = chunk_in_memory o in
      let many = mem.0 in
      (λ i. copied_each (target_written (kept d m) k.pair (place i) (reads_source d m k.pair (k.from + c.at) c.size o (omega (arith, l, many)) i)) k (drop (suc n) (chunks_in k)))
      ∙ sym (copies_on (kept d m) k n c is)

out_copied : (s : State) (pair : CopyPair) (to from size : ℕ) → is_out pair ≡ true → written_at s to (slice s.arena from size) ≡ target_written s pair to (source_bytes s pair from size)
out_copied s (Out t) to from size o = refl
out_copied s pair to from size o = absurd (cc)

-- what a chunk of a copy out of the arena writes, whatever is gathered
pub out_source : (k : Copying) (pair : CopyPair) (at size : ℕ) (arena bytes : List ℕ) → is_out pair ≡ true → chunk_source k pair (k.to + at) size arena bytes ≡ slice arena (k.from + at) size
out_source k (Out to) at size arena bytes o = (let same : k.to + at - k.to ≡ at = omega arith in ap (λ (n : ℕ). slice arena (k.from + n) size) same)
out_source k pair at size arena bytes o = absurd (cc)

-- as a chunk's store comes
pub sent_comes : (d : Data) (k : Copying) (n : ℕ) (c : Chunk) → slice_get (chunks_in k) n ≡ Some c → is_out k.pair ≡ true → (bytes : List ℕ) → bytes ≡ slice d.arena (k.from + c.at) c.size → (m : List ℕ)
    → copied_each (written_at (kept d m) (k.to + c.at) bytes) k (drop (n + 1) (chunks_in k)) ≡ copied_each (kept d m) k (drop n (chunks_in k))
sent_comes d k n c is o bytes from m =
    (λ i. copied_each (written_at (kept d m) (k.to + c.at) (from i)) k (drop (add-one n i) (chunks_in k)))
    ∙ (ap (λ (s : State). copied_each s k (drop (suc n) (chunks_in k))) (out_copied (kept d m) k.pair (k.to + c.at) (k.from + c.at) c.size o)
    ∙ sym (copies_on (kept d m) k n c is))

-- a copy, and a fill, of an irrevocable transaction
module _ (d : Data) (o : in_block d ≡ true) (m : List ℕ) (mem : IsMemory d.words m) where
  pub copy_comes : (k : Copying) → IsServed d k → (copied_each (kept d m) k (drop 0 (chunks_in k)) ≡ after d.frames.depth (kept d m) (Copy k)) × (Done ≡ reply d.frames.depth (kept d m) (Copy k))
  copy_comes k ok =
      let all = serves d.frames.depth (kept d m) (Copy k) (copy_served d o k ok m mem) in
      (copied_by_chunks (kept d m) k d.words refl (many_bytes d.words m mem) ok ∙ all.0, all.1)

  pub fill_comes : (hint : WriteHint) (to byte n : ℕ) → to + n ≤ 8 * d.words
      → (filled_each (kept d m) to (byte % 256) (drop 0 (chunks_of Up n)) ≡ after d.frames.depth (kept d m) (Fill hint to byte n)) × (Done ≡ reply d.frames.depth (kept d m) (Fill hint to byte n))
  fill_comes hint to byte n l =
      let all = serves d.frames.depth (kept d m) (Fill hint to byte n) (access_served d o m mem (Fill hint to byte n) to n refl l) in
      (filled_by_chunks (kept d m) to (byte % 256) n refl (omega (arith, many_bytes d.words m mem, l)) ∙ all.0, all.1)
