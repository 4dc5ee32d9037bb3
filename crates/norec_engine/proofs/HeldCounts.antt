-- The steps of a call of an irrevocable transaction are within its most.
use Rattle.std.proofs.Common.{◌≡◌, ◌≢◌, ℕ, zero, suc, ◌+◌, ◌*◌, ◌^◌, ◌<◌, ◌≤◌, Bool, true, false, List, [], ◌∷◌, take, None, Some, slice_get, refl, ap, ◌∙◌, arith}
use Rattle.norec_engine.proofs.Common.{Core, Data, IsOn, IsSoundHeld, IsWithin, LoadsFor, Phase, PlacesFor, before_loads, before_places, call_for, copy_steps, count, doing_held, held, most, placed_before, placed_for, size_of}
use Rattle.itm_types.specs.declared.limits.TheConstants.{MAX_WORDS}
use Rattle.itm_types.specs.declared.call.Copying.{Copying}
use Rattle.itm_types.specs.declared.copy.CopyPair.{CopyPair}
use Rattle.itm_types.specs.declared.copy.CopyPair.TheVariants.{Out, In, Within}
use Rattle.word_pieces.{specs.declared.chunk.Chunk.Chunk, specs.declared.chunk.Direction.TheVariants.Up, specs.Chunks.chunks_of, specs.Pieces.count_of}
use Rattle.norec_core.specs.Phases as at
use Rattle.norec_core.specs.declared.call_parts.Purpose.{Purpose}
use Rattle.norec_core.specs.declared.call_parts.Purpose.TheVariants as for
use Rattle.norec_core.specs.declared.call_parts.Target.{Target}
use Rattle.norec_core.specs.declared.call_parts.Target.TheVariants as into
use Rattle.norec_core.specs.Copies.{chunks_in, direction_of, is_out, words_in, words_read, words_written, WritesShared}
use Rattle.access_rules.proofs.CopyChunks.{chunk_there, few_words}
use Rattle.access_rules.proofs.Ranges.{IsPart, parts-chunks_of}
use Rattle.access_rules.proofs.Readings.{words_in-at}
use Rattle.norec_irrevocable.proofs.Pieces.ChunkPhases.{few_chunks}
use Rattle.std.specs.List.{AllByRecursion}

-- the words of the first chunks are some of all
words_in-take : (place : ℕ) (cs : List Chunk) (n : ℕ) → words_in place (take n cs) ≤ words_in place cs
words_in-take place [] zero = omega arith
words_in-take place [] (suc n) = omega arith
words_in-take place (c ∷ cs) zero = omega arith
words_in-take place (c ∷ cs) (suc n) = omega (arith, words_in-take place cs n)

-- ## Copies

abbrev copy_most : Copying → CopyPair → ℕ
copy_most k pair = words_read k pair + 2 * words_written k pair

module _ (k : Copying) (n : ℕ) (c : Chunk) (is : slice_get (chunks_in k) n ≡ Some c) where
  loads_most : (pair : CopyPair) → is_out pair ≡ false → copy_steps k pair (take n (chunks_in k)) + count_of (k.from + c.at) c.size ≤ copy_most k pair
  loads_most (Out to) o = absurd (cc)
  loads_most (In from) o = omega (arith, words_in-at k.from (chunks_in k) n c is)
  loads_most (Within from to) o = omega (arith, words_in-at k.from (chunks_in k) n c is, words_in-take k.to (chunks_in k) n)

  places_most : (pair : CopyPair) → WritesShared pair → placed_before k pair n + 2 * count_of (k.to + c.at) c.size ≤ copy_most k pair
  places_most (Out to) w = omega (arith, words_in-at k.to (chunks_in k) n c is)
  places_most (In from) w = absurd w
  places_most (Within from to) w = omega (arith, words_in-at k.to (chunks_in k) n c is, words_in-take k.from (chunks_in k) (suc n))

-- ## Every access

loads_within : (d : Data) (c : Core) (what : Purpose) (at size : ℕ) → c.irrevocable ≡ true → LoadsFor d what at size → before_loads what + count_of at size ≤ most c (Some (call_for what at))
loads_within d c (for.Value hint width) at size i l = omega (arith, ap (count_of at) l)
loads_within d c (for.Chunk k n) at size i l =
    let chunk = l.0 in
    let same : count_of at size ≡ count_of (k.from + (chunk.chunk).at) (chunk.chunk).size = (λ j. count_of (chunk.start_is j) (chunk.size_is j)) in
    let many : most c (Some (call_for (for.Chunk k n) at)) ≡ copy_most k k.pair = ap (λ (b : Bool). most (record c { irrevocable = b }) (Some (call_for (for.Chunk k n) at))) i in
    omega (arith, loads_most k n chunk.chunk chunk.is k.pair l.1, same, many)

places_within : (d : Data) (c : Core) (what : Target) (at size : ℕ) → c.irrevocable ≡ true → PlacesFor d what at size → before_places what + 2 * count_of at size ≤ most c (Some (placed_for d what at))
places_within d c (into.Value hint width) at size i p = omega (arith, ap (count_of at) (p.1 ∙ ap size_of p.0))
places_within d c (into.Fill hint to byte size n) at count i p =
    let same : count_of at count ≡ count_of (to + (p.2).at) (p.2).size = (λ j. count_of (p.4 j) (p.5 j)) in
    omega (arith, words_in-at to (chunks_of Up size) n p.2 p.3, same)
places_within d c (into.Chunk k n) at size i p =
    let chunk = p.0 in
    let same : count_of at size ≡ count_of (k.to + (chunk.chunk).at) (chunk.chunk).size = (λ j. count_of (chunk.start_is j) (chunk.size_is j)) in
    let many : most c (Some (placed_for d (into.Chunk k n) at)) ≡ copy_most k k.pair = ap (λ (b : Bool). most (record c { irrevocable = b }) (Some (placed_for d (into.Chunk k n) at))) i in
    omega (arith, places_most k n chunk.chunk chunk.is k.pair p.1, same, many)

-- what a waiting engine has asked for
pub held_within : (d : Data) (phase : Phase) → IsSoundHeld d phase → IsOn phase → d.spent ≤ most (held d phase) (doing_held d phase)
held_within d at.Idle s w = absurd w
held_within d (at.Load r) s w = omega (arith, loads_within d (held d (at.Load r)) r.purpose r.at r.size refl s.in_phase.purpose, s.in_phase.spent, s.in_phase.some)
held_within d (at.Fetch x) s w = omega (arith, places_within d (held d (at.Fetch x)) x.target x.at x.size refl s.in_phase.0.target, s.in_phase.0.spent, s.in_phase.0.some)
held_within d (at.Place x None) s w = omega (arith, places_within d (held d (at.Place x None)) x.target x.at x.size refl s.in_phase.0.target, s.in_phase.0.spent, s.in_phase.0.some)
held_within d (at.Place x (Some word)) s w = omega (arith, places_within d (held d (at.Place x (Some word))) x.target x.at x.size refl s.in_phase.target, s.in_phase.spent, s.in_phase.some)
held_within d at.Free s w = omega (arith, s.in_phase.1)
held_within d phase s w = absurd s.in_phase

waiting : (d : Data) (phase : Phase) → (held d phase).waits ≢ None → IsOn phase
waiting d at.Idle n = n refl
waiting d phase n = tt

pub held_counts : (d : Data) (phase : Phase) → IsSoundHeld d phase → IsWithin (held d phase)
held_counts d phase s = λ n. held_within d phase s (waiting d phase n)

-- ## Few steps

few_take : (place size : ℕ) (cs : List Chunk) (n : ℕ) → AllByRecursion (IsPart size) cs → words_in place (take n cs) ≤ 5 * n
few_take place size [] zero are = omega arith
few_take place size [] (suc n) are = omega arith
few_take place size (c ∷ cs) zero are = omega arith
few_take place size (c ∷ cs) (suc n) are = omega (arith, few_words (place + c.at) c.size are.0.small, few_take place size cs n are.1)

few_steps : (k : Copying) (pair : CopyPair) (n : ℕ) → copy_steps k pair (take n (chunks_in k)) ≤ 15 * n
few_steps k (Out to) n = omega (arith, few_take k.to k.size (chunks_in k) n (parts-chunks_of (direction_of k) k.size))
few_steps k (In from) n = omega (arith, few_take k.from k.size (chunks_in k) n (parts-chunks_of (direction_of k) k.size))
few_steps k (Within from to) n = omega (arith, few_take k.from k.size (chunks_in k) n (parts-chunks_of (direction_of k) k.size), few_take k.to k.size (chunks_in k) n (parts-chunks_of (direction_of k) k.size))

few_placed : (k : Copying) (pair : CopyPair) (n : ℕ) → placed_before k pair n ≤ 15 * n + 5
few_placed k (Out to) n = omega (arith, few_take k.to k.size (chunks_in k) n (parts-chunks_of (direction_of k) k.size))
few_placed k (In from) n = omega (arith, few_take k.from k.size (chunks_in k) n (parts-chunks_of (direction_of k) k.size))
few_placed k (Within from to) n = omega (arith, few_take k.from k.size (chunks_in k) (suc n) (parts-chunks_of (direction_of k) k.size), few_take k.to k.size (chunks_in k) n (parts-chunks_of (direction_of k) k.size))

few_loads : (d : Data) (what : Purpose) (at size : ℕ) → d.words ≤ MAX_WORDS → LoadsFor d what at size → before_loads what ≤ 16106127360
few_loads d (for.Value hint width) at size w l = omega arith
few_loads d (for.Chunk k n) at size w l = omega (arith, few_steps k k.pair n, few_chunks d k n (l.0).chunk (l.0).served w (l.0).is)

few_places : (d : Data) (what : Target) (at size : ℕ) → d.words ≤ MAX_WORDS → PlacesFor d what at size → before_places what ≤ 16106127365
few_places d (into.Value hint width) at size w p = omega arith
few_places d (into.Fill hint to byte size n) at count w p = (let there = (chunk_there Up size n p.2 p.3).0 in omega (arith, few_take to size (chunks_of Up size) n (parts-chunks_of Up size), there, p.0, w))
few_places d (into.Chunk k n) at size w p = omega (arith, few_placed k k.pair n, few_chunks d k n (p.0).chunk (p.0).served w (p.0).is)

-- so the count fits
pub held_fits : (d : Data) (phase : Phase) → IsSoundHeld d phase → IsOn phase → d.spent < 2 ^ 128
held_fits d at.Idle s w = absurd w
held_fits d (at.Load r) s w = omega (arith, few_loads d r.purpose r.at r.size s.held.bounds.small s.in_phase.purpose, few_words r.at r.size s.in_phase.small, s.in_phase.spent, s.in_phase.some)
held_fits d (at.Fetch x) s w = omega (arith, few_places d x.target x.at x.size s.held.bounds.small s.in_phase.0.target, few_words x.at x.size s.in_phase.0.small, s.in_phase.0.spent, s.in_phase.0.some)
held_fits d (at.Place x None) s w = omega (arith, few_places d x.target x.at x.size s.held.bounds.small s.in_phase.0.target, few_words x.at x.size s.in_phase.0.small, s.in_phase.0.spent, s.in_phase.0.some)
held_fits d (at.Place x (Some word)) s w = omega (arith, few_places d x.target x.at x.size s.held.bounds.small s.in_phase.target, few_words x.at x.size s.in_phase.small, s.in_phase.spent, s.in_phase.some)
held_fits d at.Free s w = omega (arith, s.in_phase.1)
held_fits d phase s w = absurd s.in_phase
