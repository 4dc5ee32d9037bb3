-- What is known of a copy that is not refused, and of one that writes shared memory.
use Rattle.std.proofs.Common.{◌≡◌, ℕ, ◌+◌, ◌*◌, ◌≤◌, Bool, true, false, List, All, None, refl}
use Rattle.norec_turns.proofs.Common.{CopyPair, Copying, In, MayPut, MayPutFor, Out, Row, Within, WritesShared, Written, arena_copied, chunks_in, copy_refusal, direction_of, is_out, put_range, range_pieces, reserved_all, reserved_for, source_refusal, target_refusal, writes_copied}
use Rattle.norec_core.proofs.Replies.CopyRefusals.{accepted_sides, shared_within}

-- ## What it reads

-- the source of one that does not read the arena lies within the memory
source_shared : (words bytes place size : ℕ) (pair : CopyPair) → is_out pair ≡ false → source_refusal words bytes pair place size ≡ None → place + size ≤ 8 * words
source_shared words bytes place size (Out to) out e = absurd (cc)
source_shared words bytes place size (In from) out e = shared_within words place size e
source_shared words bytes place size (Within from to) out e = shared_within words place size e

pub source_within : (words bytes : ℕ) (k : Copying) → is_out k.pair ≡ false → copy_refusal true words bytes k ≡ None → k.from + k.size ≤ 8 * words
source_within words bytes k out accepted = source_shared words bytes k.from k.size k.pair out (accepted_sides words bytes k accepted).1

-- ## A copy that writes shared memory

target_shared : (words bytes place size : ℕ) (pair : CopyPair) → WritesShared pair → target_refusal words bytes pair place size ≡ None → place + size ≤ 8 * words
target_shared words bytes place size (Out to) w e = shared_within words place size e
target_shared words bytes place size (In from) w e = absurd w
target_shared words bytes place size (Within from to) w e = shared_within words place size e

pub target_within : (words bytes : ℕ) (k : Copying) → WritesShared k.pair → copy_refusal true words bytes k ≡ None → k.to + k.size ≤ 8 * words
target_within words bytes k w accepted = target_shared words bytes k.to k.size k.pair w (accepted_sides words bytes k accepted).0

pub reserved_shared : (k : Copying) (pair : CopyPair) (rows : List Row) → WritesShared pair → reserved_for k pair rows ≡ reserved_all rows (range_pieces k.to (chunks_in k))
reserved_shared k (Out to) rows w = refl
reserved_shared k (In from) rows w = absurd w
reserved_shared k (Within from to) rows w = refl

pub may_put_shared : (k : Copying) (pair : CopyPair) (writes : Written) → WritesShared pair → MayPutFor k pair writes → All (λ p. MayPut writes p.word) (range_pieces k.to (chunks_in k))
may_put_shared k (Out to) writes w m = m
may_put_shared k (In from) writes w m = absurd w
may_put_shared k (Within from to) writes w m = m

pub writes_shared : (k : Copying) (pair : CopyPair) (rows : List Row) (bytes : List ℕ) → WritesShared pair → writes_copied rows k pair bytes ≡ put_range rows k.to (direction_of k) bytes
writes_shared k (Out to) rows bytes w = refl
writes_shared k (In from) rows bytes w = absurd w
writes_shared k (Within from to) rows bytes w = refl

pub arena_shared : (k : Copying) (pair : CopyPair) (arena bytes : List ℕ) → WritesShared pair → arena_copied arena k pair bytes ≡ arena
arena_shared k (Out to) arena bytes w = refl
arena_shared k (In from) arena bytes w = absurd w
arena_shared k (Within from to) arena bytes w = refl

-- ## Other facts

-- a transaction is open
pub accepted_open : (is_open : Bool) (words bytes : ℕ) (k : Copying) → copy_refusal is_open words bytes k ≡ None → is_open ≡ true
accepted_open true words bytes k e = refl
accepted_open false words bytes k e = absurd (cc)
