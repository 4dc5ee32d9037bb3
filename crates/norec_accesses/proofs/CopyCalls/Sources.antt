-- What a read finds under rows that a copy's destination was given, and what a longer log leaves of a copy.
use Rattle.std.proofs.Common.{◌≡◌, ℕ, zero, suc, ◌+◌, ◌*◌, ◌≤◌, ◌||◌, Bool, true, false, List, [], ◌∷◌, length, take, Option, None, Some, refl, sym, ap, ◌∙◌, arith, is_some}
use Rattle.norec_accesses.proofs.Common.{Agrees, AllFit, AllWritesWithin, AllWritesWithin-put_range, AreBytes, AreRows, AreRows-put_range, AreRows-take, CopyPair, Copying, Data, FitsPurpose, HasCopied, In, IsFor, IsPiece, LogRow, Out, Piece, Purpose, Row, Within, Written, accepted_sides, arena_copied, arena_within, chunks_in, copy_refusal, direction_of, is_covered, is_covered-reserved_all, is_had, is_logged, length-with_slice, overlay, overlay-reserved_all, range_pieces, reserved_for, rows_before, shared_within, take_all, target_refusal, value_of, writes_copied}
use Rattle.norec_core.specs.declared.call_parts.Purpose.TheVariants as for

-- ## Rows of a copy's destination

covered_for : (k : Copying) (pair : CopyPair) (rows : List Row) (p : Piece) → IsPiece p → is_covered (reserved_for k pair rows) p ≡ is_covered rows p
covered_for k (Out to) rows p is = is_covered-reserved_all rows (range_pieces k.to (chunks_in k)) p is
covered_for k (In from) rows p is = refl
covered_for k (Within from to) rows p is = is_covered-reserved_all rows (range_pieces k.to (chunks_in k)) p is

pub overlay_for : (k : Copying) (pair : CopyPair) (m : List ℕ) (rows : List Row) → AllFit m → AreRows rows → overlay m (reserved_for k pair rows) ≡ overlay m rows
overlay_for k (Out to) m rows fit are = overlay-reserved_all m rows (range_pieces k.to (chunks_in k)) fit are
overlay_for k (In from) m rows fit are = refl
overlay_for k (Within from to) m rows fit are = overlay-reserved_all m rows (range_pieces k.to (chunks_in k)) fit are

-- the rows that were there as the call came cover as much
covered_purpose : (words bytes written : ℕ) (writes : Written) (log : List LogRow) (buffer : List ℕ) (what : Purpose) (at size : ℕ)
    → FitsPurpose words bytes written writes log buffer what at size → (p : Piece) → IsPiece p → is_covered (take written writes.rows) p ≡ is_covered writes.rows p
covered_purpose words bytes written writes log buffer (for.Value hint width) at size f p is =
    ap (λ (rows : List Row). is_covered rows p) (take_all written writes.rows (omega (arith, f.1)))
covered_purpose words bytes written writes log buffer (for.Chunk k n) at size f p is =
    sym (ap (λ (rows : List Row). is_covered rows p) f.copied.served.reserved ∙ covered_for k k.pair (take written writes.rows) p is)

-- so as much is to be had
pub had_before : (d : Data) (what : Purpose) (at size : ℕ) → IsFor d what at size → (p : Piece) → IsPiece p → is_had (rows_before d) d.log.rows p ≡ is_had d.frames.writes.rows d.log.rows p
had_before d what at size f p is = ap (λ (b : Bool). b || is_logged d.log.rows p.word) (covered_purpose d.words (length d.arena) d.written d.frames.writes d.log.rows d.buffer.items what at size f p is)

no_value : (o : Option ℕ) → is_some o ≡ false → o ≡ None
no_value None e = refl
no_value (Some n) e = absurd (cc)

right_false : (a b : Bool) → (a || b) ≡ false → b ≡ false
right_false false b e = e
right_false true b e = absurd (cc)

-- the word of a piece that is not to be had has no row
pub unlogged : (rows : List Row) (log : List LogRow) (p : Piece) → is_had rows log p ≡ false → value_of p.word log ≡ None
unlogged rows log p e = no_value (value_of p.word log) (right_false (is_covered rows p) (is_logged log p.word) e)

-- ## A longer log

module _ (words bytes : ℕ) (writes : Written) (log more : List LogRow) (buffer : List ℕ) (less : (m : List ℕ) → Agrees m more → Agrees m log) where
  copied_more : (before : List Row) (k : Copying) (chunks : ℕ) → HasCopied words bytes before writes log buffer k chunks → HasCopied words bytes before writes more buffer k chunks
  copied_more before k chunks h = record { served = h.served; shared = h.shared; has = λ m mem agrees. h.has m mem (less m agrees) }

  pub purpose_more : (written : ℕ) (what : Purpose) (at size : ℕ) → FitsPurpose words bytes written writes log buffer what at size → FitsPurpose words bytes written writes more buffer what at size
  purpose_more written (for.Value hint width) at size f = f
  purpose_more written (for.Chunk k n) at size f = record { copied = copied_more (take written writes.rows) k n f.copied; chunk = f.chunk; is = f.is; at_is = f.at_is; size_is = f.size_is }

-- ## Rows of before the call

within-take : (words n : ℕ) (rows : List Row) → AllWritesWithin words rows → AllWritesWithin words (take n rows)
within-take words zero rows w = tt
within-take words (suc n) [] w = tt
within-take words (suc n) (r ∷ rs) w = (w.0, within-take words n rs w.1)

pub rows_before-fit : (words n : ℕ) (rows : List Row) → AreRows rows → AllWritesWithin words rows → AreRows (take n rows) × AllWritesWithin words (take n rows)
rows_before-fit words n rows are within = (AreRows-take n rows are, within-take words n rows within)

-- and so are those with a copy's bytes
copied_fits_in : (words bytes : ℕ) (rows : List Row) (k : Copying) (pair : CopyPair) (value : List ℕ) → AreRows rows → AllWritesWithin words rows → target_refusal words bytes pair k.to k.size ≡ None
    → length value ≡ k.size → AreBytes value → AreRows (writes_copied rows k pair value) × AllWritesWithin words (writes_copied rows k pair value)
copied_fits_in words bytes rows k (Out to) value are within ok size b =
    (let l = shared_within words k.to k.size ok in let in_words : k.to + length value ≤ 8 * words = omega (arith, size, l) in
    (AreRows-put_range words rows k.to (direction_of k) value are b in_words, AllWritesWithin-put_range words rows k.to (direction_of k) value within b in_words))
copied_fits_in words bytes rows k (In from) value are within ok size b = (are, within)
copied_fits_in words bytes rows k (Within from to) value are within ok size b =
    (let l = shared_within words k.to k.size ok in let in_words : k.to + length value ≤ 8 * words = omega (arith, size, l) in
    (AreRows-put_range words rows k.to (direction_of k) value are b in_words, AllWritesWithin-put_range words rows k.to (direction_of k) value within b in_words))

pub copied_fits : (words bytes : ℕ) (rows : List Row) (k : Copying) (value : List ℕ) → AreRows rows → AllWritesWithin words rows → copy_refusal true words bytes k ≡ None
    → length value ≡ k.size → AreBytes value → AreRows (writes_copied rows k k.pair value) × AllWritesWithin words (writes_copied rows k k.pair value)
copied_fits words bytes rows k value are within accepted size b = copied_fits_in words bytes rows k k.pair value are within (accepted_sides words bytes k accepted).0 size b

-- ## The arena

length-copied_in : (words : ℕ) (arena : List ℕ) (k : Copying) (pair : CopyPair) (value : List ℕ) → target_refusal words (length arena) pair k.to k.size ≡ None → length value ≡ k.size
    → length (arena_copied arena k pair value) ≡ length arena
length-copied_in words arena k (Out to) value ok size = refl
length-copied_in words arena k (In from) value ok size = length-with_slice arena value k.to (omega (arith, size, arena_within (length arena) k.to k.size ok))
length-copied_in words arena k (Within from to) value ok size = refl

-- it has as many bytes as before
pub length-arena_copied : (words : ℕ) (arena : List ℕ) (k : Copying) (value : List ℕ) → copy_refusal true words (length arena) k ≡ None → length value ≡ k.size → length (arena_copied arena k k.pair value) ≡ length arena
length-arena_copied words arena k value accepted size = length-copied_in words arena k k.pair value (accepted_sides words (length arena) k accepted).0 size
