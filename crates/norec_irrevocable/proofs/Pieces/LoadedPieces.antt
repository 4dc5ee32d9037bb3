-- A read of an irrevocable transaction goes on from piece to piece.
use Rattle.std.proofs.Common.{◌≡◌, ℕ, suc, ◌<◌, ◌≤◌, nat_lt, true, false, List, [], ◌++◌, length, drop, take, Option, None, Some, is_some, slice_get, refl, sym, ap, ◌∙◌}
use Rattle.norec_irrevocable.proofs.Common.{Data, LoadsFor, Phase, Piece, Purpose, Reading, State, append-nil, cond-false, copy_refusal, count_of, gathered, le-ltb, length-gathered-all, no_pieces, none_there, part_of, piece_there, pieces_of, read_from, reading_of, take_all-pieces_of}
use Rattle.norec_core.specs.declared.call_parts.Purpose.TheVariants as for
use Rattle.norec_irrevocable.proofs.Replies.HeldAccesses.{gathers_on}

-- what a read is made for does not change as it goes on
pub loads_later : (d new : Data) (what : Purpose) (at size : ℕ) → new.words ≡ d.words → new.arena ≡ d.arena → LoadsFor d what at size → LoadsFor new what at size
loads_later d new (for.Value hint width) at size w a l = l
loads_later d new (for.Chunk k number) at size w a l = (record { served = (λ i. copy_refusal true (w i) (length (a i)) k) ∙ (l.0).served; chunk = (l.0).chunk; is = (l.0).is; start_is = (l.0).start_is; size_is = (l.0).size_is }, l.1)

-- nor what it comes to
pub reading_next : (what : Purpose) (r : Reading) (n : ℕ) (s : State) (bytes : List ℕ) → reading_of what (record r { number = n }) s bytes ≡ reading_of what r s bytes
reading_next (for.Value hint width) r n s bytes = refl
reading_next (for.Chunk k number) r n s bytes = refl

-- the last piece is gathered
pub whole_length : (at size n : ℕ) → size ≤ 32 → count_of at size ≤ n → length (gathered [] (take n (pieces_of at size))) ≡ size
whole_length at size n small past = ap (λ (ps : List Piece). length (gathered [] ps)) (take_all-pieces_of at size n past) ∙ length-gathered-all [] at size small

pub more_left : (at size n : ℕ) (o : Option Piece) → slice_get (pieces_of at size) n ≡ o → is_some o ≡ true → n < count_of at size
more_left at size n None e s = absurd (cc)
more_left at size n (Some p) e s = (piece_there at size n p e).0

pub none_left : (at size n : ℕ) (o : Option Piece) → slice_get (pieces_of at size) n ≡ o → is_some o ≡ false → count_of at size ≤ n
none_left at size n None e s = none_there at size n e
none_left at size n (Some p) e s = absurd (cc)

-- past the last piece
pub read_ends : (past : Phase) (r : Reading) → count_of r.at r.size ≤ r.number → read_from past r ≡ past
read_ends past r l = cond-false (nat_lt r.number (count_of r.at r.size)) _ past (le-ltb r.number (count_of r.at r.size) l)

-- nothing is left to gather
pub gathers_all : (m bytes : List ℕ) (at size n : ℕ) (p : Piece) (seen : ℕ) → slice_get (pieces_of at size) n ≡ Some p → slice_get m p.word ≡ Some seen → count_of at size ≤ suc n
    → bytes ++ part_of p seen ≡ bytes ++ gathered m (drop n (pieces_of at size))
gathers_all m bytes at size n p seen is found past =
    sym (ap (λ (ps : List Piece). (bytes ++ part_of p seen) ++ gathered m ps) (no_pieces at size (suc n) past) ∙ append-nil (bytes ++ part_of p seen))
    ∙ gathers_on m bytes at size n p seen is found
