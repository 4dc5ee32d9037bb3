-- What reads and writes of an irrevocable transaction come to.
use Rattle.std.proofs.Common.{◌≡◌, ℕ, suc, ◌+◌, ◌*◌, ◌^◌, ◌<◌, ◌≤◌, true, List, ◌++◌, length, drop, Option, None, Some, slice_get, slice_set, refl, sym, ap, subst, ◌∙◌, arith, slice_index}
use Rattle.norec_irrevocable.proofs.Common.{AllFit, AllFit-at, AreBytes, Call, Data, Datum, Done, Got, IsMemory, IsPiece, OutOfRange, Outside, Piece, Read, ReadHint, Width, Write, WriteHint, Writing, access_of, after, append_assoc, bytes_of-written, bytes_reply, gathered, gathered-pieces_of, in_block, index_of, kept, le-leb, length-set, mask_of, merge, or_else, part_of, piece_mask, pieces_of, placed_piece, placed_value, refusal, reply, scattered, serves, size_of, some_drop, unless, whole, with_piece, written, written_at}
use Rattle.word_pieces.proofs.Bits.{merge-lt, merge-whole}
use Rattle.itm_types.proofs.WordLists.{fit-set}
use Rattle.access_rules.proofs.Writings.{scattered_lt}
use Rattle.norec_irrevocable.proofs.Replies.KeptStates.{access_kept}

-- ## What is served

module _ (d : Data) (o : in_block d ≡ true) (m : List ℕ) (mem : IsMemory d.words m) where
  pub access_served : (call : Call) (at size : ℕ) → access_of call ≡ Some (at, size) → at + size ≤ 8 * d.words → refusal d.frames.depth (kept d m) call ≡ None
  access_served call at size is l =
      access_kept d.frames.blocks d.arena d.frames.actions m d.frames.depth d.words mem call at size is
      ∙ (λ i. or_else (unless (o i) Outside) (unless (le-leb (at + size) (8 * d.words) l i) OutOfRange))

  -- the pieces of a read
  pub read_comes : (hint : ReadHint) (width : Width) (at : ℕ) → at + size_of width ≤ 8 * d.words
      → (kept d m ≡ after d.frames.depth (kept d m) (Read hint width at)) × (bytes_reply (gathered m (pieces_of at (size_of width))) ≡ reply d.frames.depth (kept d m) (Read hint width at))
  read_comes hint width at l =
      let all = serves d.frames.depth (kept d m) (Read hint width at) (access_served (Read hint width at) at (size_of width) refl l) in
      (all.0, ap bytes_reply (gathered-pieces_of m at (size_of width) (omega (arith, l, mem.0))) ∙ all.1)

  -- and of a write
  pub write_comes : (hint : WriteHint) (value : Datum) (at : ℕ) → at + size_of value.width ≤ 8 * d.words → AreBytes value.bytes.items
      → (kept d (written m (pieces_of at (size_of value.width)) value.bytes.items) ≡ after d.frames.depth (kept d m) (Write hint at value)) × (Done ≡ reply d.frames.depth (kept d m) (Write hint at value))
  write_comes hint value at l fit =
      let all = serves d.frames.depth (kept d m) (Write hint at value) (access_served (Write hint at value) at (size_of value.width) refl l) in
      (ap (λ (bytes : List ℕ). record (kept d m) { memory = bytes }) (bytes_of-written m value.bytes.items at (size_of value.width) fit value.sized (omega (arith, l, mem.0))) ∙ all.0, all.1)

-- the bytes of an access, written by its pieces
pub kept_written : (d : Data) (m bytes : List ℕ) (at size : ℕ) → IsMemory d.words m → AreBytes bytes → length bytes ≡ size → at + size ≤ 8 * d.words
    → kept d (written m (pieces_of at size) bytes) ≡ written_at (kept d m) at bytes
kept_written d m bytes at size mem fit many l = (let n = mem.0 in ap (λ (b : List ℕ). record (kept d m) { memory = b }) (bytes_of-written m bytes at size fit many (omega (arith, n, l))))

-- ## Piece by piece

-- of a read: the bytes that are gathered, with those of the pieces that are left
pub gathers_on : (m bytes : List ℕ) (at size n : ℕ) (p : Piece) (seen : ℕ) → slice_get (pieces_of at size) n ≡ Some p → slice_get m p.word ≡ Some seen
    → (bytes ++ part_of p seen) ++ gathered m (drop (suc n) (pieces_of at size)) ≡ bytes ++ gathered m (drop n (pieces_of at size))
gathers_on m bytes at size n p seen is found =
    append_assoc bytes (part_of p seen) (gathered m (drop (suc n) (pieces_of at size)))
    ∙ ap (λ (t : List ℕ). bytes ++ t)
    (ap (λ (x : ℕ). part_of p x ++ gathered m (drop (suc n) (pieces_of at size))) (sym (index_of m p.word seen found))
    ∙ sym (ap (gathered m) (some_drop (pieces_of at size) n p is)))

-- of a write: the store of a piece
stores_piece : (m bytes : List ℕ) (w : Writing) (got : Option ℕ) → AreBytes bytes → (got ≡ None → piece_mask w ≡ whole) → Got got (slice_get m (placed_piece w).word)
    → slice_set m (placed_piece w).word (placed_value w bytes got) ≡ with_piece m (placed_piece w) bytes
stores_piece m bytes w None fit all found =
    let p : Piece = placed_piece w in
    ap (slice_set m p.word)
    (sym (ap (λ (mask : ℕ). merge (slice_index m p.word) mask (scattered p bytes)) (all refl) ∙ merge-whole (slice_index m p.word) (scattered p bytes) (scattered_lt p bytes fit)))
stores_piece m bytes w (Some seen) fit all found =
    let p : Piece = placed_piece w in
    ap (λ (x : ℕ). slice_set m p.word (merge x (mask_of p.first p.count) (scattered p bytes))) (sym (index_of m p.word seen found))

pub stores_on : (m bytes : List ℕ) (w : Writing) (got : Option ℕ) → slice_get (pieces_of w.at w.size) w.number ≡ Some (placed_piece w) → AreBytes bytes → (got ≡ None → piece_mask w ≡ whole)
    → Got got (slice_get m (placed_piece w).word)
    → written (slice_set m (placed_piece w).word (placed_value w bytes got)) (drop (suc w.number) (pieces_of w.at w.size)) bytes ≡ written m (drop w.number (pieces_of w.at w.size)) bytes
stores_on m bytes w got is fit all found =
    ap (λ (x : List ℕ). written x (drop (suc w.number) (pieces_of w.at w.size)) bytes) (stores_piece m bytes w got fit all found)
    ∙ sym (ap (λ (ps : List Piece). written m ps bytes) (some_drop (pieces_of w.at w.size) w.number (placed_piece w) is))

value_fits : (m bytes : List ℕ) (w : Writing) (got : Option ℕ) → AllFit m → AreBytes bytes → IsPiece (placed_piece w) → Got got (slice_get m (placed_piece w).word) → placed_value w bytes got < 2 ^ 64
value_fits m bytes w None fits fit is found = scattered_lt (placed_piece w) bytes fit
value_fits m bytes w (Some seen) fits fit is found =
    let p : Piece = placed_piece w in
    let small : seen < 2 ^ 64 = subst (λ (x : ℕ). x < 2 ^ 64) (index_of m p.word seen found) (AllFit-at m p.word fits) in
    merge-lt seen (mask_of p.first p.count) (scattered p bytes) small (scattered_lt p bytes fit)

-- the memory once a piece is stored
pub fits_stored : (words : ℕ) (m bytes : List ℕ) (w : Writing) (got : Option ℕ) → IsMemory words m → AreBytes bytes → IsPiece (placed_piece w) → Got got (slice_get m (placed_piece w).word)
    → IsMemory words (slice_set m (placed_piece w).word (placed_value w bytes got))
fits_stored words m bytes w got mem fit is found =
    (length-set m (placed_piece w).word (placed_value w bytes got) ∙ mem.0, fit-set m (placed_piece w).word (placed_value w bytes got) mem.1 (value_fits m bytes w got mem.1 fit is found))
