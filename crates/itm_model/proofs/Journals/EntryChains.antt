-- Laws of entries that come one after the other, each unless its piece has one since the journal had so many.
use Rattle.std.proofs.Common.{◌≡◌, ℕ, ◌<◌, ◌≤◌, Bool, true, false, ltb, List, [], ◌∷◌, length, take, drop, refl, ap, sym, subst, ◌∙◌, arith, length-append}
use Rattle.itm_model.proofs.Common.{Adds, AreCovered, AreLinked, ArePieces, IsPiece, Old, Restores, drop-append-le, handed_on, joined, length-take-le, ltb-false, ltb-true, newest_in, piece_of, put_back, take-append-drop, with_slice}
use Rattle.itm_model.proofs.Journals.Rollbacks.{length-put_back, put_back-append}
use Rattle.itm_types.proofs.Elements.{all_append, all_drop, all_take}
use Rattle.itm_model.proofs.Journals.CoveredBytes.{covered_write}
use Rattle.itm_model.proofs.Journals.NewestEntries.{pieces_within, linked_push, newest_covers, covered_drop, adds_none, adds_more}

-- the entry as it comes after these
abbrev after : List Old → Old → Old
after so o = record o { earlier = newest_in so (piece_of o) }

piece_after : (n : ℕ) (so : List Old) (o : Old) → IsPiece n o → IsPiece n (after so o)
piece_after n so o w = record { start = w.start; inside = w.inside; whole = w.whole }

-- ## It is a whole piece, linked, and a first entry

joined_pieces : (n : ℕ) (so : List Old) (o : Old) (b : Bool) → ArePieces n so → IsPiece n o → ArePieces n (joined so o b)
joined_pieces n so o true w h = w
joined_pieces n so o false w h = all_append (IsPiece n) so (after so o ∷ []) w (piece_after n so o h, tt)

pub handed_pieces : (n top : ℕ) (so os : List Old) → ArePieces n so → ArePieces n os → ArePieces n (handed_on top so os)
handed_pieces n top so [] w h = w
handed_pieces n top so (o ∷ os) w h = handed_pieces n top (joined so o _) os (joined_pieces n so o _ w h.0) h.1

joined_linked : (so : List Old) (o : Old) (b : Bool) → AreLinked [] so → AreLinked [] (joined so o b)
joined_linked so o true w = w
joined_linked so o false w = linked_push [] so (after so o) w refl

pub handed_linked : (top : ℕ) (so os : List Old) → AreLinked [] so → AreLinked [] (handed_on top so os)
handed_linked top so [] w = w
handed_linked top so (o ∷ os) w = handed_linked top (joined so o _) os (joined_linked so o _ w)

joined_adds : (top : ℕ) (so : List Old) (o : Old) (b : Bool) → ltb top (newest_in so (piece_of o)) ≡ b → Adds top so (joined so o b)
joined_adds top so o true e = adds_none top so
joined_adds top so o false e = (after so o ∷ [], refl, (ltb-false top (newest_in so (piece_of o)) e, tt))

pub handed_adds : (top : ℕ) (so os : List Old) → Adds top so (handed_on top so os)
handed_adds top so [] = adds_none top so
handed_adds top so (o ∷ os) =
    let b = ltb top (newest_in so (piece_of o)) in
    adds_more top so (joined so o b) (handed_on top (joined so o b) os) (joined_adds top so o b refl) (handed_adds top (joined so o b) os)

-- ## What stood before stands again

-- the bytes of a piece that has an entry are put back
piece_covered : (n top k : ℕ) (so : List Old) (o : Old) → ArePieces n so → IsPiece n o → top < newest_in so (piece_of o) → k ≤ top → AreCovered (drop k so) o.place (length o.bytes.items)
piece_covered n top k so o w h t l i from below =
    covered_drop k top so i l (newest_covers n top so (piece_of o) i w t (omega (arith, h.start, from)) (omega (arith, h.start, h.whole, below)) (omega (arith, h.inside, h.whole, below)))

joined_restores : (top k : ℕ) (so : List Old) (o : Old) (m : List ℕ) (b : Bool) → ltb top (newest_in so (piece_of o)) ≡ b → ArePieces (length m) so → IsPiece (length m) o → top ≤ length so → k ≤ top
    → put_back (drop k (joined so o b)) m ≡ put_back (drop k so) (with_slice m o.place o.bytes.items)
joined_restores top k so o m true e w h t l =
    sym (covered_write (drop k so) m o.place o.bytes.items (all_drop _ k so (pieces_within (length m) so w)) (omega (arith, h.inside, h.whole))
    (piece_covered (length m) top k so o w h (ltb-true top (newest_in so (piece_of o)) e) l))
joined_restores top k so o m false e w h t l =
    ap (λ x. put_back x m) (drop-append-le k so (after so o ∷ []) (omega (arith, t, l))) ∙ put_back-append (drop k so) (after so o ∷ []) m

joined_longer : (so : List Old) (o : Old) (b : Bool) → length so ≤ length (joined so o b)
joined_longer so o true = omega arith
joined_longer so o false = omega (arith, length-append so (after so o ∷ []))

handed_restores : (top k : ℕ) (so os : List Old) (m : List ℕ) → ArePieces (length m) so → ArePieces (length m) os → top ≤ length so → k ≤ top
    → put_back (drop k (handed_on top so os)) m ≡ put_back (drop k so) (put_back os m)
handed_restores top k so [] m w h t l = refl
handed_restores top k so (o ∷ os) m w h t l =
    let b = ltb top (newest_in so (piece_of o)) in
    let below = put_back os m in
    let size : length below ≡ length m = length-put_back os m (pieces_within (length m) os h.1) in
    handed_restores top k (joined so o b) os m (joined_pieces (length m) so o b w h.0) h.1 (omega (arith, t, joined_longer so o b)) l
    ∙ joined_restores top k so o below b refl (subst (λ (n : ℕ). ArePieces n so) (sym size) w) (subst (λ (n : ℕ). IsPiece n o) (sym size) h.0) t l

-- an inner block's entries handed on
pub handed_same : (top at : ℕ) (j : List Old) (m : List ℕ) → ArePieces (length m) j → top ≤ at → at ≤ length j → Restores top j m (handed_on top (take at j) (drop at j)) m
handed_same top at j m w t l k h =
    let own : put_back (drop k j) m ≡ put_back (drop k (take at j)) (put_back (drop at j) m) =
    ap (λ x. put_back (drop k x) m) (sym (take-append-drop at j))
    ∙ (ap (λ x. put_back x m) (drop-append-le k (take at j) (drop at j) (omega (arith, h, t, length-take-le at j l)))
    ∙ put_back-append (drop k (take at j)) (drop at j) m) in
    handed_restores top k (take at j) (drop at j) m (all_take _ at j w) (all_drop _ at j w) (omega (arith, t, length-take-le at j l)) h ∙ sym own
