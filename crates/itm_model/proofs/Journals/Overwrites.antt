-- Laws of bytes that are overwritten once the pieces that have them are kept, and of the entries of a block that closes.
use Rattle.std.proofs.Common.{◌≡◌, ℕ, ◌+◌, ◌≤◌, Bool, ◌||◌, nat_lt, List, [], ◌∷◌, length, drop, take, reverse, subst, ap, sym, ◌∙◌, arith}
use Rattle.itm_model.proofs.Common.{Actions, Adds, AreAmong, AreCovered, AreLinked, AreNewest, AreOnce, ArePieces, AreUnder, AreWithin, IsIndexed, IsSound, Mark, Old, Restores, handed_on, length-take-le, put_back, top_of, with_slice, written}
use Rattle.itm_model.proofs.Journals.CoveredBytes.{covered_write}
use Rattle.itm_model.proofs.Journals.EntryChains.{handed_adds, handed_linked, handed_pieces, handed_same}
use Rattle.itm_model.proofs.Journals.EntryBounds.{once_adds, top_under, under_top}
use Rattle.itm_model.proofs.Journals.Rollbacks.{length-with_slice, length-put_back}
use Rattle.itm_types.proofs.Elements.{all_drop, all_take}
use Rattle.itm_model.proofs.Journals.NewestEntries.{adds_longer, covered_drop, linked_take, pieces_among, pieces_within}
use Rattle.itm_model.proofs.OpenBlocks.{AreUnder-more, blocks_same, state_of}

-- what stood while the journal was no longer than at the begin of the innermost block stands again
kept_restores : (top : ℕ) (j j' : List Old) (m : List ℕ) (p : ℕ) (new : List ℕ) → top ≤ length j → p + length new ≤ length m → AreWithin (length m) j'
    → Restores (length j) j m j' m → AreCovered (drop top j') p (length new) → Restores top j m j' (with_slice m p new)
kept_restores top j j' m p new t h w r c k l =
    covered_write (drop k j') m p new (all_drop _ k j' w) h (λ i a b. covered_drop k top j' i l (c i a b))
    ∙ r k (omega (arith, l, t))

-- a machine of which shared bytes are written
pub record IsWritten (j : List Old) (m a : List ℕ) (os : List Old) (marks : List Mark) (acts : Actions) (wrote irr : Bool) (p : ℕ) (new : List ℕ) (j' : List Old) (ns' : List ℕ) (m' : List ℕ) (wrote' : Bool) : Type 0 where
  pub sound : IsSound m' j' ns' a os marks
  pub state : state_of irr j' m' a os marks acts wrote' ≡ written (state_of irr j m a os marks acts wrote) p new
  pub before : put_back j' m' ≡ put_back j m

written_from : (j : List Old) (ns : List ℕ) (m a : List ℕ) (os : List Old) (marks : List Mark) (acts : Actions) (wrote irr : Bool) (p : ℕ) (new : List ℕ) (j' : List Old) (ns' : List ℕ) (m' : List ℕ) (wrote' : Bool)
    → IsSound m j ns a os marks → p + length new ≤ length m
    → Adds (top_of (reverse marks)) j j' → Restores (length j) j m j' m → AreCovered (drop (top_of (reverse marks)) j') p (length new) → IsIndexed (length m) j' ns'
    → m' ≡ with_slice m p new → wrote' ≡ (wrote || nat_lt 0 (length new)) → IsWritten j m a os marks acts wrote irr p new j' ns' m' wrote'
written_from j ns m a os marks acts wrote irr p new j' ns' m' wrote' s h adds same covered indexed e f =
    let ms = reverse marks in
    let size : length m' ≡ length m = ap (length {A = ℕ}) e ∙ length-with_slice m p new h in
    let within : AreWithin (length m) j' = pieces_within (length m) j' indexed.pieces in
    let r : Restores (top_of ms) j m j' m' = λ k t. ap (put_back (drop k j')) e ∙ kept_restores (top_of ms) j j' m p new (top_under (length j) (length os) ms s.under) h within same covered k t in
    let blocks = blocks_same irr j m j' m' a os (top_of ms) (length os) ms (under_top (length j) (length os) ms s.under) r in
    record {
      sound = record {
        within = subst (λ (n : ℕ). AreWithin n j') (sym size) within;
        logged = s.logged;
        under = AreUnder-more (length j) (length j') (length os) (length os) ms (adds_longer (top_of ms) j j' adds) (omega arith) s.under;
        indexed = subst (λ (n : ℕ). IsIndexed n j' ns') (sym size) indexed;
        once = once_adds (length j) (length os) j j' ms (omega arith) s.under s.once adds;
      };
      state = (λ i. record { memory = e i; arena = a; blocks = blocks i; actions = acts; wrote = f i; irrevocable = irr });
      before = r 0 (omega arith);
    }

-- the same of what was kept of a list that is the memory, since the begin of the innermost block of marks that are these
pub is_written : (j : List Old) (ns : List ℕ) (m a : List ℕ) (os : List Old) (marks : List Mark) (acts : Actions) (wrote irr : Bool) (p : ℕ) (new : List ℕ) (j' : List Old) (ns' : List ℕ) (m' : List ℕ) (wrote' : Bool)
    → (top n : ℕ) (around : List Mark) (bytes : List ℕ) → around ≡ marks → bytes ≡ m → top ≡ top_of (reverse around) → n ≡ length new
    → IsSound m j ns a os marks → p + length new ≤ length m
    → Adds top j j' → Restores (length j) j bytes j' bytes → AreCovered (drop top j') p n → IsIndexed (length bytes) j' ns'
    → m' ≡ with_slice m p new → wrote' ≡ (wrote || nat_lt 0 (length new)) → IsWritten j m a os marks acts wrote irr p new j' ns' m' wrote'
is_written j ns m a os marks acts wrote irr p new j' ns' m' wrote' top n around bytes o b t l s h adds same covered indexed e f =
    let at : top ≡ top_of (reverse marks) = t ∙ ap (λ x. top_of (reverse x)) o in
    written_from j ns m a os marks acts wrote irr p new j' ns' m' wrote' s h
    (subst (λ (x : ℕ). Adds x j j') at adds)
    (subst (λ (x : List ℕ). Restores (length j) j x j' x) b same)
    (subst (λ (x : ℕ). AreCovered (drop x j') p (length new)) at (subst (λ (x : ℕ). AreCovered (drop top j') p x) l covered))
    (subst (λ (x : List ℕ). IsIndexed (length x) j' ns') b indexed)
    e f

-- ## A rollback, and a block that closes

-- each entry's piece is in the table
pub in_table : (n : ℕ) (j : List Old) (ns : List ℕ) → IsIndexed n j ns → AreAmong (length ns) j
in_table n j ns x = pieces_among n (length ns) j x.count x.pieces

-- the entries since the journal had so many are gone
indexed_cut : (n at : ℕ) (j : List Old) (ns ns' : List ℕ) → IsIndexed n j ns → AreNewest (take at j) ns' → length ns' ≡ length ns → IsIndexed n (take at j) ns'
indexed_cut n at j ns ns' x t e = record { pieces = all_take _ at j x.pieces; linked = linked_take at [] j x.linked; table = t; count = e ∙ x.count }

pub is_cut : (at : ℕ) (j : List Old) (ns m : List ℕ) (j' : List Old) (ns' m' : List ℕ) → AreWithin (length m) j → IsIndexed (length m) j ns
    → m' ≡ put_back (drop at j) m → j' ≡ take at j → AreNewest (take at j) ns' → length ns' ≡ length ns → IsIndexed (length m') j' ns'
is_cut at j ns m j' ns' m' w x e f t count =
    let size : length m' ≡ length m = ap (length {A = ℕ}) e ∙ length-put_back (drop at j) m (all_drop _ at j w) in
    subst (λ (n : ℕ). IsIndexed n j' ns') (sym size) (subst (λ (t : List Old). IsIndexed (length m) t ns') (sym f) (indexed_cut (length m) at j ns ns' x t count))

-- the innermost block's entries are left to the one around it
pub record IsHandedOn (j : List Old) (m : List ℕ) (os : List Old) (marks : List Mark) (j' : List Old) (ns' : List ℕ) : Type 0 where
  pub under : AreUnder (length j') (length os) (reverse marks)
  pub indexed : IsIndexed (length m) j' ns'
  pub once : AreOnce j' (reverse marks)
  pub within : AreWithin (length m) j'
  pub same : Restores (top_of (reverse marks)) j m j' m

pub is_handed_on : (j : List Old) (ns : List ℕ) (m : List ℕ) (os : List Old) (marks : List Mark) (x : Mark) (j' : List Old) (ns' : List ℕ)
    → IsIndexed (length m) j ns → AreUnder (length j) (length os) (x ∷ reverse marks) → AreOnce j (x ∷ reverse marks)
    → j' ≡ handed_on (top_of (reverse marks)) (take x.at j) (drop x.at j) → AreNewest j' ns' → length ns' ≡ length ns → IsHandedOn j m os marks j' ns'
is_handed_on j ns m os marks x j' ns' s u o e t count =
    let ms = reverse marks in
    let n = length m in
    let top = top_of ms in
    let front = take x.at j in
    let back = drop x.at j in
    let long : length front ≡ x.at = length-take-le x.at j u.0 in
    let adds : Adds top front j' = subst (Adds top front) (sym e) (handed_adds top front back) in
    let pieces = handed_pieces n top front back (all_take _ x.at j s.pieces) (all_drop _ x.at j s.pieces) in
    let indexed : IsIndexed n j' ns' = record {
      pieces = subst (ArePieces n) (sym e) pieces;
      linked = subst (AreLinked []) (sym e) (handed_linked top front back (linked_take x.at [] j s.linked));
      table = t;
      count = count ∙ s.count;
    } in
    record {
      under = AreUnder-more x.at (length j') x.logs (length os) ms (omega (arith, long, adds_longer top front j' adds)) u.1 u.2;
      indexed = indexed;
      once = once_adds x.at x.logs front j' ms (omega (arith, long)) u.2 o.1 adds;
      within = pieces_within n j' indexed.pieces;
      same = subst (λ (t : List Old). Restores top j m t m) (sym e) (handed_same top x.at j m s.pieces (top_under x.at x.logs ms u.2) u.0);
    }
