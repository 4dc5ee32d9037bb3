-- The pieces of an access that writes, one by one.
use Rattle.std.proofs.Common.{◌≡◌, ◌≢◌, ℕ, suc, ◌==◌, ◌∷◌, drop, Option, None, Some, slice_get, sym, ap, ◌∙◌, arith, eq-eqb}
use Rattle.norec_irrevocable.proofs.Common.{Data, Fetch, InPhase, IsPlacing, Phase, Piece, Place, Writing, cond-false, cond-true, mask_of, ne_eqb, none_drop, piece_mask, piece_there, pieces_of, place_among, place_from, some_drop, whole}

-- what is true of an access that stores
pub placing_facts : (d : Data) (w : Writing) (got : Option ℕ) → InPhase d (Place w got) → IsPlacing d w 2 × (got ≡ None → piece_mask w ≡ whole)
placing_facts d w None p = (record { within = p.0.within; small = p.0.small; some = p.0.some; sized = p.0.sized; target = p.0.target; spent = omega (arith, p.0.spent) }, λ e. p.1)
placing_facts d w (Some seen) p = (p, λ e. absurd (cc))

module _ (w : Writing) where
  -- no piece is left
  pub place_ends : (past : Phase) → slice_get (pieces_of w.at w.size) w.number ≡ None → place_from past w ≡ past
  place_ends past e = ap (place_among past w) (none_drop (pieces_of w.at w.size) w.number e)

  module _ (p : Piece) (is : slice_get (pieces_of w.at w.size) w.number ≡ Some p) where
    pub mask_is : mask_of p.first p.count ≡ piece_mask w
    mask_is = ap (λ (q : Piece). mask_of q.first q.count) (piece_there w.at w.size w.number p is).1

    here : (past : Phase) → place_from past w ≡ place_among past w (p ∷ drop (suc w.number) (pieces_of w.at w.size))
    here past = ap (place_among past w) (some_drop (pieces_of w.at w.size) w.number p is)

    pub place_whole : (past : Phase) → mask_of p.first p.count ≡ whole → Place w None ≡ place_from past w
    place_whole past e = sym (here past ∙ cond-true (mask_of p.first p.count == whole) (Place w None) (Fetch w) (eq-eqb (mask_of p.first p.count) whole e))

    pub place_part : (past : Phase) → mask_of p.first p.count ≢ whole → Fetch w ≡ place_from past w
    place_part past e = sym (here past ∙ cond-false (mask_of p.first p.count == whole) (Place w None) (Fetch w) (ne_eqb (mask_of p.first p.count) whole e))
