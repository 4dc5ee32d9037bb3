use Rattle.std.proofs.Common.{◌≢◌, inl, inr, sym, ◌∙◌}
use Rattle.norec_irrevocable.proofs.Common.{Fetch, Place, mask_of, none_there, piece_there, whole}
use Rattle.norec_irrevocable.proofs.Pieces.PlacedPieces.{mask_is, place_ends, place_part, place_whole}
use Rattle.norec_irrevocable.proofs.access.next_place.Goals as goal

pub returns-in_err-piece-clause-none : goal.returns-in_err-piece-clause-none
returns-in_err-piece-clause-none c =
    rw c.from_residual.ensures (λ past. place_ends c.args.writing past (sym c.piece_at.ensures.value ∙ c.in_err-piece.was))

pub returns-then-mask-clause-some : goal.returns-then-mask-clause-some
returns-then-mask-clause-some c =
    let w = c.args.writing in
    let is = sym c.piece_at.ensures.value ∙ c.in_ok-piece.was in
    let whole = sym c.mask.ensures.value ∙ c.if-mask.true in
    (λ d e f. (λ past. (λ i. Place (e i) (f i)) ∙ place_whole w c.in_ok-piece.piece is past whole, (piece_there w.at w.size w.number c.in_ok-piece.piece is).0, inl (sym (mask_is w c.in_ok-piece.piece is) ∙ whole, λ i. Place (e i) (f i))))

pub returns-else-mask-clause-some : goal.returns-else-mask-clause-some
returns-else-mask-clause-some c =
    let w = c.args.writing in
    let is = sym c.piece_at.ensures.value ∙ c.in_ok-piece.was in
    let part : mask_of c.in_ok-piece.piece.first c.in_ok-piece.piece.count ≢ whole = λ e. c.if-mask.false (c.mask.ensures.value ∙ e) in
    (λ d e f. (λ past. (λ i. Fetch (e i)) ∙ place_part w c.in_ok-piece.piece is past part, (piece_there w.at w.size w.number c.in_ok-piece.piece is).0, inr (λ x. part (mask_is w c.in_ok-piece.piece is ∙ x), λ i. Fetch (e i))))

pub returns-in_err-piece-clause-past : goal.returns-in_err-piece-clause-past
returns-in_err-piece-clause-past c =
    rw c.from_residual.ensures (none_there c.args.writing.at c.args.writing.size c.args.writing.number (sym c.piece_at.ensures.value ∙ c.in_err-piece.was))
