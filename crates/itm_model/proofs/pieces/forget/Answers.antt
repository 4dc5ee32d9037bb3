use Rattle.std.proofs.Common.{◌≡◌, ◌<◌, ◌+◌, ◌-◌, ℕ, length, take, set, sym, subst, ◌∙◌, arith}
use Rattle.itm_model.proofs.Common.{AreAmong, AreNewest, Old, length-set, piece_of}
use Rattle.itm_model.proofs.Journals.NewestEntries.{newest_forgotten}
use Rattle.itm_types.proofs.Elements.{all_at}
use Rattle.itm_model.proofs.pieces.forget.Goals as goal

pub index_mut-requires : goal.index_mut-requires
index_mut-requires c =
    let j = c.args.journal.now in
    let o = c.index-journal-left.result in
    let k = c.loop-left.left - 1 in
    let inside : k < length j = omega (arith, c.loop-left-test.true, c.loop-left.invariant.left) in
    let among : piece_of o < length c.args.newest.now.items = subst (λ (t : Old). piece_of t < length c.args.newest.now.items) (sym c.index-journal-left.is) (all_at (λ t. piece_of t < length c.args.newest.now.items) j k o c.requires.among inside) in
    omega (arith, among, c.piece_of.ensures, c.loop-left.invariant.count)

pub loop-left-preserved : goal.loop-left-preserved
loop-left-preserved c =
    let j = c.args.journal.now in
    let o = c.index-journal-left.result in
    let k = c.loop-left.left - 1 in
    let ns = c.loop-left.newest.items in
    let i = c.loop-left.invariant in
    let next : c.loop-left.left ≡ k + 1 = omega (arith, c.loop-left-test.true) in
    let here : AreNewest (take (k + 1) j) ns = subst (λ (n : ℕ). AreNewest (take n j) ns) next i.newest in
    let among : AreAmong (length ns) j = subst (λ (n : ℕ). AreAmong n j) (sym i.count) c.requires.among in
    let new : AreNewest (take k j) (set ns (piece_of o) o.earlier) = newest_forgotten j ns k o c.requires.linked among (omega (arith, c.loop-left-test.true, i.left)) c.index-journal-left.is here in
    record {
      at = omega (arith, c.loop-left-test.true);
      left = omega (arith, i.left);
      newest = subst (λ (p : ℕ). AreNewest (take k j) (set ns p o.earlier)) (sym c.piece_of.ensures) new;
      count = length-set ns c.piece_of.result o.earlier ∙ i.count;
    }
