use Rattle.std.proofs.Common.{◌≡◌, ◌≤◌, ◌<◌, ◌+◌, ◌/◌, ◌*◌, ℕ, inl, inr, length, subst, ◌∙◌, arith}
use Rattle.itm_model.proofs.Common.{cases_lt, div_ceil_times, newest_in}
use Rattle.itm_model.proofs.Journals.NewestEntries.{adds_more, adds_longer, adds_newest, newest_covers}
use Rattle.itm_model.proofs.pieces.keep_pieces.Goals as goal

pub loop-piece-preserved : goal.loop-piece-preserved
loop-piece-preserved c =
    let i = c.loop-piece.invariant in
    let j0 = c.args.journal.now.items in
    let j = c.loop-piece.journal.items in
    let j' = c.keep_piece.new.journal.items in
    let step = c.keep_piece.ensures in
    let adds = step.keeps.adds in
    record {
      room = omega (arith, i.room, step.one, step.capacity);
      longer = omega (arith, i.longer, adds_longer c.args.top j j' adds);
      keeps = record {
        adds = adds_more c.args.top j0 j j' i.keeps.adds adds;
        same = λ k l. step.keeps.same k (omega (arith, l, i.longer)) ∙ i.keeps.same k l;
        indexed = step.keeps.indexed;
      };
      kept = λ q l m. elim (cases_lt q c.loop-piece.piece) [
        | inl below ↦ omega (arith, i.kept q l below, adds_newest c.args.top j j' q adds)
        | inr at ↦ (let e : c.loop-piece.piece ≡ q = omega (arith, at, m) in subst (λ (t : ℕ). c.args.top < newest_in j' t) e step.kept)
      ];
    }

pub returns-clause-covered : goal.returns-clause-covered
returns-clause-covered c = λ i l m.
    let n = length c.args.bytes.now in
    let j = c.loop-piece.journal.items in
    let all : c.args.place + c.args.size ≤ c.div_ceil-end.result * 32 = omega (arith, (div_ceil_times (c.args.place + c.args.size) 32 (omega arith)).0, c.div_ceil-end.ensures) in
    newest_covers n c.args.top j (i / 32) i c.loop-piece.invariant.keeps.indexed.pieces (c.loop-piece.invariant.kept (i / 32) (omega (arith, l)) (omega (arith, all, m, c.loop-piece-test.false)))
    (omega arith) (omega arith) (omega (arith, m, c.requires.range))
