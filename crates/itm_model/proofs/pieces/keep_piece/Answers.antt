use Rattle.std.proofs.Common.{◌≡◌, ◌≤◌, ◌<◌, ◌+◌, ◌*◌, ℕ, suc, List, [], ◌∷◌, ◌++◌, length, drop, set, ap, sym, subst, ◌∙◌, arith}
use Rattle.itm_model.proofs.Common.{IsIndexed, IsPiece, Old, Restores, get_or_default, newest_in, piece_of, put_back}
use Rattle.itm_model.proofs.Journals.Rollbacks.{length-slice}
use Rattle.itm_model.proofs.Journals.CoveredBytes.{own_slice}
use Rattle.itm_model.proofs.Journals.NewestEntries.{indexed_push, newest_of_it}
use Rattle.itm_model.proofs.pieces.keep_piece.Goals as goal

goes_back : (c : goal.After-newest-1) → Restores (length c.args.journal.now.items) c.args.journal.now.items c.args.bytes.now c.push_reserved.new.self.items c.args.bytes.now
goes_back c = λ k l.
    let m = c.args.bytes.now in
    let o : Old = record { place = c.args.piece * 32; bytes = c.part_at-kept.result; earlier = c.index-earlier.result.now } in
    ap (λ (t : List Old). put_back (drop k t) m) c.push_reserved.ensures.items
    ∙ own_slice c.args.journal.now.items m o c.min.result k (omega (arith, c.requires.piece, c.min.ensures)) c.part_at-kept.ensures l

pub returns-clause-kept : goal.returns-clause-kept
returns-clause-kept c =
    let j = c.args.journal.now.items in
    let o : Old = record { place = c.args.piece * 32; bytes = c.part_at-kept.result; earlier = c.index-earlier.result.now } in
    let new : newest_in c.push_reserved.new.self.items c.args.piece ≡ suc (length j) =
    ap (λ (t : List Old). newest_in t c.args.piece) c.push_reserved.ensures.items ∙ newest_of_it j o c.args.piece (omega arith) in
    omega (arith, new, c.requires.top)

pub returns-clause-keeps : goal.returns-clause-keeps
returns-clause-keeps c =
    let n = length c.args.bytes.now in
    let j = c.args.journal.now.items in
    let ns = c.args.newest.now.items in
    let o : Old = record { place = c.args.piece * 32; bytes = c.part_at-kept.result; earlier = c.index-earlier.result.now } in
    let which : piece_of o ≡ c.args.piece = omega arith in
    let fits : c.args.piece * 32 + c.min.result ≤ n = omega (arith, c.requires.piece, c.min.ensures) in
    let long : length o.bytes.items ≡ c.min.result = ap (length {A = ℕ}) c.part_at-kept.ensures ∙ length-slice c.args.bytes.now (c.args.piece * 32) c.min.result fits in
    let whole : IsPiece n o = record { start = omega arith; inside = omega (arith, c.requires.piece); whole = omega (arith, long, c.min.ensures) } in
    let in_table : c.args.piece < length ns = omega (arith, c.requires.piece, c.requires.indexed.count) in
    let earlier : o.earlier ≡ newest_in j (piece_of o) =
    c.index-earlier.ensures ∙ (get_or_default ns c.args.piece c.index-earlier.result.now 0 in_table ∙ (c.requires.indexed.table c.args.piece in_table ∙ ap (newest_in j) (sym which))) in
    let count : suc (length j) ≡ c.len.result = omega (arith, c.len.ensures, c.push_reserved.ensures.len) in
    record {
      adds = (o ∷ [], c.push_reserved.ensures.items, (omega arith, tt));
      same = goes_back c;
      indexed = subst (λ (t : List Old). IsIndexed n t (set ns c.args.piece c.len.result)) (sym c.push_reserved.ensures.items)
          (subst (λ (v : ℕ). IsIndexed n (j ++ o ∷ []) (set ns c.args.piece v)) count
          (subst (λ (p : ℕ). IsIndexed n (j ++ o ∷ []) (set ns p (suc (length j)))) which (indexed_push n j ns o c.requires.indexed whole earlier)));
    }
