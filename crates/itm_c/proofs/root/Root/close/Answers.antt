use Rattle.std.proofs.Common.{◌≡◌, ℕ, List, ◌∷◌, length, drop, sym, ap, ◌∙◌, subst, arith, slice_index}
use Rattle.itm_c.proofs.Common.{Lodged, Words, arc_value, cells_of, place_of, view_of}
use Rattle.shared_words.{specs.ClosedWords.clock_in, specs.ClosedWords.words_in, specs.Good.Ends}
use Rattle.itm_c.proofs.root.Root.close.Goals as goal

pub returns-in-Ok-clause-ok : goal.returns-in-Ok-clause-ok
returns-in-Ok-clause-ok c =
    let words = c.in-Ok.words in let closed = c.close_in_place.result in let view = view_of c.args.self.pass in
    let same : words ≡ arc_value c.args.self.words = c.in-Ok.ensures.ok in
    let items : c.of_vec.result.items ≡ clock_in closed ∷ words_in closed = c.of_vec.ensures.0 ∙ c.into_cells.ensures.cells in
    let whole : view.share ≡ 128 = omega (arith, c.left.ensures, c.if-left-ne127.false) in
    record {
      whole = whole;
      place = c.of_vec.ensures.1 ∙ c.into_cells.ensures.place ∙ c.close_in_place.ensures.place ∙ ap (λ (w : Words Lodged). place_of w) same;
      count = omega (arith, ap (λ (xs : List ℕ). length xs) items, c.close_in_place.ensures.count, ap (λ (w : Words Lodged). cells_of w) same);
      ends = subst (λ (xs : List ℕ). Ends view (slice_index xs 0) (drop 1 xs)) (sym items) (c.close_in_place.ensures.whole whole c.requires.seated.1);
    }
