use Rattle.std.proofs.Common.{◌≡◌, ◌≤◌, ◌<◌, ◌+◌, ℕ, suc, List, [], ◌∷◌, ◌++◌, length, take, drop, get_or, set, ap, sym, subst, ◌∙◌, arith}
use Rattle.itm_model.proofs.Common.{AreAmong, AreNewest, Old, common_steps, drop_more, get_or_default, length-take-le, piece_of, swap, take_more_set}
use Rattle.std.proofs.lemmas.List.Edits.{swap_is}
use Rattle.itm_model.proofs.Journals.NewestEntries.{newest_pushed}
use Rattle.itm_model.proofs.pieces.hand_on_one.Goals as goal

front_stays : (xs : List Old) (i j : ℕ) (d : Old) → i ≤ j → j < length xs → take i (swap xs i j) ≡ take i xs
front_stays xs i j d h l = grind (arith, common_steps, swap_is xs i j d (omega (arith, h, l)) l)

comes_to : (xs : List Old) (i j : ℕ) (d : Old) → i ≤ j → j < length xs → get_or (swap xs i j) i d ≡ get_or xs j d
comes_to xs i j d h l = grind (arith, common_steps, swap_is xs i j d (omega (arith, h, l)) l)

pub returns-clause-so_far : goal.returns-clause-so_far
returns-clause-so_far c =
    let j = c.args.journal.now.items in
    let js = c.swap.new.self.items in
    let ns = c.args.newest.now.items in
    let to = c.args.to in
    let x = c.index.result.now in
    let y = c.index_mut.result.now in
    let o : Old = record { place = y.place; bytes = y.bytes; earlier = c.index-before.result.now } in
    let d : Old = x in
    let came : y ≡ get_or j c.args.from y = c.index_mut.ensures.value ∙ (ap (λ (t : List Old). get_or t to y) c.swap.ensures.items ∙ comes_to j to c.args.from y c.requires.so_far.within c.requires.from) in
    let among : AreAmong (length ns) (get_or j c.args.from y ∷ drop (c.args.from + 1) j) = subst (AreAmong (length ns)) (drop_more j c.args.from y c.requires.from) c.requires.so_far.among in
    let below : piece_of o < length ns = subst (λ (t : Old). piece_of t < length ns) (sym came) among.0 in
    let same : x ≡ y = c.index.ensures ∙ (get_or_default j c.args.from x y c.requires.from ∙ sym came) in
    let which : piece_of o ≡ c.piece_of-piece.result = ap piece_of (sym same) ∙ sym c.piece_of-piece.ensures in
    let front : take to js ≡ take to j = ap (take to) c.swap.ensures.items ∙ front_stays j to c.args.from y c.requires.so_far.within c.requires.from in
    let long : length js ≡ length j = omega (arith, c.swap.ensures.len) in
    let whole : take (to + 1) (set js to o) ≡ take to j ++ o ∷ [] = take_more_set js to o (omega (arith, long, c.requires.so_far.within, c.requires.from)) ∙ ap (λ (t : List Old). t ++ o ∷ []) front in
    let count : suc (length (take to j)) ≡ to + 1 = omega (arith, length-take-le to j (omega (arith, c.requires.so_far.within, c.requires.from))) in
    record {
      within = omega (arith, c.requires.so_far.within);
      newest = subst (λ (t : List Old). AreNewest t (set ns c.piece_of-piece.result (to + 1))) (sym whole)
          (subst (λ (v : ℕ). AreNewest (take to j ++ o ∷ []) (set ns c.piece_of-piece.result v)) count
          (subst (λ (p : ℕ). AreNewest (take to j ++ o ∷ []) (set ns p (suc (length (take to j))))) which (newest_pushed (take to j) ns o c.requires.so_far.newest below)));
      among = grind (arith, common_steps);
    }
