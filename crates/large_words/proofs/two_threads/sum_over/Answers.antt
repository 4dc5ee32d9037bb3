use Rattle.std.proofs.Common.{◌≡◌, ℕ, ◌+◌, ◌*◌, List, ◌∷◌, length, ap, ◌∙◌, arith}
use Rattle.std.{specs.List.range_with_len, proofs.lemmas.List.FromFn.length-range_with_len}
use Rattle.large_words.specs.declared.layout.TheConstants.{MEBIBYTE}
use Rattle.large_words.proofs.two_threads.sum_over.Goals as goal

one_more : (cells : List ℕ) (n : ℕ) → cells ≡ 0 ∷ range_with_len 0 n → length cells ≡ n + 1
one_more cells n is = ap length is ∙ omega (arith, length-range_with_len 0 n)

pub add_in_place-requires-clause-size : goal.add_in_place-requires-clause-size
add_in_place-requires-clause-size g c = one_more c.in_ok-cells.cells.items (MEBIBYTE * c.args.mebibytes) c.in_ok-cells.ensures

pub sum_if_right-requires-clause-few : goal.sum_if_right-requires-clause-few
sum_if_right-requires-clause-few g c =
    let size : length c.as_slice.result.now ≡ MEBIBYTE * c.args.mebibytes + 1 = ap length c.as_slice.ensures.value ∙ c.in_ok-cells-2.ensures.count ∙ one_more c.in_ok-cells.cells.items (MEBIBYTE * c.args.mebibytes) c.in_ok-cells.ensures in
    omega (arith, c.requires.most)

pub returns-in-Some : goal.returns-in-Some
returns-in-Some g c = record {
  cells = c.as_slice.result.now;
  size = ap length c.as_slice.ensures.value ∙ c.in_ok-cells-2.ensures.count ∙ one_more c.in_ok-cells.cells.items (MEBIBYTE * c.args.mebibytes) c.in_ok-cells.ensures;
  added = c.in-Some.ensures.right;
  sum_is = c.in-Some.ensures.sum;
}
