use Rattle.std.proofs.Common.{◌≡◌, ℕ, ◌+◌, ◌*◌, ◌^◌, ◌<◌, ◌≤◌, take, drop, sum, slice_index}
use Rattle.large_words.specs.Layout.{added_to}
use Rattle.large_words.proofs.memory.sum_if_right.Given as goal

-- no word holds 2 ^ 32
abbrev pub invariant-loop-word : goal.invariant-loop-word
invariant-loop-word l = record {
  sum : l.sum ≡ sum (take l.word (drop 1 l.cells));
  few : l.sum ≤ 2 ^ 32 * l.word;
  right : (word : ℕ) → word < l.word → slice_index l.cells (word + 1) ≡ word + added_to l.words word;
}
