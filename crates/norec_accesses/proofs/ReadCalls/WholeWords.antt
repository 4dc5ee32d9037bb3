-- A read of one whole word.
use Rattle.std.proofs.Common.{◌≡◌, ℕ, ◌+◌, ◌*◌, ◌/◌, ◌%◌, ◌<◌, List, Some, slice_get, sym, ◌∙◌, arith}
use Rattle.norec_accesses.proofs.Common.{IsWord, Reading, bytes_of, count, count_of, slice, to_le_bytes, w64, word-bytes_of, word_of}

module _ (r : Reading) (word : ℕ) (is : IsWord r word) where
  pub one_piece : count r ≡ 1
  one_piece =
      let one : (8 * word % 8 + 8 + 7) / 8 ≡ 1 = omega arith in
      (λ i. count_of (is.at_is i) (is.size_is i)) ∙ one

  pub word_is : r.number < count r → word ≡ word_of r
  word_is some = omega (arith, is.at_is, some, one_piece)

  -- its bytes are those of the memory there
  pub bytes_there : (m : List ℕ) (value : ℕ) → slice_get m word ≡ Some value → to_le_bytes w64 value ≡ slice (bytes_of m) r.at r.size
  bytes_there m value there =
      let at : word * 8 ≡ r.at = omega (arith, is.at_is) in
      sym (word-bytes_of m word value there) ∙ (λ i. slice (bytes_of m) (at i) (sym is.size_is i))
