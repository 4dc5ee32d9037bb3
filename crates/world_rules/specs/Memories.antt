-- The memories that the commits left, as words.
use Rattle.std.specs.Prelude.{◌≡◌, ℕ, ◌≤◌, List}
use Rattle.itm_types.specs.Memory.{bytes_of, words_of, IsMemory}
use Rattle.tx_attempts.specs.declared.attempt.Attempt.{Attempt}
use Rattle.world_rules.specs.Headline.{bytes_at}

-- the words of the bytes that the first commits left
abbrev pub words_at : ℕ → List ℕ → List Attempt → ℕ → List ℕ
words_at deepest base attempts k = words_of (bytes_at deepest base attempts k)

-- each of them, up to the last one, is a memory of so many words
pub record AreMemories (words deepest : ℕ) (base : List ℕ) (attempts : List Attempt) (last : ℕ) : Type 0 where
  pub fits : (k : ℕ) → k ≤ last → IsMemory words (words_at deepest base attempts k)
  pub same : (k : ℕ) → k ≤ last → bytes_of (words_at deepest base attempts k) ≡ bytes_at deepest base attempts k
