-- What an engine has seen of the memories that the commits left.
use Rattle.std.specs.Prelude.{◌≡◌, ℕ, ◌/◌, ◌%◌, true, false, List, length, slice_get}
use Rattle.itm_types.specs.Memory.{Agrees}
use Rattle.norec_core.specs.Core.{Core, in_transaction}
use Rattle.norec_core.specs.Proceeds.{backed, Got}
use Rattle.norec_core.specs.Rows.{write_at}
use Rattle.world_rules.specs.Cells.{Cells}
use Rattle.world_rules.specs.Rows.{Rows}
use Rattle.world_rules.specs.Headline.{AreCounted}
use Rattle.world_rules.specs.Memories.{AreMemories, words_at}

-- what it loaded since its last look at the clock is of the last memory, if the clock is still the same; as a write set is stored, the words are that memory with the rows that the holder has stored
pub record Loaded (memory : ℕ → List ℕ) (cells : Cells) (e : Core) : Type 0 where
  pub fresh : cells.clock % 2 ≡ 0 → e.clock ≡ cells.clock → e.holds ≡ false → Agrees (memory (cells.clock / 2)) e.fresh
  pub held : e.holds ≡ true → e.irrevocable ≡ false → cells.words ≡ backed e (memory (cells.clock / 2))
  pub got : e.holds ≡ true → e.irrevocable ≡ false → Got e.got (slice_get cells.words (write_at e.writes e.done).word)

-- and its log is of the memory of its snapshot
pub record Sees (memory : ℕ → List ℕ) (cells : Cells) (e : Core) : Type 0 where
  pub loaded : Loaded memory cells e
  pub logged : in_transaction e ≡ true → Agrees (memory (e.snapshot / 2)) e.log

-- the words are those that the commits left, where nobody holds the clock
pub record AreLaid (deepest : ℕ) (base : List ℕ) (cells : Cells) (r : Rows) : Type 0 where
  pub counted : AreCounted cells.clock r.ended
  pub memories : AreMemories (length cells.words) deepest base r.ended (cells.clock / 2)
  pub free : cells.clock % 2 ≡ 0 → cells.words ≡ words_at deepest base r.ended (cells.clock / 2)
