-- What a pass's view and an engine have in common.
use Rattle.std.specs.Prelude.{◌≡◌, ℕ, suc, ◌/◌, ◌≤◌, true, false, List, length, slice_get, None}
use Rattle.itm_types.specs.Memory.{Agrees}
use Rattle.shared_words.specs.declared.view.View.{View}
use Rattle.shared_words.specs.Commits.{after, memory_at, Stand}
use Rattle.shared_words.specs.Views.{held_words}
use Rattle.shared_words.specs.Passes.{IsOver}
use Rattle.norec_core.specs.Core.{Core, in_transaction}
use Rattle.norec_core.specs.Proceeds.{backed, Got, IsSettled}
use Rattle.norec_core.specs.Rows.{write_at}

-- the memory after the first k commits that were seen
abbrev pub memory_of : View → ℕ → List ℕ
memory_of v k = memory_at v.base v.seen k

-- the clock handed in last is the one that was seen last
pub record Follows (v : View) (e : Core) : Type 0 where
  pub clock : v.clock ≡ e.clock
  pub count : length v.seen ≡ e.clock / 2

-- what the engine loaded since then, the view has too
abbrev pub IsFresh : View → Core → Type 0
IsFresh v e = (m : List ℕ) → length m ≡ e.words → Stand m v.fresh → Agrees m e.fresh

-- the clock is held by a transaction that is not irrevocable yet, and the rows so far are stored
pub record IsHolding (v : View) (e : Core) : Type 0 where
  pub laid : held_words v ≡ backed e (after v.base v.seen)
  pub got : Got e.got (slice_get (held_words v) (write_at e.writes e.done).word)

-- between two steps
pub record IsTied (v : View) (e : Core) : Type 0 where
  pub over : IsOver (suc e.words) v
  pub holds : v.holds ≡ e.holds
  pub behind : e.clock ≤ v.clock
  pub known : e.clock / 2 ≤ length v.seen
  pub clocks : in_transaction e ≡ true → Follows v e
  pub fresh : IsFresh v e
  pub logged : in_transaction e ≡ true → Agrees (memory_of v (e.snapshot / 2)) e.log
  pub holding : e.holds ≡ true → e.irrevocable ≡ false → IsHolding v e
  pub settled : IsSettled e

-- an open transaction between two calls: its snapshot is the clock that was seen last, and the memory after all commits that were seen agrees with its log
pub record Reads (v : View) (e : Core) : Type 0 where
  pub clock : v.clock ≡ e.snapshot
  pub count : length v.seen ≡ e.snapshot / 2
  pub agrees : Agrees (memory_of v (e.snapshot / 2)) e.log

-- between two calls: the clock is held just where the transaction is irrevocable
pub record Stands (v : View) (e : Core) : Type 0 where
  pub over : IsOver (suc e.words) v
  pub holds : v.holds ≡ e.holds
  pub mode : e.holds ≡ e.irrevocable
  pub waits : e.waits ≡ None
  pub behind : e.clock ≤ v.clock
  pub known : e.clock / 2 ≤ length v.seen
  pub settled : IsSettled e
  pub reads : in_transaction e ≡ true → Reads v e
