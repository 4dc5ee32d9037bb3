-- What a transaction that is told of has done to the bytes.
use Rattle.std.specs.Prelude.{◌≡◌, ℕ, suc, ◌*◌, ◌<◌, ◌≤◌, if◌then◌else◌, Bool, List, length, Option, None, IsSome, slice_index_or, sum_by, unwrap_or}
use Rattle.itm_types.specs.Memory.{bytes_of}
use Rattle.shared_words.specs.declared.view.View.{View}
use Rattle.shared_words.specs.Good.{EndsWith}
use Rattle.shared_words.specs.Passes.{view_of}
use Rattle.call_rules.specs.Standing.{Standing}
use Rattle.call_rules.specs.Ties.{memory_of}
use Rattle.transactions.specs.declared.tried.Done.{Done}

-- the bytes that so many first commits have left
abbrev pub bytes_in : View → ℕ → List ℕ
bytes_in v n = bytes_of (memory_of v n)

abbrev pub bytes_at : Standing → ℕ → List ℕ
bytes_at t n = bytes_in (view_of t.pass) n

-- how many commits there are with the one that is told, if it wrote
abbrev pub commits_with : {R : Type 0} → Done R → ℕ
commits_with done = if done.wrote then suc done.at else done.at

-- at the position told, the bytes that the commits before have left go so; it tells that it has written just where such a value is to write
pub record HasLed {R : Type 0} (writes : R → Bool) (So : R → List ℕ → List ℕ → Type 0) (done : Done R) (new : Standing) : Type 0 where
  pub wrote_is : done.wrote ≡ writes done.value
  pub seen : commits_with done ≤ length (view_of new.pass).seen
  pub so : So done.value (bytes_at new done.at) (bytes_at new (commits_with done))

-- what all threads tell together
abbrev pub told_in_all : List (Option ℕ) → ℕ
told_in_all told = sum_by (λ (o : Option ℕ). unwrap_or o 0) told

-- each thread tells something
abbrev pub AllTell : List (Option ℕ) → Type 0
AllTell told = (k : ℕ) → k < length told → IsSome (slice_index_or told k None)

-- so many commits lead from the one bytes to the other
pub record HasCommitted (commits : ℕ) (old new : List ℕ) : Type 0 where
  pub whole : View
  pub bytes : bytes_of whole.base ≡ old
  pub ends : EndsWith whole (2 * commits) new
