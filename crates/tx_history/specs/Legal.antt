-- Which histories are legal: their committed attempts, run alone one after the other by position, give the replies that they tell and leave the memory that the end tells, and each other attempt is one alone on what so many first commits left.
use Rattle.std.specs.Prelude.{◌≡◌, ◌⊎◌, ℕ, ◌+◌, ◌*◌, ◌≤◌, Bool, true, false, not, ◌&&◌, nat_lt, All, List, [], ◌∷◌, ◌++◌, length, map}
use Rattle.itm_types.specs.declared.call.Props.{Props}
use Rattle.itm_types.specs.declared.call.Ran.{Ran}
use Rattle.itm_model.specs.State.{State}
use Rattle.itm_model.specs.Machine.{is_open, opened, undone}
use Rattle.itm_model.specs.Runs.{replies_through, state_through}
use Rattle.tx_attempts.specs.declared.attempt.Attempt.{Attempt}
use Rattle.tx_attempts.specs.declared.attempt.CallRecord.{CallRecord}
use Rattle.tx_attempts.specs.declared.attempt.Outcome.{Outcome}
use Rattle.tx_attempts.specs.declared.attempt.Outcome.TheVariants.{Committed, ReadOnly, Cancelled, Conflict, Full, NoMemory, Unfinished}
use Rattle.tx_attempts.specs.Attempts.{ClosedBy, calls_of, replies_of, alone, memory_after}
use Rattle.tx_attempts.specs.Counts.{one_where, count_at, count_committed}
use Rattle.tx_attempts.specs.Opacity.{AreRestarts}
use Rattle.tx_attempts.specs.Restarts.{breaks_of}
use Rattle.tx_history.specs.Versions.{depth_of}
use Rattle.tx_history.specs.declared.history.History.{History}

-- ## One attempt, alone on a memory, where `deepest` blocks may be open

-- an outermost block may begin with these properties
abbrev pub may_begin : Props → Bool
may_begin props = not (props.goes_irrevocable && props.no_irrevocable)

-- the plain state once so many of the first calls are made, with each block that ran again set to the arena that is told
abbrev pub state_at : ℕ → List ℕ → Attempt → List CallRecord → State
state_at deepest memory a calls = state_through deepest (breaks_of a.restarts) (opened memory a.arena a.props) (map (λ (e : CallRecord). e.call) calls)

-- What the outcome says of the plain state after the calls; of `readonly` also that the memory is as it was, and that the transaction was not irrevocable as it was to commit.
abbrev pub EndsIn : ℕ → Outcome → List ℕ → Attempt → State → Type 0
EndsIn deepest Committed memory a s = is_open s ≡ false
EndsIn deepest ReadOnly memory a s = (is_open s ≡ false) × (s.memory ≡ memory)
    × ((before : List CallRecord) (last : CallRecord) → a.calls.list ≡ before ++ last ∷ [] → (state_at deepest memory a before).irrevocable ≡ false)
EndsIn deepest Cancelled memory a s = is_open s ≡ false
EndsIn deepest Conflict memory a s = (is_open s ≡ true) × (s.irrevocable ≡ false)
EndsIn deepest Full memory a s = (is_open s ≡ true) × (s.irrevocable ≡ false)
EndsIn deepest NoMemory memory a s = (is_open s ≡ true) × (s.irrevocable ≡ false)
EndsIn deepest Unfinished memory a s = is_open s ≡ true

-- the actions that have run by an attempt's end: what was given up is rolled back
abbrev pub ran_alone : Outcome → State → List Ran
ran_alone Committed s = s.actions.ran
ran_alone ReadOnly s = s.actions.ran
ran_alone Cancelled s = s.actions.ran
ran_alone Conflict s = (undone s).actions.ran
ran_alone Full s = (undone s).actions.ran
ran_alone NoMemory s = (undone s).actions.ran
ran_alone Unfinished s = s.actions.ran

-- the attempt is what the plain machine does on these bytes
pub record IsAlone (deepest : ℕ) (memory : List ℕ) (a : Attempt) : Type 0 where
  pub props : may_begin a.props ≡ true
  pub replies : replies_of a ≡ replies_through deepest (breaks_of a.restarts) (opened memory a.arena a.props) (calls_of a)
  pub stays_open : (before : List CallRecord) (e : CallRecord) (rest : List CallRecord) → a.calls.list ≡ before ++ e ∷ rest → is_open (state_at deepest memory a before) ≡ true  -- no call stands after the block's end
  pub ends : EndsIn deepest a.outcome memory a (alone deepest memory a)
  pub closed : ClosedBy a.outcome a.calls.list
  pub ran : a.ran ≡ ran_alone a.outcome (alone deepest memory a)
  pub again : AreRestarts deepest a memory  -- only a block within another ran again, and none in an irrevocable transaction

-- ## A history

-- the bytes that so many first commits leave
abbrev pub memory_at : History → ℕ → List ℕ
memory_at h k = memory_after (depth_of h.version) h.memory h.attempts k

abbrev pub is_unfinished : Outcome → Bool
is_unfinished Committed = false
is_unfinished ReadOnly = false
is_unfinished Cancelled = false
is_unfinished Conflict = false
is_unfinished Full = false
is_unfinished NoMemory = false
is_unfinished Unfinished = true

-- the attempt has not ended, and its transaction is irrevocable: it holds the clock
abbrev pub is_holding : History → Attempt → Bool
is_holding h a = is_unfinished a.outcome && (alone (depth_of h.version) (memory_at h a.at) a).irrevocable

-- how many of these attempts hold the clock
abbrev pub count_holding : History → List Attempt → ℕ
count_holding h [] = 0
count_holding h (a ∷ rest) = one_where (is_holding h a) + count_holding h rest

-- the last line, where no thread holds the clock
pub record EndsFree (h : History) (n : ℕ) : Type 0 where
  pub clock : h.clock ≡ 2 * n
  pub bytes : h.bytes ≡ memory_at h n
  pub holding : count_holding h h.attempts ≡ 0

-- or one does: an attempt that has not ended, at the last position; of irrevocable ones there is none beside it
pub record EndsHeld (h : History) (n : ℕ) : Type 0 where
  pub clock : h.clock ≡ 2 * n + 1
  pub bytes : length h.bytes ≡ length h.memory
  pub holder : (before rest : List Attempt) × (a : Attempt) × (h.attempts ≡ before ++ a ∷ rest) × (a.outcome ≡ Unfinished) × (a.at ≡ n)
  pub holding : count_holding h h.attempts ≤ 1
  pub there : All (λ a. is_holding h a ≡ true → a.at ≡ n) h.attempts

-- The history is legal: with n committed attempts, each position below n is that of one of them, and no other attempt saw more than n commits.
pub record IsLegal (h : History) : Type 0 where
  pub positions : (k : ℕ) → count_at k h.attempts ≡ one_where (nat_lt k (count_committed h.attempts))
  pub others : All (λ a. a.at ≤ count_committed h.attempts) h.attempts
  pub alone : All (λ a. IsAlone (depth_of h.version) (memory_at h a.at) a) h.attempts
  pub final : EndsFree h (count_committed h.attempts) ⊎ EndsHeld h (count_committed h.attempts)
