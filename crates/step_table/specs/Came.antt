-- What came of an event, in words.
use Rattle.std.specs.Prelude.{ℕ, ◌*◌, ◌-◌, ◌==◌, Bool, true, false, nat_lt, if◌then◌else◌, List, [], ◌∷◌, ◌++◌, decimal, codes, slice_get, Option, None, Some}
use Rattle.itm_types.specs.declared.step.Step.{Step}
use Rattle.itm_types.specs.declared.step.Step.TheVariants.{Load, Store, Cas}
use Rattle.tx_attempts.specs.declared.attempt.Attempt.{Attempt}
use Rattle.tx_attempts.specs.declared.attempt.CallRecord.{CallRecord}
use Rattle.tx_attempts.specs.declared.attempt.Outcome.{Outcome}
use Rattle.tx_attempts.specs.declared.attempt.Outcome.TheVariants.{Committed, ReadOnly, Cancelled, Conflict, Full, NoMemory, Unfinished}
use Rattle.tx_history.specs.Histories.{reply_text}
use Rattle.tx_runs.specs.declared.ending.End.{End}
use Rattle.tx_runs.specs.declared.ending.End.TheVariants as ends

-- where an operation found a conflict: at the word that it loaded
unfoldable pub conflict_text : Step → List ℕ
conflict_text (Load cell) = if cell == 0 then codes "conflict" else codes "conflict at [" ++ decimal (8 * (cell - 1)) ++ codes "]"
conflict_text (Store cell value) = codes "conflict"
conflict_text (Cas cell from to) = codes "conflict"

-- an attempt that ended so, at this position, by an event with this operation
unfoldable pub end_text : Step → ℕ → Outcome → List ℕ
end_text step at Committed = codes "committed at " ++ decimal at
end_text step at ReadOnly = codes "readonly"
end_text step at Cancelled = codes "cancelled"
end_text step at Conflict = conflict_text step
end_text step at Full = codes "full"
end_text step at NoMemory = codes "no memory"
end_text step at Unfinished = codes "unfinished"

abbrev pub ended_text : Step → Attempt → List ℕ
ended_text step a = end_text step a.at a.outcome

-- the reply of a call
abbrev pub replied_text : Option CallRecord → List ℕ
replied_text None = []
replied_text (Some call) = reply_text call.reply

-- What came of a call to an attempt that goes on, of which so many calls had a reply before it and so many have one once its operation is done: its reply; or, where no call more has one, its block has gone back to its begin.
unfoldable pub answer_text : ℕ → ℕ → Attempt → List ℕ
answer_text had calls a = if nat_lt had calls then replied_text (slice_get a.calls.list had) else codes "restarted"

-- what came of a call that ended no attempt: where none was open, a begin opened one, or did not
unfoldable pub open_text : Option ℕ → ℕ → Option Attempt → List ℕ
open_text had calls None = codes "not begun"
open_text None calls (Some a) = codes "begun at " ++ decimal a.at
open_text (Some had) calls (Some a) = answer_text had calls a

-- what came of a call that is over, by the attempts that ended with it and the one that is open
abbrev pub call_text : Step → Option ℕ → ℕ → List Attempt → Option Attempt → List ℕ
call_text step had calls [] active = open_text had calls active
call_text step had calls (a ∷ more) active = ended_text step a

-- a thread that has given up or found no memory
unfoldable pub ending_text : Option End → List ℕ
ending_text None = codes ""
ending_text (Some ends.Finished) = codes ""
ending_text (Some ends.GaveUp) = codes ", gave up"
ending_text (Some ends.NoMemory) = codes ", found no memory"

-- what came of an event: nothing, where its call goes on
abbrev pub came_text : Step → Bool → Option ℕ → ℕ → List Attempt → Option Attempt → Option End → List ℕ
came_text step true had calls ended active ending = []
came_text step false had calls ended active ending = codes " | " ++ call_text step had calls ended active ++ ending_text ending
