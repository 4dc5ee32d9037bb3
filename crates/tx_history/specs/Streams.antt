-- A history that is written as its run goes: how its stream stands, and what a text leaves of that.
use Rattle.std.specs.Prelude.{◌≡◌, ℕ, List, ◌++◌, flat_map, Option, None, Some, OnOk, Result}
use Rattle.std.specs.Result.{result_err}
use Rattle.std.specs.Io.KnownBytes.{Appends, Keeps}
use Rattle.std.specs.declared.io.Error.{Error}
use Rattle.tx_attempts.specs.declared.attempt.Attempt.{Attempt}
use Rattle.tx_history.specs.declared.history.Version.{Version}
use Rattle.tx_history.specs.declared.page.Page.{Page}
use Rattle.tx_history.specs.Spelling.{IsCut}
use Rattle.tx_history.specs.Histories.{attempt_lines, first_lines}

-- the error of the write that failed, where one has
abbrev pub fault_of : {W : Type 0} → Page W → Option Error
fault_of s = s.error

-- what a stream is to its callers: what its writer holds, and its fault
pub record StreamState : Type 0 where
  pub written : Option (List ℕ)
  pub fault : Option Error

abbrev pub stream_state : {W : Type 0} → (W → Option (List ℕ)) → Page W → StreamState
stream_state contents s = record { written = contents s.writer.now; fault = fault_of s }

-- the reference through which it writes
abbrev pub lent : {W : Type 0} → Page W → ℕ
lent s = s.writer.ghost_name

-- by the fault before and the fault now: the text is written; a beginning of it is, and not all; or one had failed before, then it is the same one and nothing is written
abbrev pub Leaves : Option Error → Option Error → Option (List ℕ) → Option (List ℕ) → List ℕ → Type 0
Leaves None None old new text = Appends old new text
Leaves None (Some fault) old new text = IsCut old new text
Leaves (Some first) None old new text = ⊥
Leaves (Some first) (Some fault) old new text = (fault ≡ first) × Keeps old new

-- The text is written, and no write has failed; or a write has, and what is written is a beginning of the text and not all of it. A stream that had failed before stays as it was. So texts may follow one another: what two leave after one another is what the one text of both leaves.
unfoldable pub Adds : StreamState → StreamState → List ℕ → Type 0
Adds old new text = Leaves old.fault new.fault old.written new.written text

-- A call writes the text to the stream, and answers the error of the write that failed, if one has; else what the text tells are numbers and bytes of their types. The stream's writer is the one that it was.
pub record Sends {W A : Type 0} (contents : W → Option (List ℕ)) (old new : Page W) (text : List ℕ) (typed : Type 0) (result : Result A Error) : Type 0 where
  pub same : lent new ≡ lent old
  pub adds : Adds (stream_state contents old) (stream_state contents new) text
  pub answer : fault_of new ≡ result_err result
  pub fits : OnOk result typed

-- a history so far: the lines before the first attempt, and those of the attempts that there are
abbrev pub lines_so_far : Version → List ℕ → List Attempt → List ℕ
lines_so_far version memory attempts = first_lines version memory ++ flat_map attempt_lines attempts
