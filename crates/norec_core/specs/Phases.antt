-- Where a call in progress stands.
use Rattle.std.specs.Prelude.{ℕ, Option}
use Rattle.norec_core.specs.declared.call_parts.Opening.{Opening}
use Rattle.norec_core.specs.declared.call_parts.Reading.{Reading}
use Rattle.norec_core.specs.declared.call_parts.Taking.{Taking}
use Rattle.norec_core.specs.declared.call_parts.Writing.{Writing}
use Rattle.norec_core.specs.Aims.{Aim}

-- what it waits for
pub data Phase : Type 0 where
  Idle : Phase  -- nothing: no call is in progress
  Begin : Opening → Phase  -- the clock, for a begin
  Take : Opening → Phase  -- the exchange that takes the clock for a begin that goes irrevocable
  Load : Reading → Phase  -- the word of the read's piece
  Confirm : Reading → ℕ → Phase  -- the clock, to confirm this value of the word
  RoundStart : Aim → Phase  -- the clock, at the start of a round
  RoundRow : Aim → ℕ → Phase  -- the word of this row of the value log
  RoundEnd : Aim → Phase  -- the clock, at the end of a round
  RoundBack : Aim → ℕ → Phase  -- the clock, once this row was found different, which the innermost block has added: does that block go back to its begin
  Exchange : Taking → Phase  -- the exchange that takes the clock
  BackLoad : Taking → ℕ → Phase  -- the word of this row of the write set, which has a part of it
  Store : Taking → ℕ → Option ℕ → Phase  -- the store of this row of the write set, into this word where the row has a part of it
  Free : Phase  -- the store that frees the clock
  Fetch : Writing → Phase  -- in an irrevocable transaction, the word of this piece, which has a part of it
  Place : Writing → Option ℕ → Phase  -- in an irrevocable transaction, the store of this piece, into this word where it has a part of it
