-- How a call is over where no step is left: by a reply, which is the plain machine's, or by the end of its transaction, of its try or of what its block did.
use Rattle.std.specs.Prelude.{◌≡◌, ℕ, ◌/◌, ◌%◌, ◌==◌, true, false, if◌then◌else◌, length, Option, None, Some}
use Rattle.itm_types.specs.declared.call.Call.{Call}
use Rattle.itm_types.specs.declared.call.Call.TheVariants as calls
use Rattle.norec_core.specs.declared.answer.Answer.{Answer}
use Rattle.norec_core.specs.declared.answer.Answer.TheVariants.{Reply, Committed, Conflict, Restarted, Busy, Full}
use Rattle.norec_core.specs.declared.answer.Next.{Next}
use Rattle.norec_core.specs.declared.answer.Next.TheVariants.{Step as Asks, Answer as Answers}
use Rattle.norec_core.specs.Aims.{Aim}
use Rattle.norec_core.specs.Aims as aims
use Rattle.norec_core.specs.Phases.{Phase}
use Rattle.norec_core.specs.Phases.{Begin, Take, Confirm, RoundStart, RoundRow, RoundEnd, RoundBack, Exchange, Free}
use Rattle.norec_core.specs.Rows.{row_at}
use Rattle.norec_core.specs.Core.{Core, irrevocable_room, in_transaction, is_outermost}

-- once a round has succeeded: who is to take the clock finds as many done as may be
abbrev pub aimed_ending : Aim → ℕ → Option Answer
aimed_ending (aims.Read r) seen = None
aimed_ending (aims.Take taking) seen = Some (Full (seen / 2))

-- the end that comes of the value found, by where the call stands; where there is none, the call is replied to
abbrev pub ending_from : Core → Phase → ℕ → Option Answer
ending_from c (Begin b) seen = if seen % 2 == 0 then (if b.props.goes_irrevocable then Some (Full (seen / 2)) else None) else Some (Busy seen)
ending_from c (Take b) seen = if seen == c.snapshot then None else Some (Conflict seen None)
ending_from c (Confirm r value) seen = if seen == c.snapshot then None else Some (Conflict seen None)
ending_from c (RoundStart aim) seen = Some (Conflict seen None)
ending_from c (RoundRow aim row) seen = Some (Conflict c.clock (Some (row_at c.log row).word))
ending_from c (RoundEnd aim) seen = if seen == c.clock then aimed_ending aim seen else Some (Conflict seen None)
ending_from c (RoundBack aim row) seen = if seen == c.clock then Some (Restarted seen (row_at c.log row).word) else Some (Conflict seen None)
ending_from c (Exchange taking) seen = if seen == c.snapshot then None else Some (Conflict seen None)
ending_from c Free seen = Some (Committed (c.snapshot / 2) true)
ending_from c _ seen = None

abbrev pub ending_after : Core → ℕ → Option Answer
ending_after c seen = ending_from c c.stage seen

-- the end that comes of a commit with no step: it has nothing to write, or as many are done as may be
abbrev pub commit_ending : Core → Option Answer
commit_ending c = if length c.writes == 0 then Some (Committed (c.snapshot / 2) false) else Some (Full (c.snapshot / 2))

-- and of a call that is to make the transaction irrevocable
abbrev pub going_ending : Core → Option ℕ → Option Answer
going_ending c None = None
going_ending c (Some room) = Some (Full (c.snapshot / 2))

-- and of any call
abbrev pub ending_at : Core → Call → Option Answer
ending_at c (calls.Begin props room) = if in_transaction c then going_ending c (irrevocable_room c (calls.Begin props room)) else None
ending_at c calls.Commit = if is_outermost c.blocks then commit_ending c else None
ending_at c (calls.Abort outer) = None
ending_at c (calls.Mode room) = going_ending c (irrevocable_room c (calls.Mode room))
ending_at c calls.InTransaction = None
ending_at c (calls.Read hint width at) = None
ending_at c (calls.Write hint at value) = None
ending_at c (calls.Log width at) = None
ending_at c (calls.LogBytes at size) = None
ending_at c (calls.Copy k) = None
ending_at c (calls.Fill hint to byte size) = None
ending_at c (calls.CommitAction action) = None
ending_at c (calls.UndoAction action) = None
ending_at c (calls.Load width at) = None
ending_at c (calls.Save at value) = None

-- the answer is this end, or, where there is none, a reply
abbrev pub IsEnding : Option Answer → Answer → Type 0
IsEnding None (Reply r) = Unit {0}
IsEnding None _ = ⊥
IsEnding (Some end) a = a ≡ end

-- if the call is over, it is so by this end
abbrev pub EndsSo : Option Answer → Next → Type 0
EndsSo end (Asks step) = Unit {0}
EndsSo end (Answers a) = IsEnding end a
