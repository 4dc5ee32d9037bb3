-- What is drawn of the events of a run.
use Rattle.std.specs.Prelude.{ℕ, nat_lt, length, Bool, true, false, if◌then◌else◌, List, [], ◌∷◌, flat_map, Option, None, Some, is_some}
use Rattle.tx_attempts.specs.declared.attempt.Attempt.{Attempt}
use Rattle.step_table.specs.declared.view.View.{View}
use Rattle.step_table.specs.Rows.{Row}
use Rattle.step_table.specs.Table.{shows}
use Rattle.step_picture.specs.declared.mark.Came.{Came}
use Rattle.step_picture.specs.declared.mark.Came.TheVariants.{GoesOn, Begun, NotBegun, Replied, Restarted, Ended}
use Rattle.step_picture.specs.declared.mark.Mark.{Mark}

-- what came of a call that ended no attempt: where none was open, a begin opened one, or did not; else it has its reply, or, where no call more has one, its block runs again
abbrev pub open_came : Option ℕ → ℕ → Option Attempt → Came
open_came had calls None = NotBegun
open_came None calls (Some a) = Begun
open_came (Some had) calls (Some a) = if nat_lt had calls then Replied else Restarted calls

-- what came of a call that is over, by the attempts that ended with it and the one that is open
abbrev pub call_came : Option ℕ → ℕ → List Attempt → Option Attempt → Came
call_came had calls [] active = open_came had calls active
call_came had calls (a ∷ more) active = Ended a.outcome a.at

abbrev pub came_of : Bool → Option ℕ → ℕ → List Attempt → Option Attempt → Came
came_of true had calls ended active = GoesOn
came_of false had calls ended active = call_came had calls ended active

-- how many calls of the open attempt have a reply
abbrev pub calls_after : Option Attempt → ℕ
calls_after None = 0
calls_after (Some a) = length a.calls.list

abbrev pub mark_of : Row → Mark
mark_of row = record {
  event = row.event;
  in_attempt = is_some row.had;
  calls = calls_after row.active;
  came = came_of row.goes_on row.had row.calls row.ended row.active;
}

-- of an event that is shown; of another one nothing is drawn
abbrev pub kept : View → Mark → List Mark
kept view mark = if shows view mark.event then mark ∷ [] else []

abbrev pub marks_in : View → Row → List Mark
marks_in view row = kept view (mark_of row)

abbrev pub marks_of : View → List Row → List Mark
marks_of view rows = flat_map (marks_in view) rows
