-- The text of a picture: SVG, in which an event is one unit wide, and a lane ten high.
use Rattle.std.specs.Prelude.{ℕ, ◌+◌, ◌-◌, ◌%◌, ◌==◌, if◌then◌else◌, List, [], ◌++◌, length, decimal, codes, slice_get, Option, None, Some}
use Rattle.picture_parts.specs.Lanes.{lane_in, lanes_text}
use Rattle.picture_parts.specs.Looks.{front_text, look_text}
use Rattle.picture_parts.specs.Texts.{first_texts}
use Rattle.step_picture.specs.declared.mark.Came.{Came}
use Rattle.step_picture.specs.declared.mark.Came.TheVariants.{GoesOn, Begun, NotBegun, Replied, Restarted, Ended}
use Rattle.step_picture.specs.declared.mark.Mark.{Mark}
use Rattle.step_picture.specs.Shapes.{shape_of}
use Rattle.step_picture.specs.Styles.{looks_text}
use Rattle.step_picture.specs.Walks.{back_in, begun_in, known_in}
use Rattle.step_table.specs.Came.{end_text}
use Rattle.step_table.specs.Table.{operation_text}

-- ## An attempt

-- a bar from the one place to the other, with these words
unfoldable pub bar_front : ℕ → ℕ → ℕ → List ℕ → List ℕ
bar_front from to lane look =
    codes "<g transform=\"translate(" ++ decimal from ++ codes " " ++ decimal lane ++ codes "0)\"><rect class=\"" ++ look ++ codes "\" width=\"" ++ decimal (to + 1 - from)
    ++ codes "\" height=\"1.3\" rx=\".2\"/><text x=\".1\" y=\".85\">"

abbrev pub bar_text : ℕ → ℕ → ℕ → List ℕ → List ℕ → List ℕ
bar_text from to lane look words = bar_front from to lane look ++ words ++ codes "</text></g>\n"

-- where the attempt began that was open before the event at this place, or by it
abbrev pub start_of : List Mark → ℕ → Mark → ℕ
start_of marks i m = if m.in_attempt then begun_in marks m.event.thread i else i

-- the bar of the attempt that ended with the event at this place; none, where none did
unfoldable pub ended_bar : List Mark → ℕ → ℕ → Mark → Came → List ℕ
ended_bar marks i lane m GoesOn = []
ended_bar marks i lane m Begun = []
ended_bar marks i lane m NotBegun = []
ended_bar marks i lane m Replied = []
ended_bar marks i lane m (Restarted kept) = []
ended_bar marks i lane m (Ended outcome at) = bar_text (start_of marks i m) i lane (look_text outcome) (end_text m.event.operation.step at outcome)

-- ## An event

-- its shape and its operation
unfoldable pub event_front : ℕ → ℕ → List ℕ → List ℕ
event_front i lane shape =
    codes "<g transform=\"translate(" ++ decimal i ++ codes " " ++ decimal lane ++ codes "0)\"><use href=\"#" ++ shape ++ codes "\"/><text transform=\"translate(.3 3.6)rotate(90)\">"

abbrev pub event_text : ℕ → ℕ → List ℕ → List ℕ → List ℕ
event_text i lane shape words = event_front i lane shape ++ words ++ codes "</text></g>\n"

-- the way back of a block that runs again, to behind the event at the other place
unfoldable pub back_text : ℕ → ℕ → ℕ → List ℕ
back_text i lane back =
    codes "<g transform=\"translate(0 " ++ decimal lane ++ codes "0)\"><path d=\"M" ++ decimal i ++ codes ".5 2.5V2.1H" ++ decimal (back + 1)
    ++ codes "v.4m-.15-.2l.15.2l.15-.2\"/><text text-anchor=\"end\" x=\"" ++ decimal i ++ codes ".5\" y=\"1.9\">restarted</text></g>\n"

unfoldable pub restart_text : List Mark → ℕ → ℕ → Mark → Came → List ℕ
restart_text marks i lane m GoesOn = []
restart_text marks i lane m Begun = []
restart_text marks i lane m NotBegun = []
restart_text marks i lane m Replied = []
restart_text marks i lane m (Restarted kept) = back_text i lane (back_in marks m.event.thread kept i i)
restart_text marks i lane m (Ended outcome at) = []

-- a clock is held where it is odd
abbrev pub clock_look : ℕ → List ℕ
clock_look clock = if clock % 2 == 1 then codes "held" else codes "clear"

-- the clock after it, and its number
unfoldable pub clock_text : ℕ → ℕ → ℕ → ℕ → List ℕ
clock_text i lanes clock number =
    codes "<g transform=\"translate(" ++ decimal i ++ codes " " ++ decimal lanes ++ codes "0)\"><rect class=\"" ++ clock_look clock
    ++ codes "\" width=\"1\" height=\"1\"/><text class=\"note\" x=\".5\" y=\".7\">" ++ decimal clock
    ++ codes "</text><text class=\"note\" x=\".5\" y=\"2.2\">" ++ decimal number ++ codes "</text></g>\n"

-- all of it, of so many lanes in this one
unfoldable pub mark_in : ℕ → ℕ → List Mark → ℕ → Mark → List ℕ
mark_in lanes lane marks i m =
    ended_bar marks i lane m m.came
    ++ event_text i lane (shape_of m.event.operation.step m.event.operation.found (known_in marks m.event.thread i)) (operation_text m.event.operation)
    ++ (restart_text marks i lane m m.came ++ clock_text i lanes m.event.clock m.event.number)

abbrev pub mark_text : List ℕ → List Mark → ℕ → Mark → List ℕ
mark_text columns marks i m = mark_in (length columns) (lane_in columns m.event.thread (length columns)) marks i m

abbrev pub mark_at : List ℕ → List Mark → ℕ → Option Mark → List ℕ
mark_at columns marks i None = []
mark_at columns marks i (Some m) = mark_text columns marks i m

-- ## The whole

abbrev pub head_text : ℕ → ℕ → List ℕ
head_text wide lanes = front_text wide lanes ++ looks_text

unfoldable pub foot_text : ℕ → List ℕ
foot_text lanes =
    codes "<g transform=\"translate(0 " ++ decimal lanes ++ codes "0)\"><text x=\"-4.7\" y=\".7\">clock</text><text x=\"-4.7\" y=\"2.2\">event</text></g>\n</svg>\n"

abbrev pub marks_text : List ℕ → List Mark → List ℕ
marks_text columns marks = first_texts (λ i. mark_at columns marks i (slice_get marks i)) (length marks)

-- the picture of these events, with a lane for each of these threads
abbrev pub picture_text : List ℕ → List Mark → List ℕ
picture_text columns marks = head_text (length marks + 6) (length columns) ++ (lanes_text columns (length marks) ++ marks_text columns marks ++ foot_text (length columns))
