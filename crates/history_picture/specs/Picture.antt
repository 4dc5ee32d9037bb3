-- The text of a history's picture: SVG, in which an attempt is one unit wide, and a lane ten high.
use Rattle.std.specs.Prelude.{◌≡◌, ℕ, ◌+◌, ◌==◌, max, Bool, false, if◌then◌else◌, List, [], ◌++◌, length, decimal, codes, slice_get, Option, None, Some}
use Rattle.history_picture.specs.declared.note.Judgement.{Judgement}
use Rattle.history_picture.specs.declared.note.Judgement.TheVariants.{Legal, Bad}
use Rattle.history_picture.specs.declared.note.Note.{Note}
use Rattle.history_picture.specs.declared.seats.Seat.{Seat}
use Rattle.history_picture.specs.Columns.{columns_of}
use Rattle.history_picture.specs.Seats.{InOrder}
use Rattle.itm_types.specs.declared.call.Reply.{Reply}
use Rattle.picture_parts.specs.Lanes.{lane_in, lanes_text}
use Rattle.picture_parts.specs.Looks.{colours_text, front_text, look_text, style_text}
use Rattle.picture_parts.specs.Texts.{first_texts}
use Rattle.tx_attempts.specs.Attempts.{is_committed}
use Rattle.tx_attempts.specs.declared.attempt.Attempt.{Attempt}
use Rattle.tx_attempts.specs.declared.attempt.CallRecord.{CallRecord}
use Rattle.tx_attempts.specs.declared.attempt.Outcome.{Outcome}
use Rattle.tx_history.specs.declared.history.History.{History}
use Rattle.tx_history.specs.Histories.{attempt_lines, body_text, outcome_name, reply_text}

-- ## An attempt

unfoldable pub bar_front : ℕ → ℕ → List ℕ
bar_front i lane = codes "<g transform=\"translate(" ++ decimal i ++ codes " " ++ decimal lane ++ codes "0)\"><title>"

unfoldable pub bar_back : Attempt → List ℕ
bar_back a =
    codes "</title><rect class=\"" ++ look_text a.outcome ++ codes "\" width=\"1\" height=\"9\" rx=\".2\"/><text transform=\"translate(.3 .4)rotate(90)\">try " ++ decimal a.nth
    ++ codes ": " ++ outcome_name a.outcome ++ codes "</text></g>\n"

-- its bar, which shows its lines of the history where it is pointed at
abbrev pub bar_text : ℕ → ℕ → Attempt → List ℕ
bar_text i lane a = bar_front i lane ++ attempt_lines a ++ bar_back a

-- the mark of one that is wrong
unfoldable pub flaw_text : ℕ → ℕ → List ℕ
flaw_text i lane =
    codes "<g transform=\"translate(" ++ decimal i ++ codes " " ++ decimal lane
    ++ codes "0)\"><rect class=\"bad\" width=\"1\" height=\"9\" rx=\".2\"/><text class=\"note\" x=\".5\" y=\"9.8\">bad</text></g>\n"

abbrev pub is_flawed : Option ℕ → ℕ → Bool
is_flawed None place = false
is_flawed (Some flawed) place = flawed == place

unfoldable pub mark_text : Option ℕ → ℕ → ℕ → ℕ → List ℕ
mark_text flawed place i lane = if is_flawed flawed place then flaw_text i lane else []

-- a commit is grey
abbrev pub cell_look : Outcome → List ℕ
cell_look outcome = if is_committed outcome then codes "held" else codes "clear"

-- below the lanes: how many commits it saw, and which attempt of the text it is
unfoldable pub cell_text : ℕ → ℕ → ℕ → Attempt → List ℕ
cell_text i lanes place a =
    codes "<g transform=\"translate(" ++ decimal i ++ codes " " ++ decimal lanes ++ codes "0)\"><rect class=\"" ++ cell_look a.outcome
    ++ codes "\" width=\"1\" height=\"1\"/><text class=\"note\" x=\".5\" y=\".7\">" ++ decimal a.at
    ++ codes "</text><text class=\"note\" x=\".5\" y=\"2.2\">" ++ decimal place ++ codes "</text></g>\n"

-- all of it, of so many lanes in this one
abbrev pub seat_in : ℕ → ℕ → Option ℕ → ℕ → ℕ → Attempt → List ℕ
seat_in lanes lane flawed i place a = bar_text i lane a ++ (mark_text flawed place i lane ++ cell_text i lanes place a)

abbrev pub seat_with : List ℕ → Option ℕ → ℕ → ℕ → Option Attempt → List ℕ
seat_with columns flawed i place None = []
seat_with columns flawed i place (Some a) = seat_in (length columns) (lane_in columns a.thread (length columns)) flawed i place a

abbrev pub seat_at : List Attempt → List ℕ → Option ℕ → ℕ → Option Seat → List ℕ
seat_at attempts columns flawed i None = []
seat_at attempts columns flawed i (Some seat) = seat_with columns flawed i seat.place (slice_get attempts seat.place)

abbrev pub seats_text : List Attempt → List ℕ → Option ℕ → List Seat → List ℕ
seats_text attempts columns flawed seats = first_texts (λ i. seat_at attempts columns flawed i (slice_get seats i)) (length seats)

-- ## What is said of it

unfoldable pub judgement_text : Judgement → List ℕ
judgement_text Legal = codes "legal"
judgement_text (Bad row kind) = codes "bad " ++ decimal row ++ codes " " ++ kind.now

-- the call that is wrong, with the reply that is told
abbrev pub call_in : Option Attempt → Option ℕ → Option CallRecord
call_in None call = None
call_in (Some a) None = None
call_in (Some a) (Some j) = slice_get a.calls.list j

abbrev pub call_at : List Attempt → Option ℕ → Option ℕ → Option CallRecord
call_at attempts None call = None
call_at attempts (Some place) call = call_in (slice_get attempts place) call

-- it, and the reply that the plain machine gives
unfoldable pub told_text : CallRecord → List ℕ
told_text e = codes ": " ++ (body_text e.call ++ (codes " = " ++ reply_text e.reply))

unfoldable pub machine_text : Reply → List ℕ
machine_text r = codes "; the plain machine answers " ++ reply_text r

abbrev pub call_text : Option CallRecord → List ℕ
call_text None = []
call_text (Some e) = told_text e

abbrev pub answer_text : Option Reply → List ℕ
answer_text None = []
answer_text (Some r) = machine_text r

abbrev pub note_text : List Attempt → Note → List ℕ
note_text attempts n = judgement_text n.judgement ++ call_text (call_at attempts n.flawed n.call) ++ answer_text n.answer

-- ## The whole

-- how the mark of what is wrong looks, and the page
unfoldable pub page_text : List ℕ
page_text = codes "<style>.bad{fill:none;stroke-width:.25}</style>\n<rect class=\"page\" x=\"-5\" y=\"-1\" width=\"100%\" height=\"100%\"/>\n<text x=\"-4.7\" y=\"-.4\">"

abbrev pub looks_text : List ℕ
looks_text = style_text ++ colours_text ++ page_text

-- it is wide enough for the verdict
abbrev pub width_of : ℕ → ℕ
width_of seats = max (seats + 6) 50

abbrev pub head_text : List Attempt → Note → ℕ → ℕ → List ℕ
head_text attempts n seats lanes = front_text (width_of seats) lanes ++ looks_text ++ note_text attempts n

unfoldable pub foot_text : ℕ → List ℕ
foot_text lanes =
    codes "<g transform=\"translate(0 " ++ decimal lanes ++ codes "0)\"><text x=\"-4.7\" y=\".7\">commits</text><text x=\"-4.7\" y=\"2.2\">attempt</text></g>\n</svg>\n"

-- what is drawn of the lanes and the attempts
abbrev pub body_of : List Attempt → List ℕ → List Seat → Note → List ℕ
body_of attempts columns seats n = codes "</text>\n" ++ lanes_text columns (length seats) ++ seats_text attempts columns n.flawed seats

-- the picture of attempts in this order, with a lane for each of these threads
abbrev pub picture_text : List Attempt → List ℕ → List Seat → Note → List ℕ
picture_text attempts columns seats n = head_text attempts n (length seats) (length columns) ++ body_of attempts columns seats n ++ foot_text (length columns)

-- the picture of a history, with what is said of it: each attempt stands once, behind those that saw fewer commits
pub record IsPicture (h : History) (n : Note) (text : List ℕ) : Type 0 where
  pub seats : List Seat
  pub order : InOrder h.attempts seats
  pub drawn : text ≡ picture_text h.attempts (columns_of h) seats n
