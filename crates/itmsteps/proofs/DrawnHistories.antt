-- What was written of the picture of a history.
use Rattle.std.proofs.Common.{◌≡◌, ℕ, List, Option, Result, Ok, Err, refl, sym, subst, IfErr}
use Rattle.itmsteps.proofs.Common.{Failure, InOrder, IsDrawn, IsNote, Outputs, Seat, Writes, Writing, drawing}
use Rattle.history_checker.specs.Answers.{finding_of}
use Rattle.history_picture.{specs.declared.note.Note.Note, specs.Columns.columns_of, specs.Picture.picture_text}
use Rattle.history_reader.specs.declared.fault.ReadFault.{ReadFault}
use Rattle.tx_attempts.specs.declared.attempt.Attempt.{Attempt}
use Rattle.tx_history.specs.declared.history.History.{History}

module _ (h : History) (attempts : List Attempt) (columns : List ℕ) (seats : List Seat) (note : Note) (o n : Option (List ℕ)) (all : attempts ≡ h.attempts) (lanes : columns ≡ columns_of h)
    (order : InOrder attempts seats) (is : IsNote (finding_of h) note) where
  there : IsDrawn h (picture_text attempts columns seats note)
  there = (
    note,
    is,
    record {
      seats = seats;
      order = subst (λ (ts : List Attempt). InOrder ts seats) all order;
      drawn = λ i. picture_text (all i) (lanes i) seats note;
    },
  )

  pub drawn_as : (s : Result (Unit {0}) (Failure ReadFault)) → Writes o n s (picture_text attempts columns seats note) → IfErr s (λ failure. failure ≡ Writing) → Outputs drawing s (Ok h) o n
  drawn_as (Ok x) p e = (h, picture_text attempts columns seats note, refl, there, p)
  drawn_as (Err f) p e = subst (λ (f : Failure ReadFault). Outputs drawing (Err f) (Ok h) o n) (sym e) (h, refl, (tt, picture_text attempts columns seats note, p.0, there, p.1))
