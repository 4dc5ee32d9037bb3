-- What is drawn of a history, and said where none is.
use Rattle.std.specs.Prelude.{◌≡◌, ℕ, false, List, [], Option, None, Some, Result, Ok, Err, codes}
use Rattle.history_checker.specs.declared.verdict.Finding.{Finding}
use Rattle.history_checker.specs.declared.verdict.Spot.{Spot}
use Rattle.history_checker.specs.declared.verdict.Verdict.{Verdict}
use Rattle.history_checker.specs.declared.verdict.Verdict.TheVariants as verdicts
use Rattle.history_checker.specs.Answers.{finding_of}
use Rattle.history_checker.specs.Texts.{kind_text as bad_text}
use Rattle.history_picture.specs.declared.note.Judgement.{Judgement}
use Rattle.history_picture.specs.declared.note.Judgement.TheVariants as judgements
use Rattle.history_picture.specs.declared.note.Note.{Note}
use Rattle.history_picture.specs.Picture.{IsPicture}
use Rattle.history_reader.specs.declared.fault.ReadFault.{ReadFault}
use Rattle.history_reader.specs.Faults.{kind_text}
use Rattle.history_reader.specs.Reading.{read_of}
use Rattle.text_commands.specs.Answers.{Command, HasFront, Outputs, Says}
use Rattle.text_commands.specs.declared.failure.Failure.{Failure}
use Rattle.text_commands.specs.declared.failure.Failure.TheVariants.{Faulty, NoMemory, NoThread, Reading, Writing}
use Rattle.text_commands.specs.Lines.{failure_status}
use Rattle.tx_history.specs.declared.history.History.{History}
use Rattle.itmsteps.specs.Faults.{fault_text}

-- ## What is drawn

abbrev pub IsJudgement : Verdict → Judgement → Type 0
IsJudgement verdicts.Legal judgements.Legal = Unit {0}
IsJudgement verdicts.Legal (judgements.Bad row kind) = ⊥
IsJudgement (verdicts.Bad r k) judgements.Legal = ⊥
IsJudgement (verdicts.Bad r k) (judgements.Bad row kind) = (row ≡ r) × (kind.now ≡ bad_text k)

abbrev pub place_of : Option Spot → Option ℕ
place_of None = None
place_of (Some spot) = Some spot.attempt

abbrev pub call_of : Option Spot → Option ℕ
call_of None = None
call_of (Some spot) = spot.fault.call

-- it says what the checker found
pub record IsNote (f : Finding) (n : Note) : Type 0 where
  pub judgement : IsJudgement f.verdict n.judgement
  pub flawed : n.flawed ≡ place_of f.spot
  pub call : n.call ≡ call_of f.spot
  pub answer : n.answer ≡ f.answer

-- the picture of a history, with the verdict and its reason
abbrev pub IsDrawn : History → List ℕ → Type 0
IsDrawn h text = (n : Note) × IsNote (finding_of h) n × IsPicture h n text

-- ## What is said

abbrev pub history_line : Failure ReadFault → List ℕ
history_line (Faulty f) = fault_text f.line (kind_text f.kind)
history_line NoMemory = codes "itmsteps: no memory\n"
history_line NoThread = codes "itmsteps: no thread\n"
history_line Reading = codes "itmsteps: reading failed\n"
history_line Writing = codes "itmsteps: writing failed\n"

-- of a history its picture is written
abbrev pub drawing : Command History ReadFault (Unit {0})
drawing = record {
  writes = λ h end text. IsDrawn h text;
  cut = HasFront (λ h (end : Unit {0}) text. IsDrawn h text);
  status = λ end. 0;
  says = λ end. [];
  line = λ f. history_line (Faulty f);
  threads = false;
}

-- what is said in the end
abbrev pub Closes : Result (Unit {0}) (Failure ReadFault) → ℕ → Option (List ℕ) → Option (List ℕ) → Type 0
Closes (Ok end) status old new = Says [] 0 status old new
Closes (Err failure) status old new = Says (history_line failure) (failure_status failure) status old new

-- the history of this text is drawn, or it is said why not
abbrev pub Drawn : List ℕ → ℕ → Option (List ℕ) → Option (List ℕ) → Option (List ℕ) → Option (List ℕ) → Type 0
Drawn text status old new errors_old errors_new =
    (done : Result (Unit {0}) (Failure ReadFault)) × Outputs drawing done (read_of text) old new × Closes done status errors_old errors_new
