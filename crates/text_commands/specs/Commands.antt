-- The commands that work on texts alone.
use Rattle.std.specs.Prelude.{◌≡◌, ◌↔◌, ℕ, false, List, [], ◌++◌, decimal, codes}
use Rattle.history_checker.specs.declared.verdict.Verdict.{Verdict}
use Rattle.history_checker.specs.declared.verdict.Verdict.TheVariants.{Legal, Bad}
use Rattle.history_checker.specs.Texts.{kind_text}
use Rattle.history_checker.specs.Verdicts.{verdict_of}
use Rattle.history_reader.specs.declared.fault.ReadFault.{ReadFault}
use Rattle.script_fields.specs.declared.fault.AsmFault.{AsmFault}
use Rattle.script_print.specs.Printing.{printed}
use Rattle.script_program.specs.Listing.{Listing}
use Rattle.text_commands.specs.Answers.{Command, HasFront}
use Rattle.text_commands.specs.Lines.{script_line, history_line}
use Rattle.tx_history.specs.declared.history.History.{History}
use Rattle.tx_history.specs.Legal.{IsLegal}

-- of a script the canonical script of its program is written
abbrev pub printing : Command Listing AsmFault (Unit {0})
printing = record {
  writes = λ p end text. text ≡ printed p;
  cut = HasFront (λ p (end : Unit {0}) text. text ≡ printed p);
  status = λ end. 0;
  says = λ end. [];
  line = script_line;
  threads = false;
}

-- a verdict in words
unfoldable pub verdict_text : Verdict → List ℕ
verdict_text Legal = codes "legal\n"
verdict_text (Bad row kind) = codes "bad " ++ decimal row ++ codes " " ++ kind_text kind ++ codes "\n"

abbrev pub verdict_status : Verdict → ℕ
verdict_status Legal = 0
verdict_status (Bad row kind) = 3

-- the verdict of a history, which is legal just where it is, and the verdict in words
pub record IsJudged (h : History) (v : Verdict) (text : List ℕ) : Type 0 where
  pub verdict : v ≡ verdict_of h
  pub legal : (v ≡ Legal) ↔ IsLegal h
  pub words : text ≡ verdict_text v

-- of a history its verdict is written
abbrev pub judging : Command History ReadFault Verdict
judging = record {
  writes = IsJudged;
  cut = HasFront IsJudged;
  status = verdict_status;
  says = λ v. [];
  line = history_line;
  threads = false;
}
