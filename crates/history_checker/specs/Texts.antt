-- The words of verdicts.
use Rattle.std.specs.Prelude.{ℕ, List, codes}
use Rattle.history_checker.specs.declared.verdict.BadKind.{BadKind}
use Rattle.history_checker.specs.declared.verdict.BadKind.TheVariants as kind

abbrev pub kind_text : BadKind → List ℕ
kind_text kind.Position = codes "position"
kind_text kind.At = codes "at"
kind_text kind.Reply = codes "reply"
kind_text kind.Shape = codes "shape"
kind_text kind.Ran = codes "ran"
kind_text kind.Final = codes "final"
