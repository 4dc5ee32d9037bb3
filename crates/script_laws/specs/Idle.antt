-- Threads of nested code that run on threads of their own: none ends while it holds the clock.
use Rattle.std.specs.Prelude.{◌≡◌, ℕ, false, List, []}
use Rattle.norec_core.specs.Core.{in_transaction}
use Rattle.shared_words.specs.InGlobal.{Words}
use Rattle.shared_words.specs.Passes.{Owns, view_of}
use Rattle.call_rules.specs.Standing.{Standing}
use Rattle.call_rules.specs.Ties.{Stands}
use Rattle.script_laws.specs.Assembled.{HasNestedCode}
use Rattle.script_program.specs.declared.instruction.Instruction.{Instruction}
use Rattle.script_program.specs.Listing.{Listing}
use Rattle.script_vm.specs.Nesting.{Nests}
use Rattle.script_vm.specs.Threads.{opening, thread_rules}
use Rattle.report_rules.specs.Reports.{StaysHeld}
use Rattle.worker_rules.specs.Gates.{Gating}
use Rattle.worker_rules.specs.Worked.{Worked}
use Rattle.worker_rules.specs.Works.{IsRow, is_held}

-- whichever calls a thread of nested code makes, and however they end, also where memory is refused to it: it gives its pass back, which does not hold the clock. As many of its blocks may be open as of its engine
abbrev pub ComeBackIdle : Type 0
ComeBackIdle = (words : Words) (start : Standing) (code : List Instruction) (number retries : ℕ) (gate : Gating) (worked : Worked) → Nests code [] → Owns words start.pass → Stands (view_of start.pass) start.engine → in_transaction start.engine ≡ false
    → IsRow thread_rules words start (opening start.engine.depth code) number retries gate worked → is_held worked.pass ≡ false

-- so no thread of a program whose code is nested ends while it holds the clock
abbrev pub NoneStayHeld : Type 0
NoneStayHeld = (gate : Gating) (p : Listing) → HasNestedCode p → StaysHeld gate p → ⊥
