-- What was written of a program's run on threads.
use Rattle.std.proofs.Common.{◌≡◌, ℕ, List, map, take, IfErr, IfOk, Option, Some, Result, Ok, Err, refl, sym, subst}
use Rattle.run_commands.proofs.Common.{Appends, AreLimited, ArrayVec, End, HasNestedCode, HistoryFits, Keeps, Listing, Outputs, Writing, history_text, legal_text}
use Rattle.script_fields.specs.declared.fault.AsmFault.{AsmFault}
use Rattle.script_laws.proofs.IdleThreads.{none_stay_held}
use Rattle.text_commands.specs.declared.failure.Failure.{Failure}
use Rattle.report_rules.specs.declared.report.HostFault.{HostFault}
use Rattle.report_rules.specs.declared.report.HostFault.TheVariants.{Held, NoMemory, NoThread}
use Rattle.report_rules.specs.declared.report.Report.{Report}
use Rattle.report_rules.specs.Reports.{Ran, StaysHeld}
use Rattle.worker_rules.specs.Gates.{all_let}
use Rattle.run_commands.specs.Threading.{IsThreadedRun, TellsRun, failure_of, threading}

module _ (p : Listing) (r : Report) (o n : Option (List ℕ)) (ran : Ran all_let p r) (limited : AreLimited r.history) (fits : HistoryFits r.history) where
  run_of : (endings : ArrayVec (Option End)) → endings.items ≡ map Some r.ends.items → IsThreadedRun p endings (history_text r.history)
  run_of endings stand = record { report = r; ran = ran; stand = stand; told = refl; read = legal_text r.history ran.legal fits limited }

  -- the history
  told : (endings : ArrayVec (Option End)) → endings.items ≡ map Some r.ends.items → Appends o n (history_text r.history) → Outputs threading (Ok endings) (Ok p) o n
  told endings stand grew = (p, history_text r.history, refl, run_of endings stand, grew)

  -- a beginning of it
  begun : (m : ℕ) × Appends o n (take m (history_text r.history)) → Outputs threading (Err Writing) (Ok p) o n
  begun grew =
      let endings : ArrayVec (Option End) = record { items = map Some r.ends.items } in
      (p, refl, (endings, history_text r.history, grew.0, run_of endings refl, grew.1))

-- nothing, where there was no run
failed : (p : Listing) (o n : Option (List ℕ)) (fault : HostFault) → Keeps o n → Outputs threading (Err (failure_of fault)) (Ok p) o n
failed p o n NoMemory k = k
failed p o n NoThread k = (refl, p, refl, k)
failed p o n Held k = k

-- all that is told of a run is the command's output
pub output : (p : Listing) (run : Result Report HostFault) (done : Result (ArrayVec (Option End)) (Failure AsmFault)) (o n : Option (List ℕ)) → IfOk run (λ r. Ran all_let p r) → IfOk run (λ r. AreLimited r.history) → TellsRun run done o n → Outputs threading done (Ok p) o n
output p (Ok r) (Ok endings) o n ran limited t = told p r o n ran limited t.3 endings t.1 t.0
output p (Ok r) (Err f) o n ran limited t = subst (λ (e : Failure AsmFault). Outputs threading (Err e) (Ok p) o n) (sym t.2) (begun p r o n ran limited t.3 t.0)
output p (Err fault) done o n ran limited t = subst (λ (d : Result (ArrayVec (Option End)) (Failure AsmFault)). Outputs threading d (Ok p) o n) (sym t.0) (failed p o n fault t.1)

-- no thread of nested code ends while it holds the clock
pub never_held : (p : Listing) (run : Result Report HostFault) → HasNestedCode p → IfErr run (λ fault. fault ≡ Held → StaysHeld all_let p) → IfErr run (λ fault. fault ≡ Held → ⊥)
never_held p (Ok r) nested held = held
never_held p (Err fault) nested held = λ is. none_stay_held all_let p nested (held is)
