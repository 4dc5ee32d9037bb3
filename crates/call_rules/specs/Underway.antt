-- A call of a thread whose steps were done, all or up to one.
use Rattle.std.specs.Prelude.{ℕ, List, Bool}
use Rattle.itm_types.specs.declared.step.Step.{Step}
use Rattle.itm_types.specs.declared.call.Call.{Call}
use Rattle.norec_core.specs.declared.answer.Answer.{Answer}
use Rattle.norec_core.specs.declared.answer.Next.{Next}
use Rattle.norec_core.specs.declared.answer.Next.TheVariants.{Step as Asks}
use Rattle.norec_core.specs.Core.{Core}
use Rattle.norec_core.specs.Moves.{IsCalled}
use Rattle.shared_words.specs.declared.view.View.{View}
use Rattle.shared_words.specs.declared.pass.Pass.{Pass}
use Rattle.shared_words.specs.declared.words.Words.{Words}
use Rattle.shared_words.specs.Passes.{cells_of, IsOver, Owns, view_of}
use Rattle.call_rules.specs.Drives.{Finishes, HasStepped, LeadsOn}

-- steps of the call in progress were done; the last one found this, which the engine has not been handed
pub record Finds {A : Type 0} (words : Words A) (v : View) (e : Core) (next : Next) (found : ℕ) (pass : Pass) (new : Core) : Type 0 where
  pub own : Owns words pass
  pub steps : List (Step × ℕ)
  pub before : View
  pub step : Step
  pub over : IsOver (cells_of words) before
  pub leads : LeadsOn (cells_of words) v e next steps before new (Asks step)
  pub stepped : HasStepped before step found (view_of pass)

-- the call came to the engine, and all its steps were done, up to this answer
pub record IsServed {A : Type 0} (words : Words A) (pass : Pass) (e : Core) (call : Call) (again : Bool) (a : Answer) (left : Pass) (new : Core) : Type 0 where
  pub came : Core
  pub first : Next
  pub called : IsCalled e call again first came
  pub finishes : Finishes words (view_of pass) came first a left new

-- or they were done up to one that found this
pub record IsUnderway {A : Type 0} (words : Words A) (pass : Pass) (e : Core) (call : Call) (again : Bool) (found : ℕ) (left : Pass) (new : Core) : Type 0 where
  pub came : Core
  pub first : Next
  pub called : IsCalled e call again first came
  pub finds : Finds words (view_of pass) came first found left new
