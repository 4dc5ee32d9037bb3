-- A call of a thread as the steps of its engine.
use Rattle.std.specs.Prelude.{◌≡◌, ℕ, ◌<◌, List, [], ◌∷◌, ◌++◌, Option, Some}
use Rattle.itm_types.specs.declared.step.Step.{Step}
use Rattle.norec_core.specs.declared.answer.Answer.{Answer}
use Rattle.norec_core.specs.declared.answer.Next.{Next}
use Rattle.norec_core.specs.declared.answer.Next.TheVariants.{Step as Asks, Answer as Answers}
use Rattle.norec_core.specs.Core.{Core}
use Rattle.norec_core.specs.Moves.{IsCalled, IsResumed}
use Rattle.shared_words.specs.declared.view.View.{View}
use Rattle.shared_words.specs.declared.pass.Pass.{Pass}
use Rattle.shared_words.specs.declared.words.Words.{Words}
use Rattle.shared_words.specs.Passes.{cells_of, IsOver, Owns, view_of}
use Rattle.shared_words.specs.Moves.{Moves}
use Rattle.shared_words.specs.Steps.{StepTells}
use Rattle.call_rules.specs.InCall.{left}
use Rattle.call_rules.specs.Served.{Start}

-- the pass did this step over the words, as their own contract tells it; the view notes the step with what it found
pub record HasStepped (v : View) (step : Step) (found : ℕ) (w : View) : Type 0 where
  pub turn : StepTells v step found w
  pub moves : Moves v step found w

-- the step that the engine waits for was done over so many cells, and the engine was handed what it found
pub record Drives (cells : ℕ) (v : View) (e : Core) (done : Step × ℕ) (w : View) (new : Core) (next : Next) : Type 0 where
  pub stepped : HasStepped v done.0 done.1 w
  pub over : IsOver cells w
  pub resumed : IsResumed e done.1 next new

-- from a view, an engine and what it asks for, these steps lead to those: each is the one that the engine asks for
abbrev pub LeadsOn : ℕ → View → Core → Next → List (Step × ℕ) → View → Core → Next → Type 0
LeadsOn cells v e next [] v' e' next' = (v' ≡ v) × (e' ≡ e) × (next' ≡ next)
LeadsOn cells v e (Asks step) (done ∷ rest) v' e' next' = (done.0 ≡ step) × (w : View) × (new : Core) × (then : Next) × Drives cells v e done w new then × LeadsOn cells w new then rest v' e' next'
LeadsOn cells v e (Answers a) (done ∷ rest) v' e' next' = ⊥

-- the call came to its engine, which was driven to this answer by the steps that the view notes since, and by no others
pub record IsDriven (cells : ℕ) (s : Start) (a : Answer) (v : View) (e : Core) : Type 0 where
  pub came : Core
  pub first : Next
  pub steps : List (Step × ℕ)
  pub noted : v.steps ≡ s.view.steps ++ steps
  pub called : IsCalled s.engine s.call s.again first came
  pub leads : LeadsOn cells s.view came first steps v e (Answers a)

-- steps of the call in progress were done, the first of them this one: fewer are left
pub record StepsOn {A : Type 0} (words : Words A) (v : View) (e : Core) (step : Step) (pass : Pass) (new : Core) (next : Next) : Type 0 where
  pub own : Owns words pass
  pub steps : List (Step × ℕ)
  pub leads : LeadsOn (cells_of words) v e (Asks step) steps (view_of pass) new next
  pub less : left new next < left e (Asks step)

-- all that were left were done, up to this answer
pub record Finishes {A : Type 0} (words : Words A) (v : View) (e : Core) (next : Next) (a : Answer) (pass : Pass) (new : Core) : Type 0 where
  pub own : Owns words pass
  pub steps : List (Step × ℕ)
  pub leads : LeadsOn (cells_of words) v e next steps (view_of pass) new (Answers a)

-- the same, up to an answer that is told so
abbrev pub FinishesSo : {A : Type 0} → Words A → View → Core → Next → Option Answer → Pass → Core → Type 0
FinishesSo words v e next told pass new = (a : Answer) × (told ≡ Some a) × Finishes words v e next a pass new
