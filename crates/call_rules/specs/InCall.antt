-- A call in progress.
use Rattle.std.specs.Prelude.{◌≡◌, ◌⊎◌, ℕ, suc, ◌+◌, ◌-◌, ◌<◌, ◌≤◌, true, false, List, [], ◌∷◌, ◌++◌, length, Some, slice_get}
use Rattle.itm_types.specs.declared.row.LogRow.{LogRow}
use Rattle.itm_types.specs.declared.step.Step.{Step}
use Rattle.itm_types.specs.declared.step.Step.TheVariants.{Store}
use Rattle.itm_model.specs.Machine.{after, reply}
use Rattle.nest_frames.specs.Nest.{reads_of}
use Rattle.norec_core.specs.declared.answer.Next.{Next}
use Rattle.norec_core.specs.declared.answer.Next.TheVariants.{Step as Asks, Answer as Answers}
use Rattle.norec_core.specs.Core.{Core, came, in_transaction}
use Rattle.norec_core.specs.Held.{answers, leaves}
use Rattle.norec_core.specs.Keeps.{Keeps}
use Rattle.norec_core.specs.Order.{asked, stage_at}
use Rattle.norec_core.specs.Phases.{Phase}
use Rattle.norec_core.specs.Phases.{Idle, Begin, Take, RoundStart}
use Rattle.norec_core.specs.Proceeds.{Got, IsLawful, most}
use Rattle.norec_core.specs.Stands.{stands_for}
use Rattle.shared_words.specs.declared.view.View.{View}
use Rattle.shared_words.specs.Commits.{StartsWith}
use Rattle.shared_words.specs.Passes.{IsOver}
use Rattle.shared_words.specs.Steps.{StepTells}
use Rattle.shared_words.specs.Views.{held_words}
use Rattle.call_rules.specs.Ties.{IsTied, Stands}
use Rattle.call_rules.specs.Served.{Start, LoadedLast, Went, Served}

-- the log so far
pub record Grew (s : Start) (v : View) (e : Core) : Type 0 where
  pub snapshot : s.engine.snapshot ≤ e.snapshot
  pub log : StartsWith e.log s.engine.log
  pub looks : (e.log ≡ s.engine.log) ⊎ (s.view.looks < v.looks)

-- in an irrevocable transaction, what the call will come to over the words that are held
pub record HeldOn (s : Start) (v : View) (e : Core) : Type 0 where
  pub leaves_it : leaves e (held_words v) ≡ after s.engine.depth (stands_for s.engine (held_words s.view)) s.call
  pub answers_it : answers e (held_words v) ≡ reply s.engine.depth (stands_for s.engine (held_words s.view)) s.call
  pub got : (word value : ℕ) → e.waits ≡ Some (Store (suc word) value) → Got e.got (slice_get (held_words v) word)

-- what an engine is outside a transaction
pub record IsShut (e : Core) : Type 0 where
  pub revocable : e.irrevocable ≡ false
  pub writes : e.writes ≡ []

-- a look at the clock that is asked for was counted as a try
abbrev pub pending : Phase → ℕ
pending (Begin b) = 1
pending (RoundStart aim) = 1
pending stage = 0

-- outside a transaction a begin alone takes a step
abbrev pub IsOpening : Phase → Type 0
IsOpening (Begin b) = Unit {0}
IsOpening (Take b) = Unit {0}
IsOpening stage = ⊥

-- what the engine loaded last since the clock, the view has too
abbrev pub Loads : View → Core → Type 0
Loads v e = (before : List LogRow) (row : LogRow) → e.fresh ≡ before ++ row ∷ [] → LoadedLast v row.word row.value

-- the engine waits for this step of the call
pub record InCall (s : Start) (v : View) (e : Core) (step : Step) : Type 0 where
  pub tied : IsTied v e
  pub kept : Keeps (came s.engine s.call s.again) e
  pub went : Went s.view v
  pub rises : s.engine.clock ≤ e.clock
  pub mine : v.mine ≡ s.view.mine
  pub looked : (v.clock ≡ s.view.clock) ⊎ (s.view.looks < v.looks)
  pub first : in_transaction s.engine ≡ true → s.view.clock ≡ s.engine.snapshot
  pub read : s.engine.irrevocable ≡ false → reads_of s.engine.blocks ≤ length s.engine.log
  pub taken : e.holds ≡ true → e.irrevocable ≡ false → s.view.looks < v.looks
  pub shut : in_transaction s.engine ≡ false → IsShut s.engine
  pub begun : stage_at s.engine s.call s.again ≡ Idle → ⊥
  pub fixed : s.engine.irrevocable ≡ true → e.snapshot ≡ s.engine.snapshot
  pub tried : s.view.looks + e.tries ≤ v.looks + pending e.stage
  pub opening : in_transaction e ≡ false → IsOpening e.stage
  pub loads : Loads v e
  pub waits : e.waits ≡ Some step
  pub asks : e.waits ≡ asked e
  pub lawful : IsLawful e step
  pub steps : length v.steps + 1 ≡ length s.view.steps + e.spent
  pub within : e.spent ≤ most (came s.engine s.call s.again) (Some s.call)
  pub grew : in_transaction e ≡ true → Grew s v e
  pub held_on : s.engine.irrevocable ≡ true → HeldOn s v e

-- over so many cells the step was done that the engine waited for, and found this
pub record IsDone (cells : ℕ) (s : Start) (v : View) (e : Core) (seen : ℕ) : Type 0 where
  pub before : View
  pub step : Step
  pub over : IsOver cells before
  pub in_call : InCall s before e step
  pub turn : StepTells before step seen v

abbrev pub IsDue : Start → View → Core → Next → Type 0
IsDue s v e (Asks step) = InCall s v e step
IsDue s v e (Answers a) = Served s a v e × Stands v e

-- steps that the call may still ask for, and the answer
abbrev pub left : Core → Next → ℕ
left e (Asks step) = suc (most e e.doing - e.spent)
left e (Answers a) = 0
