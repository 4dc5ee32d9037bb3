-- A turn: what comes of an event, before it is counted.
use Rattle.std.specs.Prelude.{◌≡◌, ℕ, ◌+◌, true, List, [], Option}
use Rattle.user_actions.specs.Actions.{Actions}
use Rattle.write_set.specs.Marks.{unwritten}
use Rattle.norec_core.specs.Phases.{Phase}
use Rattle.norec_core.specs.Phases as at
use Rattle.norec_core.specs.declared.answer.Answer.{Answer}
use Rattle.norec_core.specs.declared.answer.Next.{Next}
use Rattle.norec_core.specs.declared.answer.Next.TheVariants.{Step as Asks, Answer as Answers}
use Rattle.norec_core.specs.Core.{Core}
use Rattle.norec_core.specs.Endings.{IsEnding}
use Rattle.norec_core.specs.Proceeds.{Proceeds}
use Rattle.norec_data.specs.declared.data.Data.{Data}
use Rattle.norec_data.specs.declared.pending.Pending.{Pending}
use Rattle.norec_data.specs.declared.pending.Pending.TheVariants as waits
use Rattle.norec_data.specs.declared.turn.Turn.{Turn}
use Rattle.norec_data.specs.declared.turn.Turn.TheVariants.{Wait, End, EndIrrevocable}
use Rattle.norec_data.specs.Ends.{answer_of, told}
use Rattle.norec_data.specs.View.{core, core_held, in_block, phase_of, step_of}

abbrev pub next_of : Turn → Data → Next
next_of (Wait p) d = Asks (step_of d (phase_of d p))
next_of (End end) d = Answers (answer_of d end)
next_of (EndIrrevocable end) d = Answers (answer_of d end)

abbrev pub counted : Data → Data
counted d = record d { spent = d.spent + 1 }

abbrev pub data_after : Turn → Data → Data
data_after (Wait p) d = counted d
data_after (End end) d = told end d
data_after (EndIrrevocable end) d = told end d

abbrev pub phase_after : Turn → Data → Phase
phase_after (Wait p) d = phase_of d p
phase_after (End end) d = at.Idle
phase_after (EndIrrevocable end) d = at.Idle

abbrev pub pending_after : Turn → Pending
pending_after (Wait p) = p
pending_after (End end) = waits.Idle
pending_after (EndIrrevocable end) = waits.Idle

abbrev pub core_after : Turn → Data → Core
core_after (Wait p) d = core (counted d) (phase_of d p)
core_after (End end) d = core d at.Idle
core_after (EndIrrevocable end) d = core_held d

-- a call is in progress
abbrev pub IsOn : Phase → Type 0
IsOn at.Idle = ⊥
IsOn _ = Unit {0}

abbrev pub IsWaiting : Pending → Type 0
IsWaiting waits.Idle = ⊥
IsWaiting _ = Unit {0}

abbrev pub Asked : Turn → Type 0
Asked (Wait p) = IsWaiting p
Asked (End end) = Unit {0}
Asked (EndIrrevocable end) = Unit {0}

abbrev pub Turns : Core → Turn → Data → Type 0
Turns mid turn d = Proceeds mid (next_of turn d) (core_after turn d)

-- if the turn ends the call, it does so by this end
abbrev pub TurnEndsSo : Option Answer → Turn → Data → Type 0
TurnEndsSo so (Wait p) d = Unit {0}
TurnEndsSo so (End end) d = IsEnding so (answer_of d end)
TurnEndsSo so (EndIrrevocable end) d = IsEnding so (answer_of d end)

-- no transaction opens, and the log and the snapshot stay, unless it ended
pub record Stays (old new : Data) : Type 0 where
  pub opens : in_block new ≡ true → in_block old ≡ true
  pub log : in_block new ≡ true → new.log.rows ≡ old.log.rows
  pub snapshot : new.snapshot ≡ old.snapshot

-- the transaction is over, with this arena and these actions, and all else as before
pub record IsEnded (old : Data) (left : List ℕ) (actions : Actions) (new : Data) : Type 0 where
  pub frames : new.frames ≡ record { writes = unwritten; size = old.frames.size; depth = old.frames.depth; blocks = []; actions = actions; room = old.frames.room }
  pub log : new.log.rows ≡ []
  pub words : new.words ≡ old.words
  pub limits : new.limits ≡ old.limits
  pub arena : new.arena ≡ left
  pub snapshot : new.snapshot ≡ old.snapshot
  pub clock : new.clock ≡ old.clock
  pub restarted : new.restarted ≡ old.restarted
  pub tries : new.tries ≡ old.tries
  pub spent : new.spent ≡ old.spent
  pub entry : new.entry ≡ old.entry
