-- A world whose history is written as its events are taken: what the writer has got after an event, and where a write failed.
use Rattle.std.specs.Prelude.{◌≡◌, ◌⊎◌, ℕ, List, ◌++◌, length, flat_map, take, All, IsTrue, OnErr, OnOk, Option, None, Result}
use Rattle.std.specs.Io.KnownBytes.{Appends}
use Rattle.std.specs.Result.{result_err}
use Rattle.std.specs.declared.io.Error.{Error}
use Rattle.world_rules.specs.Commits.{CommitsInOrder}
use Rattle.world_rules.specs.Headline.{AreOpaque}
use Rattle.world_rules.specs.Tied.{AreTied}
use Rattle.world_rules.specs.declared.fault.WorldFault.{WorldFault}
use Rattle.world_rules.specs.World.{World, is_event, observed}
use Rattle.world_rules.specs.WorldEvents.{Goes}
use Rattle.script_program.specs.declared.schedule.Item.{Item}
use Rattle.tx_attempts.specs.declared.attempt.Attempt.{Attempt}
use Rattle.tx_history.specs.Bounds.{AttemptFits}
use Rattle.tx_history.specs.declared.history.Version.{Version}
use Rattle.tx_history.specs.Histories.{attempt_lines, history_text}
use Rattle.tx_history.specs.Streams.{Adds, StreamState, fault_of, lent, lines_so_far, stream_state}
use Rattle.tx_history.specs.declared.page.Page.{Page}
use Rattle.tx_player.specs.Rules.{Rules}
use Rattle.run_commands.specs.Items.{ItemsBegin, ItemsLead}
use Rattle.world_laws.specs.Told.{told_of}

-- a beginning of the text came to the writer
abbrev pub Front : Option (List ℕ) → Option (List ℕ) → List ℕ → Type 0
Front old new text = (n : ℕ) × Appends old new (take n text)

-- what came to the writer begins with the text
abbrev pub HasWhole : Option (List ℕ) → Option (List ℕ) → List ℕ → Type 0
HasWhole old new text = (more : List ℕ) × Appends old new (text ++ more)

-- the lines of the attempts that ended between the two worlds are added
pub record AddsEnded {P : Type 0} (old new : World P) (s t : StreamState) : Type 0 where
  pub base : new.base ≡ old.base
  pub more : List Attempt
  pub ended : new.attempts.ended ≡ old.attempts.ended ++ more
  pub adds : Adds s t (flat_map attempt_lines more)
  pub fits : t.fault ≡ None → All AttemptFits more  -- once they are written, their numbers are those of their types

-- a call wrote them, and answers the error of the write that failed, if one has; the stream's writer is the one that it was
pub record SendsEnded {P W A : Type 0} (contents : W → Option (List ℕ)) (old new : World P) (s t : Page W) (result : Result A Error) : Type 0 where
  pub same : lent t ≡ lent s
  pub answer : fault_of t ≡ result_err result
  pub adds : AddsEnded old new (stream_state contents s) (stream_state contents t)

module _ {P : Type 0} (rules : Rules P) where
  -- an event leads from the one world to the other
  abbrev pub IsNext : World P → World P → Type 0
  IsNext old new = (thread : ℕ) × (result : Result (Unit {0}) WorldFault) × IsTrue (is_event result) × Goes rules thread old result new

  -- a write failed after an event: the lines of all attempts that ended before that event came to the writer whole
  pub record Fails (leads : World P → World P → Type 0) (old new : World P) (s t : StreamState) : Type 0 where
    pub before : World P
    pub first : leads old before
    pub last : IsNext before new
    pub all : leads old new
    pub more : List Attempt
    pub ended : before.attempts.ended ≡ old.attempts.ended ++ more
    pub told : HasWhole s.written t.written (flat_map attempt_lines more)

  -- Events were taken, and the lines of what they ended were written: all that were asked for, or, where a write failed, the first ones.
  pub record Performs {W A : Type 0} (contents : W → Option (List ℕ)) (all first : World P → World P → Type 0) (old new : World P) (s t : Page W) (result : Result A Error) : Type 0 where
    pub sends : SendsEnded contents old new s t result
    pub leads : OnOk result (all old new)
    pub fails : OnErr result (Fails first old new (stream_state contents s) (stream_state contents t))
    pub actors : length new.actors ≡ length old.actors

  -- A write failed, or the handing on of what was written. Some first events of that were taken, and no other. What came to the writer is a beginning of the history: of its lines so far, or, after the last event, of all of it. And if an event was taken, then the lines of all attempts that had ended before the last one came to the writer whole.
  pub record IsCutOff (version : Version) (items : List Item) (first new : World P) (u v : Option (List ℕ)) : Type 0 where
    pub begun : ItemsBegin rules items first new
    pub got : Front u v (lines_so_far version first.base new.attempts.ended) ⊎ (ItemsLead rules items first new × Front u v (history_text (told_of version new)))
    pub told : (new ≡ first) ⊎ ((before : World P) × ItemsBegin rules items first before × ((before ≡ new) ⊎ IsNext before new) × HasWhole u v (lines_so_far version first.base before.attempts.ended))

  -- Items were played, and their history written, in this version: all of them, or, where that failed, the first events of them. What holds of every world holds of the one that they left.
  pub record IsPlayed {A E : Type 0} (version : Version) (items : List Item) (old new : World P) (u v : Option (List ℕ)) (result : Result A E) : Type 0 where
    pub leads : OnOk result (ItemsLead rules items old new)
    pub stops : OnErr result (IsCutOff version items old new u v)
    pub commits : CommitsInOrder new
    pub opaque : AreOpaque rules (observed new)
    pub tied : AreTied rules new
