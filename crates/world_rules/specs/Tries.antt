-- What an event, or the local work of an actor, does to the try that the actor makes of its block.
use Rattle.std.specs.Prelude.{◌≡◌, ◌⊎◌, ℕ, ◌+◌, ◌*◌, ◌/◌, ◌%◌, ◌<◌, ◌≤◌, Bool, true, false, nat_lt, List, [], ◌∷◌, ◌++◌, length, take, Option, None, Some}
use Rattle.norec_core.specs.Core.{may_go}
use Rattle.tx_attempts.specs.declared.attempt.Again.{Again}
use Rattle.tx_attempts.specs.declared.attempt.Attempt.{Attempt}
use Rattle.itm_types.specs.declared.call.Ran.{Ran}
use Rattle.tx_attempts.specs.declared.attempt.CallRecord.{CallRecord}
use Rattle.tx_attempts.specs.declared.attempt.Outcome.{Outcome}
use Rattle.tx_attempts.specs.declared.attempt.Outcome.TheVariants.{Committed, ReadOnly, Cancelled, Conflict, Full, NoMemory, Unfinished}
use Rattle.tx_runs.specs.declared.ending.End.{End}
use Rattle.tx_runs.specs.declared.ending.End.TheVariants as ends
use Rattle.world_rules.specs.Actor.{Actor}
use Rattle.world_rules.specs.declared.actor.Status.TheVariants.{Ended}
use Rattle.tx_attempts.specs.Attempts.{ClosedBy}
use Rattle.tx_attempts.specs.Restarts.{open_in, with_again}
use Rattle.world_rules.specs.Rows.{Rows}
use Rattle.world_rules.specs.Stages.{active_of, pending_of}
use Rattle.tx_runs.specs.Tallies.{begun}
use Rattle.world_rules.specs.Status.{ending_of}

-- the same attempt
pub record IsSame (row row' : Attempt) : Type 0 where
  pub thread : row'.thread ≡ row.thread
  pub nth : row'.nth ≡ row.nth
  pub began : row'.began ≡ row.began
  pub props : row'.props ≡ row.props
  pub arena : row'.arena ≡ row.arena

-- later: it has the calls that it had, and perhaps more, and so the actions that have run; nothing in it was taken back
pub record Extends (row row' : Attempt) : Type 0 where
  pub same : IsSame row row'
  pub more : List CallRecord
  pub calls : row'.calls.list ≡ row.calls.list ++ more
  pub restarts : row'.restarts ≡ row.restarts
  pub more_ran : List Ran
  pub ran : row'.ran ≡ row.ran ++ more_ran

-- its innermost block, which is not the outermost one, goes back to just after its begin: what came since is taken out, and told in a record. Others have committed since it read
pub record GoesBack (clock : ℕ) (row row' : Attempt) : Type 0 where
  pub moved : row.at < clock / 2
  pub same : IsSame row row'
  pub again : Again
  pub outer : List ℕ
  pub innermost : open_in row.calls.list ≡ again.kept ∷ outer
  pub calls : row'.calls.list ≡ take again.kept row.calls.list
  pub restarts : row'.restarts ≡ with_again again row.restarts
  pub told : ℕ
  pub ran : row'.ran ≡ take told row.ran

-- it is the same attempt later: it went on, after its innermost block had gone back once or not at all
pub record Continues (clock : ℕ) (row row' : Attempt) : Type 0 where
  pub base : Attempt
  pub from : (base ≡ row) ⊎ GoesBack clock row base
  pub on : Extends base row'

-- how the clock stands before and after an attempt of this position ends so: a writer's own event frees the clock, and no other one's does
abbrev pub EndsAt : ℕ → ℕ → ℕ → ℕ → Outcome → Type 0
EndsAt max_commits clock clock' at Committed = (clock ≡ 2 * at + 1) × (clock' ≡ 2 * at + 2)
EndsAt max_commits clock clock' at ReadOnly = (clock' / 2 ≡ clock / 2) × (2 * at ≤ clock')
EndsAt max_commits clock clock' at Cancelled = (clock' / 2 ≡ clock / 2) × (2 * at ≤ clock')
EndsAt max_commits clock clock' at Conflict = (clock' / 2 ≡ clock / 2) × (2 * at < clock')
EndsAt max_commits clock clock' at Full = (clock' / 2 ≡ clock / 2) × (2 * at ≤ clock') × (max_commits ≤ at)
EndsAt max_commits clock clock' at NoMemory = (clock' / 2 ≡ clock / 2) × (2 * at ≤ clock')
EndsAt max_commits clock clock' at Unfinished = ⊥

-- the attempts and the tries of an actor before an event
pub record Prior : Type 0 where
  pub ended : List Attempt  -- of all actors
  pub active : Option Attempt  -- its open one
  pub pending : Option Attempt  -- the one that its begin, which is in progress, is to open
  pub nth : ℕ  -- which try of its block is under way or comes next
  pub retries : ℕ
  pub max_commits : ℕ
  pub restarts : ℕ  -- how often inner blocks may go back to their begins, in one transaction
  pub seen : ℕ  -- the clock as its engine saw it last

abbrev pub prior_of : {P : Type 0} → Rows → Actor P → Prior
prior_of r a = record {
  ended = r.ended;
  active = active_of a;
  pending = pending_of a;
  nth = a.run.nth;
  retries = a.run.retries;
  max_commits = a.engine.max_commits;
  restarts = a.engine.restarts;
  seen = a.engine.clock;
}

-- the attempt that is open, or else the one that is to be opened
abbrev pub current_of : Option Attempt → Option Attempt → Option Attempt
current_of None pending = pending
current_of (Some row) pending = Some row

module _ {P : Type 0} where
  -- no try is open, and the next one is the nth of its block: if its begin was called, that was at this clock
  pub record IsBetween (clock nth : ℕ) (a : Actor P) : Type 0 where
    pub none : active_of a ≡ None
    pub tries : a.run.nth ≡ nth
    pub opens : (row : Attempt) → pending_of a ≡ Some row → row ≡ begun a.run.thread nth (clock / 2) row.props a.engine.arena row.calls.room
    pub goes_on : ending_of a.status ≡ Some ends.GaveUp → ⊥

  -- it has ended so, with no try open
  pub record HasStopped (end : End) (a : Actor P) : Type 0 where
    pub none : active_of a ≡ None
    pub status : a.status ≡ Ended end

  -- a try came to nothing: it was the last one, or one more comes
  abbrev pub TriesAgain : Bool → ℕ → ℕ → Actor P → Type 0
  TriesAgain true clock nth a = HasStopped ends.GaveUp a
  TriesAgain false clock nth a = IsBetween clock (nth + 1) a

  -- what comes after an attempt that ended so
  abbrev pub GoesOnAfter : Outcome → ℕ → Prior → Actor P → Type 0
  GoesOnAfter Committed clock p a = IsBetween clock 1 a
  GoesOnAfter ReadOnly clock p a = IsBetween clock 1 a
  GoesOnAfter Cancelled clock p a = IsBetween clock 1 a
  GoesOnAfter Conflict clock p a = TriesAgain (nat_lt p.retries p.nth) clock p.nth a
  GoesOnAfter Full clock p a = HasStopped ends.GaveUp a
  GoesOnAfter NoMemory clock p a = HasStopped ends.NoMemory a
  GoesOnAfter Unfinished clock p a = ⊥

  -- no try was under way
  pub record StaysBetween (clock : ℕ) (p : Prior) (clock' : ℕ) (r : Rows) (a : Actor P) : Type 0 where
    pub idle : current_of p.active p.pending ≡ None
    pub ended : r.ended ≡ p.ended
    pub half : clock' / 2 ≡ clock / 2
    pub between : IsBetween clock' p.nth a

  -- its begin goes on
  pub record StaysAtBegin (clock : ℕ) (p : Prior) (clock' : ℕ) (r : Rows) (a : Actor P) : Type 0 where
    pub none : p.active ≡ None
    pub row : Attempt
    pub was : p.pending ≡ Some row
    pub now : pending_of a ≡ Some row
    pub ended : r.ended ≡ p.ended
    pub still : active_of a ≡ None
    pub half : clock' / 2 ≡ clock / 2
    pub tries : a.run.nth ≡ p.nth
    pub on : ending_of a.status ≡ None

  -- the attempt is open, or was opened; it is later in this way
  pub record StaysOpen (IsLater : Attempt → Attempt → Type 0) (clock : ℕ) (p : Prior) (clock' : ℕ) (r : Rows) (a : Actor P) : Type 0 where
    pub row : Attempt
    pub row' : Attempt
    pub was : current_of p.active p.pending ≡ Some row
    pub now : active_of a ≡ Some row'
    pub continues : IsLater row row'
    pub ended : r.ended ≡ p.ended
    pub half : clock' / 2 ≡ clock / 2
    pub tries : a.run.nth ≡ p.nth
    pub goes_on : ending_of a.status ≡ Some ends.GaveUp → ⊥
    pub fed : ending_of a.status ≡ Some ends.NoMemory → a.engine.irrevocable ≡ true  -- an irrevocable one that finds no memory stays unfinished

  -- it has ended
  pub record EndsIt (IsLater : Attempt → Attempt → Type 0) (clock : ℕ) (p : Prior) (clock' : ℕ) (r : Rows) (a : Actor P) : Type 0 where
    pub row : Attempt
    pub row' : Attempt
    pub was : current_of p.active p.pending ≡ Some row
    pub ended : r.ended ≡ p.ended ++ row' ∷ []
    pub continues : IsLater row row'
    pub reads : row'.at ≡ a.engine.snapshot / 2  -- where the engine read last
    pub at : EndsAt p.max_commits clock clock' row'.at row'.outcome
    pub closed : ClosedBy row'.outcome row'.calls.list
    pub spent : row'.calls.room ≡ 0  -- no place is promised in it any more
    pub few : length row'.restarts ≤ p.restarts  -- no more blocks of it ran again than may
    pub after : GoesOnAfter row'.outcome clock' p a

  -- its begin found the clock odd once too often
  pub record IsTurnedAway (clock : ℕ) (p : Prior) (clock' : ℕ) (r : Rows) (a : Actor P) : Type 0 where
    pub none : p.active ≡ None
    pub row : Attempt
    pub was : p.pending ≡ Some row
    pub ended : r.ended ≡ p.ended
    pub odd : clock' % 2 ≡ 1
    pub same : clock' ≡ clock
    pub after : TriesAgain (nat_lt p.retries p.nth) clock' p.nth a

  -- its begin lost the clock once too often: it had moved since the engine saw it last
  pub record IsOutrun (clock : ℕ) (p : Prior) (clock' : ℕ) (r : Rows) (a : Actor P) : Type 0 where
    pub none : p.active ≡ None
    pub row : Attempt
    pub was : p.pending ≡ Some row
    pub ended : r.ended ≡ p.ended
    pub moved : p.seen < clock
    pub same : clock' ≡ clock
    pub after : TriesAgain (nat_lt p.retries p.nth) clock' p.nth a

  -- its begin goes irrevocable, and as many have committed as may
  pub record IsShutOut (clock : ℕ) (p : Prior) (clock' : ℕ) (r : Rows) (a : Actor P) : Type 0 where
    pub none : p.active ≡ None
    pub row : Attempt
    pub was : p.pending ≡ Some row
    pub ended : r.ended ≡ p.ended
    pub goes : row.props.goes_irrevocable ≡ true
    pub may : may_go [] row.props ≡ true
    pub full : p.max_commits ≤ clock / 2
    pub same : clock' ≡ clock
    pub after : HasStopped ends.GaveUp a

  -- one of these; an attempt that was open is later in this way
  pub data Tries (IsLater : Attempt → Attempt → Type 0) (clock : ℕ) (p : Prior) (clock' : ℕ) (r : Rows) (a : Actor P) : Type 0 where
    between : StaysBetween clock p clock' r a → Tries IsLater clock p clock' r a
    begins : StaysAtBegin clock p clock' r a → Tries IsLater clock p clock' r a
    runs : StaysOpen IsLater clock p clock' r a → Tries IsLater clock p clock' r a
    over : EndsIt IsLater clock p clock' r a → Tries IsLater clock p clock' r a
    turned_away : IsTurnedAway clock p clock' r a → Tries IsLater clock p clock' r a
    outrun : IsOutrun clock p clock' r a → Tries IsLater clock p clock' r a
    shut_out : IsShutOut clock p clock' r a → Tries IsLater clock p clock' r a
