-- A player's run, as contracts see it, and the room that it needs.
use Rattle.std.specs.Prelude.{◌≡◌, ◌+◌, ◌<◌, ◌≤◌, ℕ, List, length, Vec, vec_len, vec_capacity}
use Rattle.std.specs.declared.alloc.Global.{Global}
use Rattle.itm_types.specs.declared.call.Call.{Call}
use Rattle.itm_types.specs.declared.call.Ran.{Ran}
use Rattle.itm_types.specs.declared.call.Reply.{Reply}
use Rattle.tx_attempts.specs.declared.attempt.Attempt.{Attempt}
use Rattle.tx_runs.specs.Currents.{Current, Outside, Begins, Within}
use Rattle.tx_runs.specs.declared.player_run.PlayerRun.{PlayerRun}
use Rattle.tx_runs.specs.OpenAttempts.{HasRoom, MayRenew, told_in}
use Rattle.tx_runs.specs.Savepoints.{savepoints_after}
use Rattle.tx_runs.specs.Tallies.{Stage, outside, begins, within, Tally, Stand, with_call}

abbrev pub stage_of : Current → Stage
stage_of Outside = outside
stage_of (Begins o) = begins o.row
stage_of (Within o) = within o.row o.points

-- the open attempt with one call more
abbrev pub current_with : Call → Reply → Current → Current
current_with call reply Outside = Outside
current_with call reply (Begins o) = Begins o
current_with call reply (Within o) = Within (record o { row = with_call call reply o.row; points = savepoints_after o.points o.row (record { call = call; reply = reply }) })

abbrev pub tally_of : {P : Type 0} → PlayerRun P → Tally P
tally_of r = record { player = r.player; nth = r.nth; again = r.again; stage = stage_of r.current }

-- there is room in the open attempt for what comes of the call's answer
abbrev pub MayTakeIn : Call → Stand → Current → Type 0
MayTakeIn call s Outside = Unit {0}
MayTakeIn call s (Begins o) = Unit {0}
MayTakeIn call s (Within o) = HasRoom call s o

-- and where its innermost block runs again
abbrev pub MayGoBack : Stand → Current → Type 0
MayGoBack s Outside = Unit {0}
MayGoBack s (Begins o) = Unit {0}
MayGoBack s (Within o) = MayRenew s o

-- there is room for the actions that have run once it is over
abbrev pub MayStop : ℕ → List Ran → Current → Type 0
MayStop at ran Outside = Unit {0}
MayStop at ran (Begins o) = Unit {0}
MayStop at ran (Within o) = (told_in o.row ≤ length ran) × (length ran ≤ o.ends)

-- and a place for it among those that have ended
abbrev pub MayTell : Current → Vec Attempt Global → Type 0
MayTell Outside ended = Unit {0}
MayTell (Begins o) ended = Unit {0}
MayTell (Within o) ended = vec_len ended < vec_capacity ended

-- so many attempts joined the list, each in a place that it had
pub record HaveJoined (old new : Vec Attempt Global) (more : ℕ) : Type 0 where
  pub capacity : vec_capacity new ≡ vec_capacity old
  pub len : vec_len new ≡ vec_len old + more

-- an attempt that is open afterwards has the places that it had, but for those that a cancel has used
abbrev pub KeepsPlaces : List Ran → Current → Current → Type 0
KeepsPlaces ran (Within o) (Within o') = (o'.ends ≡ o.ends) × (told_in o.row ≡ length ran → o'.cancels ≡ o.cancels) × (o'.deep ≡ o.deep)
KeepsPlaces ran (Begins o) (Within o') = (o'.ends ≡ o.ends) × (o'.cancels ≡ o.cancels) × (o'.deep ≡ o.deep)
KeepsPlaces ran Outside (Within o') = ⊥
KeepsPlaces ran current Outside = Unit {0}
KeepsPlaces ran current (Begins o') = Unit {0}
