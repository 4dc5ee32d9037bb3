-- What an answer makes of a player among the tries of its blocks.
use Rattle.std.specs.Prelude.{ℕ, ◌+◌, ◌/◌, Bool, true, false, nat_lt, if◌then◌else◌, List, [], ◌∷◌, Option, None, Some}
use Rattle.itm_types.specs.declared.call.Call.{Call}
use Rattle.itm_types.specs.declared.call.Call.TheVariants.{Begin}
use Rattle.itm_types.specs.declared.call.Props.{Props}
use Rattle.itm_types.specs.declared.call.Ran.{Ran}
use Rattle.itm_types.specs.declared.call.Reply.{Reply as Replied}
use Rattle.itm_types.specs.declared.call.Reply.TheVariants.{Done}
use Rattle.norec_core.specs.Core.{Core, in_transaction}
use Rattle.norec_core.specs.declared.answer.Answer.{Answer}
use Rattle.norec_core.specs.declared.answer.Answer.TheVariants.{Reply, Committed, Conflict, Restarted, Busy, Full}
use Rattle.tx_attempts.specs.declared.attempt.Attempt.{Attempt}
use Rattle.tx_attempts.specs.declared.attempt.Outcome.{Outcome}
use Rattle.tx_attempts.specs.declared.attempt.Outcome.TheVariants as outcomes
use Rattle.tx_attempts.specs.Kept.{grown, reserved, spent}
use Rattle.tx_attempts.specs.Restarts.{ran_on}
use Rattle.tx_player.specs.Rules.{Rules}
use Rattle.tx_runs.specs.declared.ending.End.{End}
use Rattle.tx_runs.specs.declared.ending.End.TheVariants.{GaveUp}
use Rattle.tx_runs.specs.declared.savepoint.Savepoint.{Savepoint}
use Rattle.tx_runs.specs.Savepoints.{cut_back, savepoints_after}

-- no block is open; or the begin in progress is to open this attempt; or it is open, with inner blocks open that began there
pub data Stage : Type 0 where
  outside : Stage
  begins : Attempt → Stage
  within : Attempt → List Savepoint → Stage

-- a player, which try of its block is under way or comes next, whether an earlier one got past its begin, and its attempt
pub record Tally (P : Type 0) : Type 0 where
  pub player : P
  pub nth : ℕ
  pub again : Bool
  pub stage : Stage

-- where the engine stands as it has answered: whether a transaction is open, where it reads, the actions that have run, and its arena
pub record Stand : Type 0 where
  pub is_open : Bool
  pub at : ℕ
  pub ran : List Ran
  pub arena : List ℕ

abbrev pub stand_of : Core → Stand
stand_of e = record { is_open = in_transaction e; at = e.snapshot / 2; ran = e.actions.ran; arena = e.arena }

-- what comes of an answer: how the player goes on, the attempt that is over, if one is, and the end, if it is one
pub record Taken (P : Type 0) : Type 0 where
  pub tally : Tally P
  pub over : List Attempt
  pub end : Option End

-- ## Attempts

-- one that is to be opened, with room for so many calls
abbrev pub begun : ℕ → ℕ → ℕ → Props → List ℕ → ℕ → Attempt
begun thread nth began props arena ahead = record { thread = thread; nth = nth; began = began; at = 0; props = props; arena = arena; calls = record { list = []; room = ahead }; restarts = []; ran = []; outcome = outcomes.Unfinished }

-- with one call more
abbrev pub with_call : Call → Replied → Attempt → Attempt
with_call call reply row = record row { calls = grown row.calls (record { call = call; reply = reply }) }

-- as it ends: no place is promised in it any more
abbrev pub ending_as : Outcome → Stand → Attempt → Attempt
ending_as outcome s row = record row { calls = spent row.calls; at = s.at; ran = ran_on row.ran row.restarts s.ran; outcome = outcome }

-- the one that is open is over
abbrev pub over_as : Outcome → Stand → Stage → List Attempt
over_as outcome s outside = []
over_as outcome s (begins row) = []
over_as outcome s (within row points) = ending_as outcome s row ∷ []

-- ## Calls

-- a call comes: an outermost begin is to open such an attempt, and within a block there is room for the call and for as many more as it asks for
abbrev pub stage_at : Stage → Call → (Props → Attempt) → ℕ → Stage
stage_at outside (Begin props room) row ahead = begins (row props)
stage_at outside call row ahead = outside
stage_at (begins old) call row ahead = begins old
stage_at (within old points) call row ahead = within (record old { calls = reserved old.calls (ahead + 1) }) points

-- of this thread, where so many had committed, with this arena
abbrev pub came : {P : Type 0} → ℕ → ℕ → List ℕ → ℕ → Tally P → Call → Tally P
came thread began arena ahead t call = record t { stage = stage_at t.stage call (λ props. begun thread t.nth began props arena ahead) ahead }

-- it begins a block of which an earlier try got past its begin
abbrev pub begins_again : Stage → Bool → Call → Bool
begins_again outside again (Begin props room) = again
begins_again outside again call = false
begins_again (begins row) again call = false
begins_again (within row points) again call = false

-- ## Answers

abbrev pub stage_with : Call → Replied → Stage → Stage
stage_with call reply outside = outside
stage_with call reply (begins row) = begins row
stage_with call reply (within row points) = within (with_call call reply row) (savepoints_after points row (record { call = call; reply = reply }))

-- the begin was accepted, or refused by its reply
abbrev pub entered : {P : Type 0} → Bool → Tally P → Attempt → Stand → Tally P
entered true t row s = record t { again = true; stage = within (record row { at = s.at }) [] }
entered false t row s = record t { stage = outside }

-- the block has ended, and the next one is tried for the first time
abbrev pub closed : {P : Type 0} → Tally P → Outcome → Stand → Taken P
closed t outcome s = record { tally = record t { nth = 1; again = false; stage = outside }; over = over_as outcome s t.stage; end = None }

-- the attempt is open as before, with the actions that have run since, or a cancel has ended its block
abbrev pub went_on : {P : Type 0} → Bool → Tally P → Attempt → List Savepoint → Stand → Taken P
went_on true t row points s = record { tally = record t { stage = within (record row { ran = ran_on row.ran row.restarts s.ran }) points }; over = []; end = None }
went_on false t row points s = closed (record t { stage = within row points }) outcomes.Cancelled s

-- a try came to nothing, and the attempt that it left is over: the next one comes, or the end where it was the last
abbrev pub tried : {P : Type 0} → ℕ → Tally P → List Attempt → Taken P
tried retries t over = if nat_lt retries t.nth
    then record { tally = record t { stage = outside }; over = over; end = Some GaveUp }
    else record { tally = record t { nth = t.nth + 1; stage = outside }; over = over; end = None }

-- it stops where it stands, and the open attempt is over
abbrev pub stopped : {P : Type 0} → Tally P → Outcome → Stand → End → Taken P
stopped t outcome s end = record { tally = record t { stage = outside }; over = over_as outcome s t.stage; end = Some end }

-- the reply was told to the player
abbrev pub replied : {P : Type 0} → Stage → Tally P → Call → Replied → Stand → Taken P
replied outside t call reply s = record { tally = t; over = []; end = None }
replied (begins row) t call reply s = record { tally = entered s.is_open t row s; over = []; end = None }
replied (within row points) t call reply s = went_on s.is_open t (with_call call reply row) (savepoints_after points row (record { call = call; reply = reply })) s

-- a player within a block goes back to where it called its begin
abbrev pub sent_back : {P : Type 0} → Rules P → Stage → P → P
sent_back rules outside p = p
sent_back rules (begins row) p = p
sent_back rules (within row points) p = rules.restarted p

-- the innermost block, which is not the outermost one, goes back to just after its begin, and so does the player
abbrev pub gone_back : {P : Type 0} → Rules P → Tally P → Stage → Stand → Tally P
gone_back rules t outside s = t
gone_back rules t (begins row) s = t
gone_back rules t (within row points) s = record t { player = rules.at_block t.player (rules.depth t.player); stage = within (cut_back points s.arena s.ran row) points }

-- of a call's answer, where a block may be tried again so often
abbrev pub took_in : {P : Type 0} → Rules P → ℕ → Tally P → Call → Answer → Stand → Taken P
took_in rules retries t call (Reply reply) s = replied t.stage (record t { player = rules.answered t.player reply }) call reply s
took_in rules retries t call (Committed at wrote) s = closed (record t { player = rules.answered t.player Done; stage = stage_with call Done t.stage }) (if wrote then outcomes.Committed else outcomes.ReadOnly) s
took_in rules retries t call (Conflict clock word) s = tried retries (record t { player = sent_back rules t.stage t.player }) (over_as outcomes.Conflict s t.stage)
took_in rules retries t call (Restarted clock word) s = record { tally = gone_back rules t t.stage s; over = []; end = None }
took_in rules retries t call (Busy clock) s = tried retries t []
took_in rules retries t call (Full at) s = stopped t outcomes.Full s GaveUp
