-- The open inner blocks of an attempt: where they began, and what is told of one that runs again.
use Rattle.std.specs.Prelude.{◌≡◌, ℕ, suc, ◌+◌, List, [], ◌∷◌, drop, length, map, take}
use Rattle.itm_types.specs.declared.call.Ran.{Ran}
use Rattle.tx_attempts.specs.declared.attempt.Again.{Again}
use Rattle.tx_attempts.specs.declared.attempt.Attempt.{Attempt}
use Rattle.tx_attempts.specs.declared.attempt.CallRecord.{CallRecord}
use Rattle.tx_attempts.specs.Restarts.{before, count_undone, open_after, open_in, with_again}
use Rattle.tx_runs.specs.declared.savepoint.Savepoint.{Savepoint}

-- the begins of the open inner blocks, the innermost first, once the attempt has one call more
abbrev pub savepoints_after : List Savepoint → Attempt → CallRecord → List Savepoint
savepoints_after points row e = open_after (record { kept = suc (length row.calls.list); ran = length row.ran }) points e

-- how many actions had come to run in the transaction as the block began, each of which is told
abbrev pub due_at : Savepoint → List Again → ℕ
due_at s restarts = s.ran + count_undone (before s.kept restarts)

-- what is told of a block that runs again from this arena, where these actions have come to run in all
abbrev pub again_of : Savepoint → Attempt → List ℕ → List Ran → Again
again_of s row arena due = record { kept = s.kept; arena = arena; undone = drop (due_at s row.restarts) due }

-- the attempt, cut to just after that block's begin; no place is promised in it for more calls
abbrev pub cut_to : Savepoint → List ℕ → List Ran → Attempt → Attempt
cut_to s arena due row = record row {
  calls = record { list = take s.kept row.calls.list; room = 0 };
  restarts = with_again (again_of s row arena due) row.restarts;
  ran = take s.ran row.ran;
}

-- to just after the begin of its innermost block
abbrev pub cut_back : List Savepoint → List ℕ → List Ran → Attempt → Attempt
cut_back [] arena due row = row
cut_back (s ∷ outer) arena due row = cut_to s arena due row

-- they are those that the calls say
abbrev pub AreSavepoints : List Savepoint → List CallRecord → Type 0
AreSavepoints points calls = map (λ (s : Savepoint). s.kept) points ≡ open_in calls
