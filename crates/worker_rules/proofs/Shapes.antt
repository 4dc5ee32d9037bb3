-- What an answer makes of an account, part by part.
use Rattle.std.proofs.Common.{◌≡◌, ℕ, ◌+◌, false, true, List, [], ◌∷◌, ◌++◌}
use Rattle.worker_rules.proofs.Common.{Account, Attempt, Call, Core, Course, HasRun, IsInside, IsOutside, Outcome, Ran, Replied, Rules, Savepoint, View, in_transaction, outside, positions, ran_on, reserved, spent, with_call, within}

-- the open attempt as a call comes, with room for it and for so many more
abbrev pub with_room : ℕ → Attempt → Attempt
with_room ahead row = record row { calls = reserved row.calls (ahead + 1) }

-- with one call more, once these actions have come to run in all
abbrev pub replied_row : Call → Replied → List Ran → Attempt → Attempt
replied_row call reply due row = record (with_call call reply row) { ran = ran_on row.ran row.restarts due }

-- with one call more, and room for so many
abbrev pub row_with : ℕ → Call → Replied → Attempt → Attempt
row_with room call reply row = record row { calls = record { list = row.calls.list ++ record { call = call; reply = reply } ∷ []; room = room } }

-- the attempt as it ends, at this position, once these actions have come to run in all
abbrev pub ended_at : Outcome → ℕ → List Ran → Attempt → Attempt
ended_at outcome at due row = record row { calls = spent row.calls; at = at; ran = ran_on row.ran row.restarts due; outcome = outcome }

module _ {P : Type 0} where
  -- the open attempt goes on
  abbrev pub goes_on : Account P → P → Attempt → List Savepoint → Account P
  goes_on t p row points = record t { player = p; stage = within row points }

  -- its block has ended
  abbrev pub closed : Account P → P → Attempt → Account P
  closed t p row = record { player = p; nth = 1; again = false; stage = outside; ended = t.ended ++ row ∷ [] }

  -- a try came to nothing, and the next one is to come
  abbrev pub tried : Account P → P → List Attempt → Account P
  tried t p ended = record t { player = p; nth = t.nth + 1; stage = outside; ended = ended }

-- these attempts are the run, and the thread's own positions are theirs
abbrev pub RanTo : {P : Type 0} → Rules P → Course P → View → List Attempt → Type 0
RanTo rules c v ended = HasRun rules c v ended × (v.mine ≡ c.view.mine ++ positions ended)

-- what an answer leaves of a run, but for what its player's laws say
pub record RunsTo {P : Type 0} (rules : Rules P) (c : Course P) (v : View) (e : Core) (t : Account P) : Type 0 where
  pub has_run : HasRun rules c v t.ended
  pub mine : v.mine ≡ c.view.mine ++ positions t.ended
  pub inside : in_transaction e ≡ true → IsInside rules c v e t
  pub outside : in_transaction e ≡ false → IsOutside rules c v e t
