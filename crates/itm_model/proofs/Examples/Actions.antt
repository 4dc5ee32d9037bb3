-- Worked cases of actions, computed.
use Rattle.std.proofs.Common.{◌≡◌, ◌+◌, ℕ, List, [], ◌∷◌, ◌++◌, true, false, map, refl, replicate}
use Rattle.itm_model.proofs.Common.{Abort, Action, Begin, Call, Commit, CommitAction, Ran, State, UndoAction, after, as_commit, as_undo, outside, state_after, takes_memory}
use Rattle.itm_model.proofs.Examples.Machines.{plain, eight, start_with}

abbrev action : ℕ → Action
action fun = record { fun = fun; arg = 100 + fun }

abbrev on_commit : ℕ → Call
on_commit fun = CommitAction (action fun)

abbrev on_undo : ℕ → Call
on_undo fun = UndoAction (action fun)

-- a block that was just begun on one word
abbrev start : State
start = start_with 8 0

-- no block is open, nothing is registered, and these have come to run
abbrev ended : List Ran → State
ended ran = record (outside (eight 0) []) { actions = record { commits = []; undos = []; ran = ran } }

-- ## Three blocks, one in the other, each with an undo action, and the second with a commit action

abbrev three : List Call
three = on_undo 1 ∷ Begin plain 0 ∷ on_undo 2 ∷ on_commit 9 ∷ Begin plain 0 ∷ on_undo 3 ∷ []

three_registered : (state_after 16 start three).actions
    ≡ record { commits = action 9 ∷ []; undos = action 1 ∷ action 2 ∷ action 3 ∷ []; ran = [] }
three_registered = refl

-- all are cancelled: the undo actions run, the last one first
three_cancelled : state_after 16 start (three ++ Abort true ∷ []) ≡ ended (map as_undo (action 3 ∷ action 2 ∷ action 1 ∷ []))
three_cancelled = refl

-- all commit: with the outermost one the commit action runs, and no undo action does
three_committed : state_after 16 start (three ++ replicate 3 Commit) ≡ ended (as_commit (action 9) ∷ [])
three_committed = refl

-- ## A cancelled block's undo actions run, and its commit actions never do; those of the block around it stay

abbrev inner_cancelled : List Call
inner_cancelled = on_commit 1 ∷ on_undo 4 ∷ Begin plain 0 ∷ on_commit 9 ∷ on_undo 2 ∷ Abort false ∷ []

inner_cancelled_actions : (state_after 16 start inner_cancelled).actions
    ≡ record { commits = action 1 ∷ []; undos = action 4 ∷ []; ran = as_undo (action 2) ∷ [] }
inner_cancelled_actions = refl

inner_cancelled_commit : state_after 16 start (inner_cancelled ++ Commit ∷ []) ≡ ended (as_undo (action 2) ∷ as_commit (action 1) ∷ [])
inner_cancelled_commit = refl

-- ## Commit actions run in the order in which they were registered, in whichever block

in_order : state_after 16 start (on_commit 1 ∷ Begin plain 0 ∷ on_commit 2 ∷ on_commit 3 ∷ Commit ∷ on_commit 4 ∷ Commit ∷ [])
    ≡ ended (map as_commit (action 1 ∷ action 2 ∷ action 3 ∷ action 4 ∷ []))
in_order = refl

-- ## An outermost begin starts with none

begun_anew : after 16 (ended (as_commit (action 9) ∷ [])) (Begin plain 0) ≡ start
begun_anew = refl

-- ## Memory can be refused to a registration

register_takes_memory : map (takes_memory (outside [] [])) (on_commit 1 ∷ on_undo 1 ∷ []) ≡ true ∷ true ∷ []
register_takes_memory = refl
