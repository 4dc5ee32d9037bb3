-- Worked cases of registered actions, computed.
use Rattle.std.proofs.Common.{◌≡◌, ℕ, [], ◌∷◌, true, false, refl}
use Rattle.norec_core.proofs.Common.{Action, Actions, Code, Core, Done, actions_after, after_undoing, as_commit, as_undo, finished, no_actions, rolled_back}
use Rattle.itm_types.specs.declared.call.Call.TheVariants as calls
use Rattle.norec_core.proofs.Examples.StepOrder.{begin, outside}
use Rattle.norec_core.proofs.Examples.Blocks.{inner, outer, nested}

abbrev action : ℕ → Action
action fun = record { fun = fun; arg = 0 }

-- the outer block registered undo action 1 and commit action 8, the inner one undo actions 2 and 3 and commit action 9; of a block that was cancelled before it, undo action 4 has run
abbrev registered : Actions
registered = record { commits = action 8 ∷ action 9 ∷ []; undos = action 1 ∷ action 2 ∷ action 3 ∷ []; ran = as_undo (action 4) ∷ [] }

abbrev acting : Core
acting = record nested { blocks = record inner { commits = 1; undos = 1 } ∷ outer ∷ []; actions = registered }

-- ## Registering

one_more_undo : (actions_after acting (calls.UndoAction (action 7)) Done).undos ≡ action 1 ∷ action 2 ∷ action 3 ∷ action 7 ∷ []
one_more_undo = refl

-- ## Blocks that end

inner_commit : actions_after acting calls.Commit Done ≡ registered
inner_commit = refl

-- its undo actions run, the last one first, and its commit action never does
inner_cancel : actions_after acting (calls.Abort false) (Code 24)
    ≡ record { commits = action 8 ∷ []; undos = action 1 ∷ []; ran = as_undo (action 4) ∷ as_undo (action 3) ∷ as_undo (action 2) ∷ [] }
inner_cancel = refl

outer_cancel : actions_after acting (calls.Abort true) (Code 24)
    ≡ record { commits = []; undos = []; ran = as_undo (action 4) ∷ as_undo (action 3) ∷ as_undo (action 2) ∷ as_undo (action 1) ∷ [] }
outer_cancel = refl

-- ## Ends of the transaction

committed : (finished acting).actions ≡ record { commits = []; undos = []; ran = as_undo (action 4) ∷ as_commit (action 8) ∷ as_commit (action 9) ∷ [] }
committed = refl

conflict : (rolled_back acting).actions.ran ≡ as_undo (action 4) ∷ as_undo (action 3) ∷ as_undo (action 2) ∷ as_undo (action 1) ∷ []
conflict = refl

given_up : (after_undoing acting).actions ≡ (rolled_back acting).actions
given_up = refl

-- the holder of the clock is left alone
held : (after_undoing (record acting { holds = true })).actions ≡ registered
held = refl

-- the next transaction forgets those that have run
next_begin : actions_after (record (outside 8) { actions = record no_actions { ran = as_undo (action 4) ∷ [] } }) begin (Code 5) ≡ no_actions
next_begin = refl
