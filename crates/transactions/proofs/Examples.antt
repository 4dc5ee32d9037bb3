-- Worked cases of the definitions, proved by computing.
use Rattle.std.proofs.Common.{◌≡◌, false, List, [], ◌∷◌, ◌++◌, refl}
use Rattle.transactions.proofs.Common.{Abort, Action, Begin, Calls, Commit, CommitAction, Deed, Done, R, Read, State, TakesBack, U1, UndoAction, W, Write, after, as_commit, as_undo, block_of, bytes_reply, calls_of, cancelled_of, number_8, opened, replies, replies_of, state_with, usual}

abbrev a : Action
a = record { fun = 1; arg = 2 }

abbrev b : Action
b = record { fun = 3; arg = 4 }

abbrev begun : State
begun = opened [] [] usual

-- a block that is taken back leaves its undo action, which comes to run before the commit actions
goes_back : (after 4 (state_with 4 begun (Calls (CommitAction b) Done ∷ TakesBack (a ∷ []) ∷ [])) Commit).actions.ran ≡ as_undo a ∷ as_commit b ∷ []
goes_back = refl

-- so does the run before of a block that gives a value; what its last run registers is the transaction's
runs_again : (after 4 (state_with 4 begun (block_of (a ∷ []) (Calls (CommitAction b) Done ∷ []))) Commit).actions.ran ≡ as_undo a ∷ as_commit b ∷ []
runs_again = refl

-- the plain machine makes the calls of the last run alone
last_calls : calls_of (block_of (a ∷ []) (Calls (UndoAction b) Done ∷ [])) ≡ Begin usual 0 ∷ UndoAction b ∷ Commit ∷ []
last_calls = refl

-- of a block that its body took back it makes the calls too: what was written there is gone, what was read there was so, and its undo action comes to run
back_calls : calls_of (cancelled_of (a ∷ []) (Calls (UndoAction b) Done ∷ [])) ≡ Begin usual 0 ∷ UndoAction b ∷ Abort false ∷ []
back_calls = refl

abbrev made : List Deed
made = Calls (Write W 0 (number_8 7)) Done ∷ Calls (Read R U1 0) (bytes_reply (7 ∷ [])) ∷ Calls (UndoAction b) Done ∷ []

back_replies : replies_of (cancelled_of [] made ++ Calls (Read R U1 0) (bytes_reply (5 ∷ [])) ∷ []) ≡ replies 4 (opened (5 ∷ []) [] usual) (calls_of (cancelled_of [] made ++ Calls (Read R U1 0) (bytes_reply (5 ∷ [])) ∷ []))
back_replies = refl

back_actions : (after 4 (state_with 4 (opened (5 ∷ []) [] usual) (cancelled_of (a ∷ []) made)) Commit).actions.ran ≡ as_undo a ∷ as_undo b ∷ []
back_actions = refl
