-- Worked cases of irrevocable transactions, computed.
use Rattle.std.proofs.Common.{◌≡◌, ◌+◌, ℕ, List, [], ◌∷◌, ◌++◌, None, true, false, map, refl, replicate}
use Rattle.itm_model.proofs.Common.{Abort, Action, Begin, Block, Bytes, Call, Code, Commit, CommitAction, Done, InTransaction, IsIrrevocable, Log, LogBytes, Mode, NoAbort, NoIrrevocable, Outside, Props, R, Ran, Read, Refused, State, TooDeep, U1, UndoAction, Undoable, W, Write, after, as_commit, back, before_after, no_actions, opened, outside, replies, state_after, takes_memory, undone}
use Rattle.itm_model.proofs.Examples.Machines.{plain, eight, byte, start_with}

-- a block that makes its transaction irrevocable as it begins
abbrev going : Props
going = record plain { goes_irrevocable = true }

-- one within which the transaction does not become irrevocable
abbrev revocable : Props
revocable = record plain { no_irrevocable = true }

-- both at once
abbrev never : Props
never = record revocable { goes_irrevocable = true }

-- one that is not to be cancelled
abbrev unabortable : Props
unabortable = record plain { no_abort = true }

abbrev action : ℕ → Action
action fun = record { fun = fun; arg = 100 + fun }

abbrev on_commit : ℕ → Call
on_commit fun = CommitAction (action fun)

abbrev on_undo : ℕ → Call
on_undo fun = UndoAction (action fun)

-- a block that was just begun on one word and an arena of two bytes, all zero
abbrev start : State
start = start_with 8 2

abbrev idle : State
idle = outside (eight 0) (0 ∷ 0 ∷ [])

-- an open block that does not go back
abbrev lasting : Props → Block
lasting props = record { props = props; saved = None }

-- an irrevocable transaction with these open blocks that has done nothing else
abbrev irrevocable : List Props → State
irrevocable blocks = record idle { blocks = map lasting blocks; wrote = true; irrevocable = true }

-- no block is open, these have come to run, and the transaction counts as one that wrote
abbrev ended : ℕ → List Ran → State
ended b ran = record (outside (eight b) (0 ∷ 0 ∷ [])) { actions = record no_actions { ran = ran }; wrote = true }

-- ## A transaction becomes irrevocable by a call, and stays so up to its commit; the next one is retryable again

abbrev whole : List Call
whole = InTransaction ∷ Mode 3 ∷ InTransaction ∷ Write W 0 (byte 7) ∷ Read R U1 0 ∷ Commit ∷ InTransaction ∷ Begin plain 0 ∷ InTransaction ∷ Abort false ∷ []

whole_replies : replies 16 start whole
    ≡ Code 1 ∷ Done ∷ Code 2 ∷ Done ∷ Bytes (record { items = 7 ∷ [] }) ∷ Done ∷ Code 0 ∷ Code 5 ∷ Code 1 ∷ Code 24 ∷ []
whole_replies = refl

becomes : after 16 start (Mode 3) ≡ irrevocable (plain ∷ [])
becomes = refl

ends : state_after 16 start (Mode 3 ∷ Write W 0 (byte 7) ∷ Commit ∷ []) ≡ ended 7 []
ends = refl

-- ## With all open blocks it does, and an inner commit leaves it on

inner_commits : replies 16 start (Begin plain 0 ∷ Mode 0 ∷ Commit ∷ InTransaction ∷ Abort false ∷ Commit ∷ Commit ∷ [])
    ≡ Code 5 ∷ Done ∷ Done ∷ Code 2 ∷ Refused IsIrrevocable ∷ Done ∷ Refused Outside ∷ []
inner_commits = refl

-- ## It is not cancelled, and no block of it is

not_rolled_back : map (λ (f : State → State). f (irrevocable (plain ∷ plain ∷ []))) (back ∷ undone ∷ []) ≡ replicate 2 (irrevocable (plain ∷ plain ∷ []))
not_rolled_back = refl

-- that a block is not to be cancelled at all is told first
no_abort_first : replies 16 (opened (eight 0) [] unabortable) (Mode 0 ∷ Abort false ∷ Begin plain 0 ∷ Abort false ∷ Abort true ∷ [])
    ≡ Done ∷ Refused NoAbort ∷ Code 5 ∷ Refused IsIrrevocable ∷ Refused NoAbort ∷ []
no_abort_first = refl

-- ## It does not become so in a block that keeps it from it, in an irrevocable transaction too

irrevocable_already : replies 16 start (Mode 0 ∷ Begin revocable 0 ∷ Mode 0 ∷ Begin going 0 ∷ Commit ∷ Mode 0 ∷ [])
    ≡ Done ∷ Code 5 ∷ Refused NoIrrevocable ∷ Refused NoIrrevocable ∷ Done ∷ Done ∷ []
irrevocable_already = refl

-- ## A begin makes the transaction irrevocable where its block says so

outermost_goes : after 16 idle (Begin going 0) ≡ irrevocable (going ∷ [])
outermost_goes = refl

inner_goes : state_after 16 start (Begin plain 0 ∷ on_undo 1 ∷ Begin going 0 ∷ []) ≡ irrevocable (going ∷ plain ∷ plain ∷ [])
inner_goes = refl

-- that a block keeps it from that is told before one block too many is
goes_refused_deep : replies 1 (opened (eight 0) [] revocable) (Begin going 0 ∷ Begin never 0 ∷ Begin plain 0 ∷ []) ≡ Refused NoIrrevocable ∷ Refused NoIrrevocable ∷ Refused TooDeep ∷ []
goes_refused_deep = refl

-- ## Undo actions are dropped as it becomes irrevocable, and none is kept later; commit actions run

abbrev acting : List Call
acting = on_undo 1 ∷ on_commit 2 ∷ Begin plain 0 ∷ on_undo 3 ∷ on_commit 4 ∷ Mode 0 ∷ []

acting_ended : state_after 16 start (acting ++ on_undo 5 ∷ on_commit 6 ∷ Commit ∷ Commit ∷ []) ≡ ended 0 (map as_commit (action 2 ∷ action 4 ∷ action 6 ∷ []))
acting_ended = refl

-- ## A log is served and keeps nothing

logs_keep_nothing : state_after 16 start (Log U1 0 ∷ Mode 0 ∷ Log U1 1 ∷ LogBytes 0 2 ∷ []) ≡ irrevocable (plain ∷ [])
logs_keep_nothing = refl

-- ## The memory as at the outermost begin is told as ever, and the call takes no memory

abbrev rewritten : Undoable
rewritten = record { state = state_after 16 (opened (eight 2) [] plain) (Write W 0 (byte 3) ∷ []); before = eight 2; kept = 1; deepest = 16 }

mode_before : before_after 16 rewritten (Mode 0) ≡ eight 2
mode_before = refl

mode_takes_no_memory : map (takes_memory (outside [] [])) (Mode 0 ∷ Mode 9 ∷ []) ≡ false ∷ false ∷ []
mode_takes_no_memory = refl
