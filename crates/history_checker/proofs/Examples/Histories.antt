-- The histories of worked verdicts: calls on one word that is zero at first, and attempts of one thread.
use Rattle.std.proofs.Common.{ℕ, ◌+◌, List, [], ◌∷◌, false, refl}
use Rattle.history_checker.proofs.Common.{Abort, Attempt, Bytes, Call, CallRecord, Code, Commit, Committed, Done, History, Mode, One, Outcome, Ran, Read, ReadOnly, Reply, U8, UndoAction, Unfinished, W, Write}
use Rattle.itm_types.{specs.declared.access.ReadHint.TheVariants.R, specs.declared.call.Action.Action, specs.declared.call.Props.Props}

-- ## Calls with their replies

-- the eight bytes of a small number
abbrev pub eight : ℕ → List ℕ
eight b = b ∷ 0 ∷ 0 ∷ 0 ∷ 0 ∷ 0 ∷ 0 ∷ 0 ∷ []

abbrev pub answered : Call → Reply → CallRecord
answered call reply = record { call = call; reply = reply }

-- the word is read as this number
abbrev pub reads : ℕ → CallRecord
reads b = answered (Read R U8 0) (Bytes (record { items = eight b }))

abbrev pub write : ℕ → Call
write b = Write W 0 (record { width = U8; bytes = record { items = eight b }; sized = refl })

abbrev pub writes : ℕ → CallRecord
writes b = answered (write b) Done

abbrev pub commits : CallRecord
commits = answered Commit Done

abbrev pub cancels : CallRecord
cancels = answered (Abort false) (Code 24)

-- the transaction becomes irrevocable
abbrev pub goes : CallRecord
goes = answered (Mode 0) Done

abbrev pub action : ℕ → Action
action fun = record { fun = fun; arg = 7 }

abbrev pub on_undo : ℕ → CallRecord
on_undo fun = answered (UndoAction (action fun)) Done

-- ## Attempts

abbrev pub plain : Props
plain = record { no_abort = false; no_irrevocable = false; goes_irrevocable = false }

abbrev pub attempt : Outcome → ℕ → List CallRecord → Attempt
attempt outcome at calls = record { thread = 0; nth = 1; began = 0; at = at; props = plain; arena = []; calls = record { list = calls; room = 0 }; restarts = []; ran = []; outcome = outcome }

-- after which these actions had run
abbrev pub attempt_ran : Outcome → List CallRecord → List Ran → Attempt
attempt_ran outcome calls ran = record (attempt outcome 0 calls) { ran = ran }

-- the one committed at this position, that writes one more than it reads
abbrev pub writer : ℕ → Attempt
writer at = attempt Committed at (reads at ∷ writes (at + 1) ∷ commits ∷ [])

-- one that saw so many commits, and reads this number
abbrev pub reader : ℕ → ℕ → Attempt
reader at b = attempt ReadOnly at (reads b ∷ commits ∷ [])

-- one that has not ended, and is irrevocable
abbrev pub holder : ℕ → Attempt
holder at = attempt Unfinished at (goes ∷ [])

-- ## Histories

abbrev pub history : List Attempt → ℕ → ℕ → History
history attempts clock b = record { version = One; memory = eight 0; attempts = attempts; clock = clock; bytes = eight b }
