-- Worked cases of open blocks, computed.
use Rattle.std.proofs.Common.{◌≡◌, true, false, List, ℕ, [], ◌∷◌, refl}
use Rattle.nest_frames.proofs.Common.{Actions, Frame, Moment, Old, Props, Row, Written, actions_back, actions_cancelled, actions_closed, arena_back, arena_restored, as_commit, as_undo, begun, closed, frames_of, is_kept, log_of, logged, made_irrevocable, no_actions, put_back, reads_of, registered, renewed, renewed_at, row, start}
use Rattle.itm_types.{specs.declared.call.Action.Action, specs.declared.call.ActionKind.TheVariants.Undo}

abbrev old : ℕ → ℕ → Old
old place byte = record { place = place; bytes = byte ∷ [] }

abbrev cancellable : Props
cancellable = record { no_abort = false; no_irrevocable = false; goes_irrevocable = false }

abbrev block : List Row → List Old → Frame
block rows log = record { props = cancellable; rows = rows; log = log; commits = 0; undos = 0; reads = 0 }

-- in the outer block byte 0 was logged as 5, in the inner one byte 0 as 6 and byte 1 as 8
abbrev outer : Frame
outer = block [] (old 0 5 ∷ [])

abbrev inner : Frame
inner = block (row 3 255 7 ∷ []) (old 0 6 ∷ old 1 8 ∷ [])

one_more_log : logged (inner ∷ outer ∷ []) (old 1 9 ∷ []) ≡ block (row 3 255 7 ∷ []) (old 0 6 ∷ old 1 8 ∷ old 1 9 ∷ []) ∷ outer ∷ []
one_more_log = refl

-- the outer block has the inner one's logs, and its rows stay those at its own begin
inner_closes : closed (inner ∷ outer ∷ []) ≡ block [] (old 0 5 ∷ old 0 6 ∷ old 1 8 ∷ []) ∷ []
inner_closes = refl

outermost_closes : closed (outer ∷ []) ≡ []
outermost_closes = refl

-- what the outer block found first wins, and byte 1 comes back with it
outer_goes_back : put_back (log_of (closed (inner ∷ outer ∷ []))) (1 ∷ 2 ∷ []) ≡ 5 ∷ 8 ∷ []
outer_goes_back = refl

-- the inner block goes back to what it found
inner_goes_back : put_back (log_of (inner ∷ outer ∷ [])) (1 ∷ 2 ∷ []) ≡ 6 ∷ 8 ∷ []
inner_goes_back = refl

both_go_back : arena_back (inner ∷ outer ∷ []) (1 ∷ 2 ∷ []) ≡ 5 ∷ 8 ∷ []
both_go_back = refl

both_restored : arena_restored (inner ∷ outer ∷ []) (1 ∷ 2 ∷ []) ≡ 5 ∷ 8 ∷ []
both_restored = refl

-- ## A block that runs again

-- nothing is logged in it, and its rows are those at its begin still; the outer block stays
inner_runs_again : renewed (inner ∷ outer ∷ []) ≡ block (row 3 255 7 ∷ []) [] ∷ outer ∷ []
inner_runs_again = refl

-- byte 2 was logged in no block, and stays
logged_bytes_go_back : put_back (log_of (inner ∷ outer ∷ [])) (1 ∷ 2 ∷ 3 ∷ []) ≡ 6 ∷ 8 ∷ 3 ∷ []
logged_bytes_go_back = refl

-- with nothing logged since, another time changes nothing, and both blocks go back to what the outer one found
nothing_goes_back_again : put_back (log_of (renewed (inner ∷ outer ∷ []))) (6 ∷ 8 ∷ 3 ∷ []) ≡ 6 ∷ 8 ∷ 3 ∷ []
nothing_goes_back_again = refl

both_go_back_from_there : arena_back (renewed (inner ∷ outer ∷ [])) (6 ∷ 8 ∷ 3 ∷ []) ≡ 5 ∷ 8 ∷ 3 ∷ []
both_go_back_from_there = refl

-- what it logs then is its own once more, and the outer block has it with its own log
logs_again : closed (logged (renewed (inner ∷ outer ∷ [])) (old 1 8 ∷ [])) ≡ block [] (old 0 5 ∷ old 1 8 ∷ []) ∷ []
logs_again = refl

-- ## Blocks that are not cancelled

abbrev not_cancelled : Frame
not_cancelled = begun (record { no_abort = true; no_irrevocable = false; goes_irrevocable = false }) [] no_actions 0

innermost_is_kept : is_kept (not_cancelled ∷ outer ∷ []) false ≡ true
innermost_is_kept = refl

-- the innermost block may be cancelled, and not all blocks
outer_is_kept : is_kept (inner ∷ not_cancelled ∷ []) true ≡ true
outer_is_kept = refl

inner_may_be_cancelled : is_kept (inner ∷ not_cancelled ∷ []) false ≡ false
inner_may_be_cancelled = refl

none_is_kept : is_kept (inner ∷ outer ∷ []) true ≡ false
none_is_kept = refl

-- ## Actions

abbrev action : ℕ → Action
action fun = record { fun = fun; arg = 0 }

-- in the outer block 1 was registered for a commit and 2 for a rollback, in the inner one 3 and 4; 9 had come to run
abbrev actions : Actions
actions = record { commits = action 1 ∷ action 3 ∷ []; undos = action 2 ∷ action 4 ∷ []; ran = as_undo (action 9) ∷ [] }

abbrev with_actions : Frame
with_actions = record inner { commits = 1; undos = 1; reads = 3 }

-- a block that began between them
between : begun cancellable [] (record { commits = action 1 ∷ []; undos = action 2 ∷ []; ran = [] }) 3 ≡ record outer { log = []; commits = 1; undos = 1; reads = 3 }
between = refl

-- it began with three words read, and an irrevocable one with none
reads_inner : reads_of (with_actions ∷ outer ∷ []) ≡ 3
reads_inner = refl

reads_again : reads_of (renewed (with_actions ∷ outer ∷ [])) ≡ 3
reads_again = refl

nothing_read : made_irrevocable with_actions ≡ block [] []
nothing_read = refl

-- none runs, and none is forgotten
actions_inner_closes : actions_closed (with_actions ∷ outer ∷ []) actions ≡ actions
actions_inner_closes = refl

actions_outermost_closes : actions_closed (outer ∷ []) actions ≡ record { commits = []; undos = []; ran = as_undo (action 9) ∷ as_commit (action 1) ∷ as_commit (action 3) ∷ [] }
actions_outermost_closes = refl

-- the inner block's commit action is never to run
actions_inner_goes_back : actions_cancelled (with_actions ∷ outer ∷ []) actions ≡ record { commits = action 1 ∷ []; undos = action 2 ∷ []; ran = as_undo (action 9) ∷ as_undo (action 4) ∷ [] }
actions_inner_goes_back = refl

-- it runs again and registers undo action 5: that one runs too where it goes back once more
actions_go_back_again : actions_cancelled (renewed (with_actions ∷ outer ∷ []))
    (registered Undo (action 5) (actions_cancelled (with_actions ∷ outer ∷ []) actions))
    ≡ record { commits = action 1 ∷ []; undos = action 2 ∷ []; ran = as_undo (action 9) ∷ as_undo (action 4) ∷ as_undo (action 5) ∷ [] }
actions_go_back_again = refl

actions_both_go_back : actions_back (with_actions ∷ outer ∷ []) actions ≡ record { commits = []; undos = []; ran = as_undo (action 9) ∷ as_undo (action 4) ∷ as_undo (action 2) ∷ [] }
actions_both_go_back = refl

-- ## What the moments stand for

-- word 3 had its first byte written as 7 in the outer block, and as 9 in the inner one
abbrev writes : Written
writes = record { rows = row 3 255 9 ∷ []; saves = row 3 255 7 ∷ []; inner = record { rows = 1; saves = 0 } }

abbrev moments : List Moment
moments =
    record { props = cancellable; rows = record { here = start; outer = start }; log = 0; actions = record { commits = 0; undos = 0 }; reads = 0 }
    ∷ record { props = cancellable; rows = record { here = record { rows = 1; saves = 0 }; outer = start }; log = 1; actions = record { commits = 1; undos = 1 }; reads = 3 }
    ∷ []

two_blocks : frames_of writes (old 0 5 ∷ old 0 6 ∷ old 1 8 ∷ []) moments ≡ with_actions ∷ outer ∷ []
two_blocks = refl

-- the inner one goes back to its begin: word 3 is as the outer block wrote it
inner_begins_again : frames_of (renewed_at writes (record { here = record { rows = 1; saves = 0 }; outer = start })) (old 0 5 ∷ []) moments
    ≡ renewed (with_actions ∷ outer ∷ [])
inner_begins_again = refl

-- a block that begins there
third_block : begun cancellable writes.rows actions 4 ≡ record (block (row 3 255 9 ∷ []) []) { commits = 2; undos = 2; reads = 4 }
third_block = refl
