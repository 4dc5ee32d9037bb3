-- Worked cases of blocks within one another, computed.
use Rattle.std.proofs.Common.{◌≡◌, ℕ, List, [], ◌∷◌, true, false, None, Some, refl}
use Rattle.norec_core.proofs.Common.{Code, Core, Done, Frame, NoAbort, Old, Refused, Row, U2, after_undoing, arena_after, block_over, blocks_after, ended, rolled_back, stands_for, undone_of, writes_after}
use Rattle.itm_types.specs.declared.call.Call.TheVariants as calls
use Rattle.norec_core.specs.declared.answer.Undone.TheVariants as undoings
use Rattle.norec_core.proofs.Examples.StepOrder.{Ends, lines, no_props, inside, logged, all_of, byte_of, begin}

-- ## Where they come

abbrev old : ℕ → ℕ → Old
old place byte = record { place = place; bytes = byte ∷ [] }

-- a block that began on these rows, and in which these bytes were logged
abbrev block : List Row → List Old → Frame
block rows olds = record { props = no_props; rows = rows; log = olds; commits = 0; undos = 0; reads = 0 }

-- in the outer block a byte of word 1 was written and byte 0 of the arena logged; in the inner one word 1 and word 2 were written, and the bytes 0 and 1 logged
abbrev pub outer : Frame
outer = block [] (old 0 5 ∷ [])

abbrev pub inner : Frame
inner = block (byte_of 1 0xab ∷ []) (old 0 6 ∷ old 1 8 ∷ [])

abbrev pub nested : Core
nested = record (inside 8 4 (logged 0 7 ∷ []) (all_of 1 9 ∷ byte_of 2 0xcd ∷ [])) { blocks = inner ∷ outer ∷ []; arena = 1 ∷ 2 ∷ 3 ∷ [] }

-- ## No step is taken

-- though there are rows to store
inner_commit : lines nested calls.Commit [] ≡ Ends None ∷ []
inner_commit = refl

outer_cancel : lines nested (calls.Abort true) [] ≡ Ends None ∷ []
outer_cancel = refl

log_inside : lines nested (calls.Log U2 1) [] ≡ Ends None ∷ []
log_inside = refl

-- ## What is left

-- the new block goes back to the rows of this moment
begin_opens : blocks_after nested begin (Code 5) ≡ record (block (all_of 1 9 ∷ byte_of 2 0xcd ∷ []) []) { reads = 1 } ∷ inner ∷ outer ∷ []
begin_opens = refl

-- the outer block has the inner one's logs, and goes back to the rows at its own begin
inner_commit_closes : blocks_after nested calls.Commit Done ≡ block [] (old 0 5 ∷ old 0 6 ∷ old 1 8 ∷ []) ∷ []
inner_commit_closes = refl

-- the outer block is as it was
inner_cancel_closes : blocks_after nested (calls.Abort false) (Code 24) ≡ outer ∷ []
inner_cancel_closes = refl

inner_cancel_takes_rows : writes_after nested [] (calls.Abort false) (Code 24) ≡ byte_of 1 0xab ∷ []
inner_cancel_takes_rows = refl

inner_cancel_puts_back : arena_after nested [] (calls.Abort false) (Code 24) ≡ 6 ∷ 8 ∷ 3 ∷ []
inner_cancel_puts_back = refl

outer_cancel_takes_rows : writes_after nested [] (calls.Abort true) (Code 24) ≡ []
outer_cancel_takes_rows = refl

outer_cancel_puts_back : arena_after nested [] (calls.Abort true) (Code 24) ≡ 5 ∷ 8 ∷ 3 ∷ []
outer_cancel_puts_back = refl

refused_cancel_leaves_arena : arena_after nested [] (calls.Abort true) (Refused NoAbort) ≡ 1 ∷ 2 ∷ 3 ∷ []
refused_cancel_leaves_arena = refl

-- the innermost block has one log more; of no bytes none, also at the arena's end
log_adds : blocks_after nested (calls.Log U2 1) Done ≡ block (byte_of 1 0xab ∷ []) (old 0 6 ∷ old 1 8 ∷ record { place = 1; bytes = 2 ∷ 3 ∷ [] } ∷ []) ∷ outer ∷ []
log_adds = refl

log_of_no_bytes : blocks_after nested (calls.LogBytes 3 0) Done ≡ inner ∷ outer ∷ []
log_of_no_bytes = refl

-- ## Ends of the transaction

-- a conflict goes back to what the outermost block found
conflict_puts_back : (rolled_back nested).arena ≡ 5 ∷ 8 ∷ 3 ∷ []
conflict_puts_back = refl

-- a commit leaves the arena
commit_leaves_arena : (ended nested).arena ≡ 1 ∷ 2 ∷ 3 ∷ []
commit_leaves_arena = refl

given_up : undone_of nested ≡ undoings.Done
given_up = refl

given_up_puts_back : (after_undoing nested).arena ≡ 5 ∷ 8 ∷ 3 ∷ []
given_up_puts_back = refl

-- the holder of the clock is left alone
held : undone_of (record nested { holds = true }) ≡ undoings.Held
held = refl

held_arena : (after_undoing (record nested { holds = true })).arena ≡ 1 ∷ 2 ∷ 3 ∷ []
held_arena = refl

-- ## What a block stands for

-- the memory as at its begin, and each byte of the arena that was logged in it
inner_over : (block_over inner (1 ∷ 2 ∷ 3 ∷ []) (0 ∷ 0 ∷ [])).saved
    ≡ Some (record { memory = 0 ∷ 0 ∷ 0 ∷ 0 ∷ 0 ∷ 0 ∷ 0 ∷ 0 ∷ 0 ∷ 0xab ∷ 0 ∷ 0 ∷ 0 ∷ 0 ∷ 0 ∷ 0 ∷ []; wrote = true; commits = 0; undos = 0; kept = Some 6 ∷ Some 8 ∷ None ∷ [] })
inner_over = refl

-- the memory has what both blocks have written
stands_for_both : (stands_for nested (0 ∷ 0 ∷ 0 ∷ [])).memory
    ≡ 0 ∷ 0 ∷ 0 ∷ 0 ∷ 0 ∷ 0 ∷ 0 ∷ 0 ∷ 9 ∷ 0 ∷ 0 ∷ 0 ∷ 0 ∷ 0 ∷ 0 ∷ 0 ∷ 0 ∷ 0xcd ∷ 0 ∷ 0 ∷ 0 ∷ 0 ∷ 0 ∷ 0 ∷ []
stands_for_both = refl
