-- Worked cases of a block that goes back to its begin: the steps up to it, and what it leaves.
use Rattle.std.proofs.Common.{◌≡◌, ℕ, [], ◌∷◌, true, None, Some, refl}
use Rattle.norec_core.proofs.Common.{Aim, Confirm, Conflict, Core, Exchange, Frame, Old, Restarted, RoundBack, RoundRow, RoundStart, as_undo, back, begun_again, handed, log_after, may_restart, no_actions, renewed, snapshot_after, stands_for}
use Rattle.itm_types.specs.declared.call.Call.TheVariants as calls
use Rattle.norec_core.specs.Aims as aims
use Rattle.norec_core.specs.Phases.{Load}
use Rattle.norec_core.specs.declared.call_parts.Taking.TheVariants as takings
use Rattle.norec_core.proofs.Examples.StepOrder.{Asks, Ends, lines, engine_after, no_props, inside, logged, all_of, first, read, loads, exchanges}

abbrev old : ℕ → ℕ → Old
old place byte = record { place = place; bytes = byte ∷ [] }

-- the outer block read word 0; the inner one logged byte 0 of the arena, wrote 9 to both bytes, and read word 1, which was 0
abbrev pub outer : Frame
outer = record { props = no_props; rows = []; log = []; commits = 0; undos = 0; reads = 0 }

abbrev pub inner : Frame
inner = record { props = no_props; rows = []; log = old 0 0 ∷ []; commits = 0; undos = 0; reads = 1 }

abbrev reader : Core
reader = record (inside 8 0 (logged 0 0 ∷ logged 1 0 ∷ []) []) { restarts = 1; blocks = inner ∷ outer ∷ []; arena = 9 ∷ 9 ∷ [] }

abbrev aim : Aim
aim = aims.Read (first 16)

-- ## The steps

-- another thread has written 7 to word 1, and the clock is 2
goes_back : lines reader (read 16) (0 ∷ 2 ∷ 2 ∷ 0 ∷ 7 ∷ 2 ∷ [])
    ≡ Asks (Load (first 16)) (loads 3)
    ∷ Asks (Confirm (first 16) 0) (loads 0)
    ∷ Asks (RoundStart aim) (loads 0)
    ∷ Asks (RoundRow aim 0) (loads 1)
    ∷ Asks (RoundRow aim 1) (loads 2)
    ∷ Asks (RoundBack aim 1) (loads 0)
    ∷ Ends (Some (Restarted 2 1))
    ∷ []
goes_back = refl

-- the clock has moved again: the round is spent, and the next one compares the whole log
moved_again : lines reader (read 16) (0 ∷ 2 ∷ 2 ∷ 0 ∷ 7 ∷ 3 ∷ 4 ∷ 0 ∷ [])
    ≡ Asks (Load (first 16)) (loads 3)
    ∷ Asks (Confirm (first 16) 0) (loads 0)
    ∷ Asks (RoundStart aim) (loads 0)
    ∷ Asks (RoundRow aim 0) (loads 1)
    ∷ Asks (RoundRow aim 1) (loads 2)
    ∷ Asks (RoundBack aim 1) (loads 0)
    ∷ Asks (RoundStart aim) (loads 0)
    ∷ Asks (RoundRow aim 0) (loads 1)
    ∷ Asks (RoundRow aim 1) (loads 2)
    ∷ []
moved_again = refl

-- and where no round is left, the transaction ends
no_round_left : lines (record reader { patience = 1 }) (read 16) (0 ∷ 2 ∷ 2 ∷ 0 ∷ 7 ∷ 3 ∷ [])
    ≡ Asks (Load (first 16)) (loads 3)
    ∷ Asks (Confirm (first 16) 0) (loads 0)
    ∷ Asks (RoundStart aim) (loads 0)
    ∷ Asks (RoundRow aim 0) (loads 1)
    ∷ Asks (RoundRow aim 1) (loads 2)
    ∷ Asks (RoundBack aim 1) (loads 0)
    ∷ Ends (Some (Conflict 3 None))
    ∷ []
no_round_left = refl

-- a row of the outer part differs
outer_part : lines reader (read 16) (0 ∷ 2 ∷ 2 ∷ 5 ∷ [])
    ≡ Asks (Load (first 16)) (loads 3)
    ∷ Asks (Confirm (first 16) 0) (loads 0)
    ∷ Asks (RoundStart aim) (loads 0)
    ∷ Asks (RoundRow aim 0) (loads 1)
    ∷ Ends (Some (Conflict 2 (Some 0)))
    ∷ []
outer_part = refl

-- no restart is left
abbrev last_lines : Core → Type 0
last_lines c = lines c (read 16) (0 ∷ 2 ∷ 2 ∷ 0 ∷ 7 ∷ [])
    ≡ Asks (Load (first 16)) (loads 3)
    ∷ Asks (Confirm (first 16) 0) (loads 0)
    ∷ Asks (RoundStart aim) (loads 0)
    ∷ Asks (RoundRow aim 0) (loads 1)
    ∷ Asks (RoundRow aim 1) (loads 2)
    ∷ Ends (Some (Conflict 2 (Some 1)))
    ∷ []

none_left : last_lines (record reader { restarted = 1 })
none_left = refl

-- or none may be made
none_made : last_lines (record reader { restarts = 0 })
none_made = refl

-- or one block is open
one_block : last_lines (record reader { blocks = outer ∷ [] })
one_block = refl

-- a call that is to make the transaction irrevocable is dropped likewise
goes_back_at_a_mode : lines reader (calls.Mode 3) (2 ∷ 2 ∷ 0 ∷ 7 ∷ 2 ∷ [])
    ≡ Asks (Exchange (takings.Mode 3)) (exchanges 0 1)
    ∷ Asks (RoundStart (aims.Take (takings.Mode 3))) (loads 0)
    ∷ Asks (RoundRow (aims.Take (takings.Mode 3)) 0) (loads 1)
    ∷ Asks (RoundRow (aims.Take (takings.Mode 3)) 1) (loads 2)
    ∷ Asks (RoundBack (aims.Take (takings.Mode 3)) 1) (loads 0)
    ∷ Ends (Some (Restarted 2 1))
    ∷ []
goes_back_at_a_mode = refl

-- ## What it leaves

-- the engine as it waits for the clock that decides
abbrev deciding : Core
deciding = engine_after reader (read 16) (0 ∷ 2 ∷ 2 ∷ 0 ∷ 7 ∷ [])

may : may_restart deciding 1 ≡ true
may = refl

abbrev mid : Core
mid = handed deciding 2

abbrev new : Core
new = renewed mid 2

snapshot_moves : snapshot_after deciding 2 ≡ new.snapshot
snapshot_moves = refl

log_is_cut : log_after deciding 2 ≡ new.log
log_is_cut = refl

log_left : new.log ≡ logged 0 0 ∷ []
log_left = refl

-- the logged byte of the arena is put back, and the other one stays
arena_left : new.arena ≡ 0 ∷ 9 ∷ []
arena_left = refl

blocks_left : new.blocks ≡ record inner { log = [] } ∷ outer ∷ []
blocks_left = refl

-- over a memory it stands for the block rolled back and begun again
stands_again : stands_for new (0 ∷ 7 ∷ 0 ∷ 0 ∷ []) ≡ begun_again mid.blocks (back (stands_for mid (0 ∷ 7 ∷ 0 ∷ 0 ∷ [])))
stands_again = refl

-- ## What the block has registered and written

abbrev acting : Core
acting = record reader {
  writes = all_of 2 5 ∷ all_of 3 6 ∷ [];
  blocks = record inner { rows = all_of 2 4 ∷ []; commits = 1; undos = 1 } ∷ outer ∷ [];
  actions = record no_actions { commits = record { fun = 1; arg = 0 } ∷ record { fun = 2; arg = 0 } ∷ []; undos = record { fun = 3; arg = 0 } ∷ record { fun = 4; arg = 0 } ∷ record { fun = 5; arg = 0 } ∷ [] };
}

acts_again : (renewed acting 2).actions
    ≡ record { commits = record { fun = 1; arg = 0 } ∷ []; undos = record { fun = 3; arg = 0 } ∷ []; ran = as_undo (record { fun = 5; arg = 0 }) ∷ as_undo (record { fun = 4; arg = 0 }) ∷ [] }
acts_again = refl

writes_again : (renewed acting 2).writes ≡ all_of 2 4 ∷ []
writes_again = refl

stands_with_them : stands_for (renewed acting 2) (0 ∷ 7 ∷ 0 ∷ 0 ∷ []) ≡ begun_again acting.blocks (back (stands_for acting (0 ∷ 7 ∷ 0 ∷ 0 ∷ [])))
stands_with_them = refl
