-- Worked cases of irrevocable transactions, computed: what their calls ask for, step by step, and what they come to.
use Rattle.std.proofs.Common.{◌≡◌, ℕ, List, [], ◌∷◌, true, false, None, Some, refl}
use Rattle.norec_core.proofs.Common.{BackLoad, Busy, Bytes, Call, Committed, Conflict, Core, Datum, Exchange, Fetch, Free, In, Place, Props, RoundEnd, RoundRow, RoundStart, T, Take, U8, W, Within, after, answers, irrevocable_room, leaves, stands_for}
use Rattle.itm_types.specs.declared.call.Call.TheVariants as calls
use Rattle.norec_core.specs.declared.call_parts.Opening.{Opening}
use Rattle.norec_core.specs.declared.call_parts.Writing.{Writing}
use Rattle.norec_core.specs.declared.call_parts.Target.TheVariants as into
use Rattle.norec_core.specs.Aims as aims
use Rattle.norec_core.specs.declared.call_parts.Taking.TheVariants as takings
use Rattle.norec_core.specs.Phases.{Begin, Store}
use Rattle.norec_core.proofs.Examples.StepOrder.{all_of, byte_of, engine_after, exchanges, inside, lines, loads, logged, outside, read, stores}
use Rattle.norec_core.proofs.Examples.StepOrder.Line.{Asks, Ends}

-- ## Entering

abbrev mode : Call
mode = calls.Mode 5

-- the write set is stored, and no store frees the clock
mode_stores_the_rows : lines (inside 2 0 [] (all_of 0 1 ∷ byte_of 1 0xab ∷ [])) mode (0 ∷ 0 ∷ 0x111111 ∷ 0 ∷ [])
    ≡ Asks (Exchange (takings.Mode 5)) (exchanges 0 1)
    ∷ Asks (Store (takings.Mode 5) 0 None) (stores 1 1)
    ∷ Asks (BackLoad (takings.Mode 5) 1) (loads 2)
    ∷ Asks (Store (takings.Mode 5) 1 (Some 0x111111)) (stores 2 0x11ab11)
    ∷ Ends None
    ∷ []
mode_stores_the_rows = refl

-- after a round where another clock is found
mode_after_a_round : lines (inside 2 0 (logged 0 7 ∷ []) []) mode (2 ∷ 2 ∷ 7 ∷ 2 ∷ 2 ∷ [])
    ≡ Asks (Exchange (takings.Mode 5)) (exchanges 0 1)
    ∷ Asks (RoundStart (aims.Take (takings.Mode 5))) (loads 0)
    ∷ Asks (RoundRow (aims.Take (takings.Mode 5)) 0) (loads 1)
    ∷ Asks (RoundEnd (aims.Take (takings.Mode 5))) (loads 0)
    ∷ Asks (Exchange (takings.Mode 5)) (exchanges 2 3)
    ∷ Ends None
    ∷ []
mode_after_a_round = refl

abbrev going : Props
going = record { no_abort = false; no_irrevocable = false; goes_irrevocable = true }

-- a nested begin
nested_begin_goes : lines (inside 2 0 [] (all_of 0 1 ∷ [])) (calls.Begin going 5) (0 ∷ 0 ∷ [])
    ≡ Asks (Exchange (takings.Begin going 5)) (exchanges 0 1) ∷ Asks (Store (takings.Begin going 5) 0 None) (stores 1 1) ∷ Ends None ∷ []
nested_begin_goes = refl

-- where one more block may be open, and not where as many are as may be
deeper_begin_goes : irrevocable_room (record (inside 2 0 [] []) { depth = 2 }) (calls.Begin going 5) ≡ Some 5
deeper_begin_goes = refl

too_deep_begin_stays : irrevocable_room (record (inside 2 0 [] []) { depth = 1 }) (calls.Begin going 5) ≡ None
too_deep_begin_stays = refl

-- an outermost one loads the clock and takes it, as often as the patience says
abbrev op : Opening
op = record { props = going; room = 5; again = false }

begin_loses : lines (outside 2) (calls.Begin going 5) (0 ∷ 2 ∷ 2 ∷ 5 ∷ [])
    ≡ Asks (Begin op) (loads 0) ∷ Asks (Take op) (exchanges 0 1) ∷ Asks (Begin op) (loads 0) ∷ Asks (Take op) (exchanges 2 3) ∷ Ends (Some (Conflict 5 None)) ∷ []
begin_loses = refl

begin_busy : lines (outside 2) (calls.Begin going 5) (0 ∷ 2 ∷ 3 ∷ []) ≡ Asks (Begin op) (loads 0) ∷ Asks (Take op) (exchanges 0 1) ∷ Asks (Begin op) (loads 0) ∷ Ends (Some (Busy 3)) ∷ []
begin_busy = refl

-- ## Inside

-- over four words and an arena of four bytes
abbrev held : Core
held = record (inside 2 0 [] []) { arena = 1 ∷ 2 ∷ 3 ∷ 4 ∷ []; irrevocable = true; holds = true }

abbrev words : List ℕ
words = 0x0706050403020100 ∷ 0x0f0e0d0c0b0a0908 ∷ 0x1716151413121110 ∷ 0x1f1e1d1c1b1a1918 ∷ []

reads_the_memory : answers (engine_after held (read 12) []) words ≡ Bytes (record { items = 12 ∷ 13 ∷ 14 ∷ 15 ∷ 16 ∷ 17 ∷ 18 ∷ 19 ∷ [] })
reads_the_memory = refl

-- with the first piece read, of the other one what the memory has
reads_on : answers (engine_after held (read 12) (0xffffffff00000000 ∷ [])) words ≡ Bytes (record { items = 255 ∷ 255 ∷ 255 ∷ 255 ∷ 16 ∷ 17 ∷ 18 ∷ 19 ∷ [] })
reads_on = refl

abbrev word : Datum
word = record { width = U8; bytes = record { items = 8 ∷ 7 ∷ 6 ∷ 5 ∷ 4 ∷ 3 ∷ 2 ∷ 1 ∷ [] }; sized = refl }

abbrev word_at : ℕ → ℕ → Writing
word_at at number = record { target = into.Value W U8; at = at; size = 8; number = number }

-- across two words, piece by piece
stores_two_parts : lines held (calls.Write W 4 word) (0 ∷ 0 ∷ 0 ∷ 0 ∷ [])
    ≡ Asks (Fetch (word_at 4 0)) (loads 1)
    ∷ Asks (Place (word_at 4 0) (Some 0)) (stores 1 0x0506070800000000)
    ∷ Asks (Fetch (word_at 4 1)) (loads 2)
    ∷ Asks (Place (word_at 4 1) (Some 0)) (stores 2 0x01020304)
    ∷ Ends None
    ∷ []
stores_two_parts = refl

-- before its first step and between any two it comes to what the plain machine makes of it
comes_to_the_write : leaves (engine_after held (calls.Write W 4 word) []) words ≡ after 16 (stands_for held words) (calls.Write W 4 word)
comes_to_the_write = refl

-- a move to overlapping bytes above, from the high end, chunk by chunk
abbrev move_up : Call
move_up = calls.Copy (record { moves = true; pair = Within T T; to = 5; from = 3; size = 9 })

comes_to_the_move : leaves (engine_after held move_up []) words ≡ after 16 (stands_for held words) move_up
comes_to_the_move = refl

-- into the arena
abbrev move_in : Call
move_in = calls.Copy (record { moves = false; pair = In T; to = 1; from = 30; size = 2 })

copied_in : (engine_after held move_in (0x1f1e1d1c1b1a1918 ∷ [])).arena ≡ 1 ∷ 30 ∷ 31 ∷ 4 ∷ []
copied_in = refl

comes_to_the_fill : leaves (engine_after held (calls.Fill W 6 0x1ab 5) []) words ≡ after 16 (stands_for held words) (calls.Fill W 6 0x1ab 5)
comes_to_the_fill = refl

commit_frees : lines held calls.Commit (0 ∷ []) ≡ Asks Free (stores 0 2) ∷ Ends (Some (Committed 0 true)) ∷ []
commit_frees = refl
