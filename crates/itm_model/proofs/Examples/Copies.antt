-- Worked cases of copies and fills, computed.
use Rattle.std.proofs.Common.{◌≡◌, ℕ, ◌+◌, Bool, List, [], ◌∷◌, true, false, map, refl, replicate}
use Rattle.itm_model.proofs.Common.{Abort, Begin, Call, Copy, CopyPair, Done, Fill, In, Out, OutOfArena, OutOfRange, Overlap, Refused, State, W, Within, Write, after, opened, outside, replies, state_after, takes_memory}
use Rattle.itm_types.specs.declared.copy.SharedSide.TheVariants.{T}
use Rattle.itm_model.proofs.Examples.Machines.{plain, start_with, byte}

abbrev copy : Bool → CopyPair → ℕ → ℕ → ℕ → Call
copy moves pair to from size = Copy (record { moves = moves; pair = pair; to = to; from = from; size = size })

-- between shared ranges that may have no byte in common
abbrev memcpy : ℕ → ℕ → ℕ → Call
memcpy to from size = copy false (Within T T) to from size

-- and between any
abbrev memmove : ℕ → ℕ → ℕ → Call
memmove to from size = copy true (Within T T) to from size

-- a block that was just begun on sixteen bytes, each its own place
abbrev count_up : State
count_up = opened (0 ∷ 1 ∷ 2 ∷ 3 ∷ 4 ∷ 5 ∷ 6 ∷ 7 ∷ 8 ∷ 9 ∷ 10 ∷ 11 ∷ 12 ∷ 13 ∷ 14 ∷ 15 ∷ []) [] plain

-- ## A copy between ranges with a byte in common is refused where it does not move, and else takes the bytes as they were

overlap_replies : replies 16 count_up (memcpy 3 0 4 ∷ memmove 3 0 4 ∷ memmove 8 11 4 ∷ []) ≡ Refused Overlap ∷ Done ∷ Done ∷ []
overlap_replies = refl

overlap_memory : (state_after 16 count_up (memmove 3 0 4 ∷ memmove 8 11 4 ∷ [])).memory
    ≡ 0 ∷ 1 ∷ 2 ∷ 0 ∷ 1 ∷ 2 ∷ 3 ∷ 7 ∷ 11 ∷ 12 ∷ 13 ∷ 14 ∷ 12 ∷ 13 ∷ 14 ∷ 15 ∷ []
overlap_memory = refl

-- ## Copies between the memory and the arena, and a fill

abbrev to_and_fro : List Call
to_and_fro = copy false (In T) 0 2 4 ∷ Fill W 0 255 2 ∷ copy false (Out T) 6 1 2 ∷ []

abbrev by_elevens : State
by_elevens = opened (0 ∷ 11 ∷ 22 ∷ 33 ∷ 44 ∷ 55 ∷ 66 ∷ 77 ∷ []) (replicate 4 0) plain

to_and_fro_memory : (state_after 16 by_elevens to_and_fro).memory ≡ 255 ∷ 255 ∷ 22 ∷ 33 ∷ 44 ∷ 55 ∷ 33 ∷ 44 ∷ []
to_and_fro_memory = refl

to_and_fro_arena : (state_after 16 by_elevens to_and_fro).arena ≡ 22 ∷ 33 ∷ 44 ∷ 55 ∷ []
to_and_fro_arena = refl

-- ## A fill takes the low eight bits of its byte

low_bits : (state_after 16 count_up (Fill W 1 (256 + 7) 3 ∷ Fill W 15 255 1 ∷ Fill W 8 256 2 ∷ [])).memory
    ≡ 0 ∷ 7 ∷ 7 ∷ 7 ∷ 4 ∷ 5 ∷ 6 ∷ 7 ∷ 0 ∷ 0 ∷ 10 ∷ 11 ∷ 12 ∷ 13 ∷ 14 ∷ 255 ∷ []
low_bits = refl

-- ## Of no bytes: served up to the very end, with no mark

abbrev of_nothing : List Call
of_nothing =
    memcpy 8 8 0 ∷ memcpy 3 3 0 ∷ memmove 0 8 0 ∷ Fill W 8 9 0
    ∷ copy false (In T) 4 8 0 ∷ copy false (Out T) 8 4 0 ∷ []

of_nothing_unchanged : map (after 16 (start_with 8 4)) of_nothing ≡ replicate 6 (start_with 8 4)
of_nothing_unchanged = refl

-- ## Of more than one fault: what is written, then what is read, then what they have in common

abbrev faults : List Call
faults =
    copy false (In T) 9 9 1 ∷ copy false (In T) 0 9 1 ∷ copy false (Out T) 9 9 1 ∷ copy false (Out T) 0 9 1
    ∷ memcpy 6 5 3 ∷ memcpy 5 6 3 ∷ memmove 6 5 3 ∷ memcpy 4 5 3 ∷ []

faults_replies : replies 16 (start_with 8 4) faults
    ≡ Refused OutOfArena ∷ Refused OutOfRange ∷ Refused OutOfRange ∷ Refused OutOfArena
    ∷ Refused OutOfRange ∷ Refused OutOfRange ∷ Refused OutOfRange ∷ Refused Overlap ∷ []
faults_replies = refl

-- ## A cancel gives the memory back what copies and a fill overwrote, and leaves in the arena what was copied there

abbrev copies_cancelled : List Call
copies_cancelled =
    Write W 0 (byte 9) ∷ Begin plain 0 ∷ memmove 1 0 6 ∷ copy false (In T) 0 1 2 ∷ copy false (Out T) 7 2 1
    ∷ Fill W 4 255 4 ∷ Abort false ∷ []

copies_cancelled_state : state_after 16 by_elevens copies_cancelled ≡ record (after 16 by_elevens (Write W 0 (byte 9))) { arena = 9 ∷ 11 ∷ 0 ∷ 0 ∷ [] }
copies_cancelled_state = refl

-- ## The memory that a copy or a fill can be refused

copies_take_memory : map (takes_memory (outside [] [])) (memcpy 0 8 1 ∷ memmove 0 8 0 ∷ copy false (In T) 0 0 1 ∷ copy true (Out T) 0 0 0 ∷ Fill W 0 0 1 ∷ Fill W 0 0 0 ∷ [])
    ≡ true ∷ false ∷ false ∷ false ∷ true ∷ false ∷ []
copies_take_memory = refl
