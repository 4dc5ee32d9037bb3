-- Threads that were worked by hand: blocks within blocks.
use Rattle.script_vm.proofs.Common.{Code, Done, Instruction, List, None, R0, R1, R2, R3, R4, Refused, Reply, Some, Thread, datum, depth_of, false, next_call, opening, refl, replicate, restarted, true, ℕ, [], ◌++◌, ◌∷◌, ◌≡◌}
use Rattle.std.specs.List.{flat_map}
use Rattle.itm_types.specs.declared.access.Width.TheVariants as width
use Rattle.itm_types.specs.declared.call.Refusal.TheVariants.{TooDeep, NoAbort}
use Rattle.itm_types.specs.declared.call.Call.TheVariants as calls
use Rattle.script_fields.specs.declared.place.Place.TheVariants as place
use Rattle.script_program.specs.declared.instruction.Instruction.TheVariants as code
use Rattle.script_vm.proofs.Examples.{plain, played, played_within, value_of}

abbrev pub log : Instruction
log = code.Log width.U1 (place.Number 0)

-- a block with one within it, which is cancelled, or both are
abbrev cancels : List Instruction → List Instruction
cancels last =
    code.Begin plain R0
    ∷ code.Set R1 1
    ∷ code.Begin plain R2
    ∷ code.Set R1 2
    ∷ code.Set R3 3
    ∷ last

-- within the inner block a third one stands that is never begun
abbrev last_of : Instruction → List Instruction
last_of call =
    call
    ∷ code.Begin plain R4
    ∷ code.Commit
    ∷ code.Commit
    ∷ log
    ∷ code.Commit
    ∷ code.InTransaction R4
    ∷ []

abbrev pub entered : Instruction → List Reply → Thread
entered call replies = played (cancels (last_of call)) (Code 5 ∷ Code 5 ∷ replies)

abbrev shown : Thread → List ℕ
shown t = value_of t R0 ∷ value_of t R1 ∷ value_of t R2 ∷ value_of t R3 ∷ []

before_the_cancel : shown (entered (code.Abort false) []) ≡ 5 ∷ 2 ∷ 5 ∷ 3 ∷ []
before_the_cancel = refl

-- the registers are those of the inner begin, with the code in its register
inner_cancel : shown (entered (code.Abort false) (Code 24 ∷ [])) ≡ 5 ∷ 1 ∷ 24 ∷ 0 ∷ []
inner_cancel = refl

after_the_inner : (entered (code.Abort false) (Code 24 ∷ [])).rest ≡ log ∷ code.Commit ∷ code.InTransaction R4 ∷ []
after_the_inner = refl

outer_stays : depth_of (entered (code.Abort false) (Code 24 ∷ [])) ≡ 1
outer_stays = refl

-- the registers are those of the outer begin, with the code in its register
outer_cancel : shown (entered (code.Abort true) (Code 24 ∷ [])) ≡ 24 ∷ 0 ∷ 0 ∷ 0 ∷ []
outer_cancel = refl

after_the_outer : (entered (code.Abort true) (Code 24 ∷ [])).rest ≡ code.InTransaction R4 ∷ []
after_the_outer = refl

no_block_stays : depth_of (entered (code.Abort true) (Code 24 ∷ [])) ≡ 0
no_block_stays = refl

-- a cancel that is refused leaves the registers, and the code goes on
refused_cancel : shown (entered (code.Abort false) (Refused NoAbort ∷ [])) ≡ 5 ∷ 2 ∷ 5 ∷ 3 ∷ []
refused_cancel = refl

-- a begin that is refused skips its block, and its register stays
refused_begin : shown (played (code.Set R2 9 ∷ cancels (last_of log)) (Code 5 ∷ Refused TooDeep ∷ [])) ≡ 5 ∷ 1 ∷ 9 ∷ 0 ∷ []
refused_begin = refl

after_the_refused : (played (cancels (last_of log)) (Code 5 ∷ Refused TooDeep ∷ [])).rest ≡ log ∷ code.Commit ∷ code.InTransaction R4 ∷ []
after_the_refused = refl

-- the room of a begin is that up to the end of the outermost block
room_of_the_outer : next_call (opening 16 (cancels (last_of code.Mode))) ≡ Some (calls.Begin plain 10)
room_of_the_outer = refl

room_of_the_inner : next_call (played (cancels (last_of code.Mode)) (Code 5 ∷ [])) ≡ Some (calls.Begin plain 8)
room_of_the_inner = refl

room_of_a_mode : next_call (entered code.Mode []) ≡ Some (calls.Mode 5)
room_of_a_mode = refl

room_of_the_innermost : next_call (entered code.Mode (Done ∷ [])) ≡ Some (calls.Begin plain 4)
room_of_the_innermost = refl

-- a register's low bytes, as many as the width has, are written
writes_low_bytes : (datum (opening 16 (code.Set R1 258 ∷ [])).registers width.U1 R1).bytes.items ≡ 2 ∷ []
unfolding datum
writes_low_bytes = refl

-- where sixteen blocks may be open, a thread that is told of a seventeenth has no more calls; where 17 may be open, it has a begin of its own
abbrev deep : List Instruction
deep = flat_map (λ n. code.Set R1 n ∷ code.Begin plain R0 ∷ []) (1 ∷ 2 ∷ 3 ∷ 4 ∷ 5 ∷ 6 ∷ 7 ∷ 8 ∷ 9 ∷ 10 ∷ 11 ∷ 12 ∷ 13 ∷ 14 ∷ 15 ∷ 16 ∷ 17 ∷ []) ++ code.Abort false ∷ []

abbrev sixteen : List Reply
sixteen = replicate 16 (Code 5)

sixteen_deep : next_call (played deep sixteen) ≡ Some (calls.Begin plain 1)
sixteen_deep = refl

seventeen_deep : depth_of (played deep (sixteen ++ Code 5 ∷ [])) ≡ 17
seventeen_deep = refl

no_more_calls : next_call (played deep (sixteen ++ Code 5 ∷ [])) ≡ None
no_more_calls = refl

-- it goes back to where the outermost began
goes_back : restarted (played deep (sixteen ++ Code 5 ∷ [])) ≡ opening 16 deep
goes_back = refl

abbrev cancelled_at : ℕ → Thread
cancelled_at deepest = played_within deepest deep (sixteen ++ Code 5 ∷ Code 24 ∷ [])

has_its_own : value_of (cancelled_at 17) R1 ≡ 17
has_its_own = refl

-- where one may be open, the second ends it
one_alone : next_call (played_within 1 deep (Code 5 ∷ Code 5 ∷ [])) ≡ None
one_alone = refl
