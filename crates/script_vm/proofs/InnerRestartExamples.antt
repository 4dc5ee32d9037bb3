-- Threads that were worked by hand: where they go back to as a block runs again.
use Rattle.script_vm.proofs.Common.{Code, Done, Instruction, List, None, R0, R1, R2, R3, R4, Some, Thread, at_block, depth_of, next_call, refl, restarted, ℕ, [], ◌∷◌, ◌≡◌}
use Rattle.itm_types.specs.declared.access.Width.TheVariants as width
use Rattle.itm_types.specs.declared.access.ReadHint.TheVariants as read
use Rattle.itm_types.specs.declared.call.Call.TheVariants as calls
use Rattle.script_fields.specs.declared.place.Place.TheVariants as place
use Rattle.script_program.specs.declared.instruction.Instruction.TheVariants as code
use Rattle.script_vm.proofs.Examples.{plain, played, played_within, seven, value_of}
use Rattle.script_vm.proofs.CancelExamples.{entered, log}

-- ## Three blocks

-- two blocks were entered, the inner one made a call, and a third has begun
abbrev third : Thread
third = entered log (Done ∷ Code 5 ∷ [])

third_is_deep : depth_of third ≡ 3
third_is_deep = refl

-- back to the inner one: at its first call, with what was set before that call
abbrev inner : Thread
inner = at_block third 2

as_it_began : inner ≡ entered log []
as_it_began = refl

depth_of_it : depth_of inner ≡ 2
depth_of_it = refl

-- from there the begins of the blocks that are open stay known
outer_from_there : at_block inner 1 ≡ at_block third 1
outer_from_there = refl

outermost_from_there : restarted inner ≡ restarted third
outermost_from_there = refl

-- once the third has closed, the inner one is the innermost
closed_again : at_block (entered log (Done ∷ Code 5 ∷ Done ∷ [])) 2 ≡ inner
closed_again = refl

-- and so where the third was cancelled
cancelled_again : at_block (entered (code.Begin plain R4) (Code 5 ∷ Code 24 ∷ [])) 2 ≡ entered (code.Begin plain R4) []
cancelled_again = refl

-- ## A block that has read

-- the outer block reads, and the inner one logs and reads
abbrev reading : List Instruction
reading =
    code.Set R3 9
    ∷ code.Begin plain R0
    ∷ code.Read read.R width.U8 R1 (place.Number 0)
    ∷ code.Begin plain R4
    ∷ log
    ∷ code.Set R3 1
    ∷ code.Read read.R width.U8 R2 (place.Number 8)
    ∷ code.Read read.R width.U8 R3 (place.Number 16)
    ∷ code.Commit
    ∷ code.Commit
    ∷ []

abbrev all_shown : Thread → List ℕ
all_shown t = value_of t R0 ∷ value_of t R1 ∷ value_of t R2 ∷ value_of t R3 ∷ value_of t R4 ∷ []

-- the outermost block was entered again, and so was told 9
abbrev has_read : Thread
has_read = played reading (Code 9 ∷ seven ∷ Code 5 ∷ Done ∷ seven ∷ [])

before_it : all_shown has_read ≡ 9 ∷ 7 ∷ 7 ∷ 1 ∷ 5 ∷ []
before_it = refl

-- what the outer one read stays, what the inner one did is gone, and 5 is in the register of its begin
after_it : all_shown (at_block has_read 2) ≡ 9 ∷ 7 ∷ 0 ∷ 9 ∷ 5 ∷ []
after_it = refl

-- after the begin, and not at it
goes_on_behind : next_call (at_block has_read 2) ≡ Some (calls.Log width.U1 0)
goes_on_behind = refl

-- of the outermost block it would be entered, and not again
outermost_entered : all_shown (at_block has_read 1) ≡ 5 ∷ 0 ∷ 0 ∷ 9 ∷ 0 ∷ []
outermost_entered = refl

-- ## More blocks than may be

-- where one block may be open, the second ends the thread, which goes back to nowhere else
abbrev too_deep : Thread
too_deep = played_within 1 reading (Code 9 ∷ seven ∷ Code 5 ∷ [])

no_more_calls : next_call too_deep ≡ None
no_more_calls = refl

stays_there : at_block too_deep 2 ≡ too_deep
stays_there = refl

-- of the first it knows the begin
first_of_them : at_block too_deep 1 ≡ played_within 1 reading (Code 5 ∷ [])
first_of_them = refl
