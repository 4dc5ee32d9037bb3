-- Worked cases, by computation.
use Rattle.std.proofs.Common.{◌≡◌, true, false, [], ◌∷◌, ◌++◌, replicate, Ok, Err, refl, codes}
use Rattle.script_fields.proofs.Common.{R0, R1, R10, R2, commit_action, count_of, fields, init_of, limit_of, lines, literal, literal_text, none, number, only_mode, place, props, register, register_literal, register_number, register_place, scope, size_of, three_registers, two_registers, undo_action, without_comment}
use Rattle.script_fields.specs.declared.fault.FaultKind.TheVariants as kinds
use Rattle.script_fields.specs.declared.place.Place.TheVariants as places
use Rattle.script_fields.proofs.OnLiterals.{fields_on_literals}

-- ## Lines and fields

-- a carriage return before a line feed is part of the line's end
three_lines : lines (codes "set r1 1" ++ 13 ∷ 10 ∷ 10 ∷ codes "add") ≡ codes "set r1 1" ∷ [] ∷ codes "add" ∷ []
unfolding fields_on_literals
three_lines = refl

-- but not one at the end of the text
lone_return : lines (codes "add" ++ 13 ∷ []) ≡ (codes "add" ++ 13 ∷ []) ∷ []
unfolding fields_on_literals
lone_return = refl

spaced : fields (32 ∷ 9 ∷ codes "set  r1" ++ 9 ∷ codes "5 ") ≡ codes "set" ∷ codes "r1" ∷ codes "5" ∷ []
unfolding fields_on_literals
spaced = refl

comment : without_comment (codes "set r1 1 ; one ; more") ≡ codes "set r1 1 "
unfolding fields_on_literals
comment = refl

-- ## Numbers

largest : number (codes "18446744073709551615") ≡ Ok 18446744073709551615
unfolding fields_on_literals
largest = refl

beyond : number (codes "18446744073709551616") ≡ Err kinds.Range
unfolding fields_on_literals
beyond = refl

leading : number (codes "01") ≡ Err kinds.Operand
unfolding fields_on_literals
leading = refl

-- ## Registers and places

tenth_register : register (codes "r10") ≡ Ok R10
unfolding fields_on_literals
tenth_register = refl

no_register : register (codes "r16") ≡ Err kinds.Operand
unfolding fields_on_literals
no_register = refl

padded_register : register (codes "r01") ≡ Err kinds.Operand
unfolding fields_on_literals
padded_register = refl

place_register : place (codes "r2") ≡ Ok (places.Register R2)
unfolding fields_on_literals
place_register = refl

place_neither : place (codes "r16") ≡ Err kinds.Operand
unfolding fields_on_literals
place_neither = refl

place_beyond : place (codes "99999999999999999999") ≡ Err kinds.Range
unfolding fields_on_literals
place_beyond = refl

-- ## Bytes

-- zeros that the script says are told from those that fill the register
kept_zeros : literal (codes "0100") ≡ Ok (record { bytes = 1 ∷ replicate 31 0; count = 2 })
unfolding fields_on_literals
kept_zeros = refl

more_bytes : literal (replicate 66 49) ≡ Err kinds.Range
unfolding fields_on_literals
more_bytes = refl

-- an odd number of digits is a wrong form however many there are
odd_digits : literal (replicate 65 49) ≡ Err kinds.Operand
unfolding fields_on_literals
odd_digits = refl

written : literal_text (record { bytes = 15 ∷ 160 ∷ replicate 30 0; count = 2 }) ≡ codes "0fa0"
unfolding fields_on_literals
written = refl

-- ## Words

any_order : props (codes "pr_doesGoIrrevocable+pr_hasNoAbort") ≡ Ok (record { no_abort = true; no_irrevocable = false; goes_irrevocable = true })
unfolding fields_on_literals
any_order = refl

twice : props (codes "pr_hasNoAbort+pr_hasNoAbort") ≡ Err kinds.Operand
unfolding fields_on_literals
twice = refl

dash_and_more : props (codes "-+pr_hasNoAbort") ≡ Err kinds.Operand
unfolding fields_on_literals
dash_and_more = refl

outer_scope : scope (codes "userAbort+outerAbort") ≡ Ok true
unfolding fields_on_literals
outer_scope = refl

no_scope : scope (codes "outerAbort") ≡ Err kinds.Operand
unfolding fields_on_literals
no_scope = refl

-- ## Several operands

nothing : none [] ≡ Ok tt
unfolding fields_on_literals
nothing = refl

something : none (codes "r0" ∷ []) ≡ Err kinds.Operand
unfolding fields_on_literals
something = refl

moved : two_registers (codes "r1" ∷ codes "r0" ∷ []) ≡ Ok (R1, R0)
unfolding fields_on_literals
moved = refl

too_few : two_registers (codes "r1" ∷ []) ≡ Err kinds.Operand
unfolding fields_on_literals
too_few = refl

too_many : two_registers (codes "r1" ∷ codes "r0" ∷ codes "r2" ∷ []) ≡ Err kinds.Operand
unfolding fields_on_literals
too_many = refl

summed : three_registers (codes "r0" ∷ codes "r1" ∷ codes "r2" ∷ []) ≡ Ok (R0, (R1, R2))
unfolding fields_on_literals
summed = refl

-- a wrong form goes before a number beyond its limit
form_first : register_number (codes "r16" ∷ codes "18446744073709551616" ∷ []) ≡ Err kinds.Operand
unfolding fields_on_literals
form_first = refl

beyond_after : register_place (codes "r1" ∷ codes "18446744073709551616" ∷ []) ≡ Err kinds.Range
unfolding fields_on_literals
beyond_after = refl

bytes_form : register_literal (codes "r16" ∷ replicate 66 48 ∷ []) ≡ Err kinds.Operand
unfolding fields_on_literals
bytes_form = refl

mode_of : only_mode (codes "modeSerialIrrevocable" ∷ []) ≡ Ok tt
unfolding fields_on_literals
mode_of = refl

no_mode : only_mode (codes "modeObstinate" ∷ []) ≡ Err kinds.Operand
unfolding fields_on_literals
no_mode = refl

commit : commit_action (codes "4294967295" ∷ codes "_ITM_noTransactionId" ∷ codes "r2" ∷ []) ≡ Ok (4294967295, places.Register R2)
unfolding fields_on_literals
commit = refl

commit_beyond : commit_action (codes "4294967296" ∷ codes "_ITM_noTransactionId" ∷ codes "0" ∷ []) ≡ Err kinds.Range
unfolding fields_on_literals
commit_beyond = refl

commit_form : commit_action (codes "4294967296" ∷ codes "1" ∷ codes "0" ∷ []) ≡ Err kinds.Operand
unfolding fields_on_literals
commit_form = refl

undo : undo_action (codes "0" ∷ codes "18446744073709551615" ∷ []) ≡ Ok (0, places.Number 18446744073709551615)
unfolding fields_on_literals
undo = refl

undo_form : undo_action (codes "4294967296" ∷ codes "r99" ∷ []) ≡ Err kinds.Operand
unfolding fields_on_literals
undo_form = refl

-- ## Directives

size : size_of (codes "1048576" ∷ []) ≡ Ok 1048576
unfolding fields_on_literals
size = refl

half_word : size_of (codes "12" ∷ []) ≡ Err kinds.Range
unfolding fields_on_literals
half_word = refl

too_large : size_of (codes "1048584" ∷ []) ≡ Err kinds.Range
unfolding fields_on_literals
too_large = refl

lowest : limit_of 1 1000 (codes "1" ∷ []) ≡ Ok 1
unfolding fields_on_literals
lowest = refl

too_low : limit_of 1 1000 (codes "0" ∷ []) ≡ Err kinds.Range
unfolding fields_on_literals
too_low = refl

too_high : limit_of 1 1000 (codes "1001" ∷ []) ≡ Err kinds.Range
unfolding fields_on_literals
too_high = refl

init : init_of (codes "7" ∷ codes "0fA0" ∷ []) ≡ Ok (7, 15 ∷ 160 ∷ [])
unfolding fields_on_literals
init = refl

init_form : init_of (codes "18446744073709551616" ∷ codes "123" ∷ []) ≡ Err kinds.Operand
unfolding fields_on_literals
init_form = refl

one_thread : count_of [] ≡ Ok 1
unfolding fields_on_literals
one_thread = refl

no_threads : count_of (codes "0" ∷ []) ≡ Err kinds.Range
unfolding fields_on_literals
no_threads = refl

two_counts : count_of (codes "1" ∷ codes "1" ∷ []) ≡ Err kinds.Operand
unfolding fields_on_literals
two_counts = refl
