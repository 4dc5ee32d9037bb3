-- Worked scripts, by computation: each kind of fault, and the order of several.
use Rattle.std.proofs.Common.{◌≡◌, ℕ, List, [], ◌∷◌, ◌<◌, ◌++◌, length, refl, codes}
use Rattle.script_asm.proofs.Common.{MAX_TEXT, fault, lt-ltb, program_of}
use Rattle.script_fields.specs.declared.fault.FaultKind.TheVariants as kinds
use Rattle.script_asm.{proofs.OnLiterals.on_literals, proofs.WorkedTexts.line, proofs.WorkedTexts.script}

-- ## Faults of one line

-- a byte that may not stand there goes before a name that there is none of
character_before_name : program_of (codes "foo" ++ 1 ∷ []) ≡ fault 1 kinds.Character
unfolding on_literals
character_before_name = refl

-- lines that say nothing count, and the name goes before the place
every_line_counted : program_of (line (codes "\r") ++ line (codes " ; foo") ++ line [] ++ codes "foo") ≡ fault 4 kinds.Unknown
unfolding on_literals
every_line_counted = refl

-- a wrong form goes before a number beyond its limit
form_first : program_of (script (codes "_ITM_RU8 r16 18446744073709551616")) ≡ fault 3 kinds.Operand
unfolding on_literals
form_first = refl

-- a number beyond its limit goes before too many threads
no_thread_after_all : program_of (line (codes ".memory 8") ++ line (codes ".thread 64") ++ codes ".thread 0") ≡ fault 3 kinds.Range
unfolding on_literals
no_thread_after_all = refl

-- one thread more than there may be
thread_too_many : program_of (line (codes ".memory 8") ++ codes ".thread 65") ≡ fault 2 kinds.TooLong
unfolding on_literals
thread_too_many = refl

-- restarts of 0 to 10,000 are said once, before the first thread
restarts_beyond : program_of (codes ".restarts 10001") ≡ fault 1 kinds.Range
unfolding on_literals
restarts_beyond = refl

restarts_again : program_of (line (codes ".restarts 0") ++ codes ".restarts x") ≡ fault 2 kinds.Misplaced
unfolding on_literals
restarts_again = refl

restarts_of_a_thread : program_of (script (codes ".restarts 0")) ≡ fault 3 kinds.Misplaced
unfolding on_literals
restarts_of_a_thread = refl

-- a depth of 1 to 64 is said once, before the first thread, where no operand is looked at otherwise
depth_beyond : program_of (codes ".depth 65") ≡ fault 1 kinds.Range
unfolding on_literals
depth_beyond = refl

no_depth : program_of (codes ".depth 0") ≡ fault 1 kinds.Range
unfolding on_literals
no_depth = refl

depth_again : program_of (line (codes ".depth 16") ++ codes ".depth x") ≡ fault 2 kinds.Misplaced
unfolding on_literals
depth_again = refl

depth_of_a_thread : program_of (script (codes ".depth 16")) ≡ fault 3 kinds.Misplaced
unfolding on_literals
depth_of_a_thread = refl

-- ## Blocks and groups

-- a wrong operand goes before an end without its beginning
operands_first : program_of (script (codes "_ITM_commitTransaction r0")) ≡ fault 3 kinds.Operand
unfolding on_literals
operands_first = refl

-- a block does not end within a group that began in it
commit_in_a_part : program_of (script (line (codes "_ITM_beginTransaction r0 -") ++ line (codes "ifnz r1") ++ codes "_ITM_commitTransaction")) ≡ fault 5 kinds.Unbalanced
unfolding on_literals
commit_in_a_part = refl

-- the second `else` of the innermost group, before its operands are looked at
second_else : program_of (script (line (codes "ifnz r1") ++ line (codes "else") ++ codes "else r1")) ≡ fault 5 kinds.Misplaced
unfolding on_literals
second_else = refl

-- a group that is too long is told at its end
group_too_long : program_of (script (line (codes ".rept 65536") ++ line (codes "set r0 1") ++ line (codes "set r0 1") ++ codes ".endr")) ≡ fault 6 kinds.TooLong
unfolding on_literals
group_too_long = refl

-- also where it stands never in the end, since its lines are counted
never_too_long : program_of (script (line (codes ".rept 0") ++ line (codes ".rept 65536") ++ line (codes "set r1 1") ++ line (codes "set r1 1") ++ line (codes ".endr") ++ codes ".endr")) ≡ fault 7 kinds.TooLong
unfolding on_literals
never_too_long = refl

-- a line of a group that stands never may be the one that is too many
never_counted : program_of (script (line (codes ".rept 0") ++ line (codes ".rept 65536") ++ line (codes "set r0 1") ++ line (codes ".endr") ++ codes "set r0 1")) ≡ fault 7 kinds.TooLong
unfolding on_literals
never_counted = refl

-- but once the group has ended they count no more
never_ended : program_of (script (line (codes ".rept 0") ++ line (codes ".rept 65536") ++ line (codes "set r0 1") ++ line (codes ".endr") ++ line (codes ".endr") ++ line (codes ".rept 32769") ++ line (codes "set r0 1") ++ line (codes "set r0 1") ++ codes ".endr")) ≡ fault 11 kinds.TooLong
unfolding on_literals
never_ended = refl

-- ## A section that begins while something is open

-- what is wrong is said of the block that is open, and not of too many threads
left_open : program_of (script (line (codes "_ITM_beginTransaction r0 -") ++ codes ".thread 99")) ≡ fault 3 kinds.Unbalanced
unfolding on_literals
left_open = refl

-- but of the next section's own line where its number is wrong
wrong_count : program_of (script (line (codes "_ITM_beginTransaction r0 -") ++ codes ".thread 0")) ≡ fault 4 kinds.Range
unfolding on_literals
wrong_count = refl

-- ## Faults of the whole

-- a text that is too large is told before its lines are read
too_large : (text : List ℕ) → MAX_TEXT < length text → program_of text ≡ fault 0 kinds.TooLong
unfolding program_of
too_large text long = rw (lt-ltb MAX_TEXT (length text) long) refl

nothing : program_of [] ≡ fault 0 kinds.Misplaced
unfolding on_literals
nothing = refl

-- an item of a thread that is not there is told after the last line, in its own
stray_item : program_of (line (codes ".schedule 0! 1x1") ++ line (codes ".schedule 18446744073709551615!") ++ line (codes ".memory 8") ++ codes ".thread") ≡ fault 1 kinds.Range
unfolding on_literals
stray_item = refl

stray_but_open : program_of (line (codes ".schedule 300!") ++ script (codes "_ITM_beginTransaction r0 -")) ≡ fault 4 kinds.Unbalanced
unfolding on_literals
stray_but_open = refl
