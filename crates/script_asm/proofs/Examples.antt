-- Worked scripts, by computation: whole programs.
use Rattle.std.proofs.Common.{◌≡◌, List, ℕ, [], ◌∷◌, ◌++◌, Ok, refl, true, false, codes, replicate}
use Rattle.script_asm.proofs.Common.{Instruction, Listing, MAX_COMMITS, Part, Placed, opening_of, program_of, threads_of}
use Rattle.itm_types.specs.declared.access.ReadHint.TheVariants.{R, RfW}
use Rattle.itm_types.specs.declared.access.WriteHint.TheVariants.{W, WaR}
use Rattle.itm_types.specs.declared.access.Width.TheVariants as width
use Rattle.itm_types.specs.declared.copy.CopyPair.TheVariants.{In, Within}
use Rattle.itm_types.specs.declared.copy.SharedSide.TheVariants as sides
use Rattle.itm_types.specs.declared.call.Props.{Props}
use Rattle.script_fields.specs.declared.register.Register.TheVariants.{R0, R1, R2, R3, R15}
use Rattle.script_fields.specs.declared.place.Place.TheVariants as places
use Rattle.script_program.specs.declared.instruction.Instruction.TheVariants as code
use Rattle.script_program.specs.declared.instruction.Operation.TheVariants as operations
use Rattle.script_program.specs.declared.instruction.ArenaWidth.TheVariants as widths
use Rattle.script_program.specs.declared.schedule.Item.TheVariants.{Take, Out}
use Rattle.script_asm.{proofs.OnLiterals.on_literals, proofs.WorkedTexts.line, proofs.WorkedTexts.script}

-- with the limits that are not said
abbrev listing : ℕ → List Part → Listing
listing memory parts = record {
  memory = record { size = memory; inits = [] };
  arena = 0;
  limits = record { patience = 8; retries = 100; max_commits = MAX_COMMITS; depth = 16; restarts = 0 };
  schedule = [];
  parts = parts;
}

abbrev part : ℕ → List Instruction → Part
part count code = record { count = count; code = code }

abbrev placed : ℕ → List ℕ → Placed
placed at bytes = record { at = at; bytes = bytes }

abbrev no_props : Props
no_props = record { no_abort = false; no_irrevocable = false; goes_irrevocable = false }

-- ## Programs

abbrev counter_code : List Instruction
counter_code =
    code.Set R1 1
    ∷ code.Begin no_props R0
    ∷ code.Read R width.U8 R2 (places.Number 0)
    ∷ code.Compute operations.Add R2 R2 R1
    ∷ code.Write W width.U8 (places.Number 0) R2
    ∷ code.Commit
    ∷ []

abbrev counter_text : List ℕ
counter_text = line (codes "set r1 1 ; one") ++ line (codes "_ITM_beginTransaction r0 -") ++ line (codes "  _ITM_RU8 r2 0") ++ line (codes "add\tr2 r2 r1\r") ++ line (codes "_ITM_WU8 0 r2") ++ codes "_ITM_commitTransaction"

counter_script : program_of (script counter_text) ≡ Ok (listing 8 (part 1 counter_code ∷ []))
unfolding on_literals
counter_script = refl

-- two threads with one code, and who takes the next events
lost_update : program_of (line (codes ".memory 8") ++ line (codes ".schedule 0x3 1x6 0!") ++ line (codes ".thread 2") ++ counter_text)
    ≡ Ok (record (listing 8 (part 2 counter_code ∷ [])) { schedule = Take 0 3 ∷ Take 1 6 ∷ Out 0 ∷ [] })
unfolding on_literals
lost_update = refl

two_codes : threads_of (listing 8 (part 2 counter_code ∷ [])) ≡ counter_code ∷ counter_code ∷ []
unfolding on_literals
two_codes = refl

-- several sections; the code of a thread may be empty
sections : program_of (line (codes ".schedule 2!") ++ line (codes ".memory 16") ++ line (codes ".schedule 0x1000000 3x1") ++ line (codes ".thread 3") ++ line (codes ".thread") ++ codes "set r15 7")
    ≡ Ok (record (listing 16 (part 3 [] ∷ part 1 (code.Set R15 7 ∷ []) ∷ [])) { schedule = Out 2 ∷ Take 0 1000000 ∷ Take 3 1 ∷ [] })
unfolding on_literals
sections = refl

four_codes : threads_of (listing 16 (part 3 [] ∷ part 1 (code.Set R15 7 ∷ []) ∷ [])) ≡ [] ∷ [] ∷ [] ∷ (code.Set R15 7 ∷ []) ∷ []
unfolding on_literals
four_codes = refl

-- bytes over bytes: the last one to write a byte wins
abbrev overlapping : Listing
overlapping = record (listing 8 (part 1 [] ∷ [])) { memory = record { size = 8; inits = placed 0 (17 ∷ 34 ∷ 51 ∷ 68 ∷ []) ∷ placed 2 (170 ∷ 187 ∷ 204 ∷ []) ∷ placed 7 (255 ∷ []) ∷ [] } }

laid_twice : program_of (line (codes ".memory 8") ++ line (codes ".init 0 11223344") ++ line (codes ".init 2 aaBBcc") ++ line (codes ".init 7 FF") ++ codes ".thread") ≡ Ok overlapping
unfolding on_literals
laid_twice = refl

laid_bytes : opening_of overlapping ≡ 17 ∷ 34 ∷ 170 ∷ 187 ∷ 204 ∷ 0 ∷ 0 ∷ 255 ∷ []
unfolding on_literals
laid_bytes = refl

limits : program_of (line (codes ".patience 1000") ++ line (codes ".arena 4096") ++ line (codes ".retries 0") ++ line (codes ".commits 1") ++ line (codes ".restarts 10000") ++ line (codes ".depth 64") ++ line (codes ".memory 8") ++ codes ".thread")
    ≡ Ok (record (listing 8 (part 1 [] ∷ [])) { arena = 4096; limits = record { patience = 1000; retries = 0; max_commits = 1; depth = 64; restarts = 10000 } })
unfolding on_literals
limits = refl

-- ## Instructions

registers : program_of (script (line (codes "bytes r3 0aFF") ++ line (codes "mov r0 r15") ++ line (codes "sub r0 r1 r2") ++ line (codes "and r0 r1 r2") ++ codes "ltu r0 r1 r2"))
    ≡ Ok (listing 8 (part 1 (
    code.Bytes R3 (record { bytes = 10 ∷ 255 ∷ replicate 30 0; count = 2 })
    ∷ code.Move R0 R15
    ∷ code.Compute operations.Sub R0 R1 R2
    ∷ code.Compute operations.And R0 R1 R2
    ∷ code.Compute operations.LessThan R0 R1 R2
    ∷ []) ∷ []))
unfolding on_literals
registers = refl

arena : program_of (script (line (codes "ld1 r0 4095") ++ line (codes "ld4 r1 r2") ++ line (codes "st2 r3 r0") ++ codes "st8 0 r1"))
    ≡ Ok (listing 8 (part 1 (
    code.Load widths.One R0 (places.Number 4095)
    ∷ code.Load widths.Four R1 (places.Register R2)
    ∷ code.Save widths.Two (places.Register R3) R0
    ∷ code.Save widths.Eight (places.Number 0) R1
    ∷ []) ∷ []))
unfolding on_literals
arena = refl

control : program_of (script (line (codes "_ITM_inTransaction r1") ++ line (codes "_ITM_changeTransactionMode modeSerialIrrevocable") ++ line (codes "_ITM_abortTransaction userAbort+outerAbort") ++ line (codes "_ITM_addUserCommitAction 4294967295 _ITM_noTransactionId r1") ++ codes "_ITM_addUserUndoAction 0 7"))
    ≡ Ok (listing 8 (part 1 (
    code.InTransaction R1
    ∷ code.Mode
    ∷ code.Abort true
    ∷ code.CommitAction 4294967295 (places.Register R1)
    ∷ code.UndoAction 0 (places.Number 7)
    ∷ []) ∷ []))
unfolding on_literals
control = refl

barriers : program_of (script (line (codes "_ITM_RfWM256 r1 r2") ++ line (codes "_ITM_WaRF r2 r1") ++ line (codes "_ITM_LCD 16") ++ line (codes "_ITM_LB r1 3") ++ line (codes "_ITM_memcpyRtaRWn 1 r2 3") ++ line (codes "_ITM_memmoveRtWtaW r1 2 r3") ++ codes "_ITM_memsetWaR 0 255 8"))
    ≡ Ok (listing 8 (part 1 (
    code.Read RfW width.M256 R1 (places.Register R2)
    ∷ code.Write WaR width.F (places.Register R2) R1
    ∷ code.Log width.CD (places.Number 16)
    ∷ code.LogBytes (places.Register R1) (places.Number 3)
    ∷ code.Copy false (In sides.TaR) (places.Number 1) (places.Register R2) (places.Number 3)
    ∷ code.Copy true (Within sides.T sides.TaW) (places.Register R1) (places.Number 2) (places.Register R3)
    ∷ code.Fill WaR (places.Number 0) (places.Number 255) (places.Number 8)
    ∷ []) ∷ []))
unfolding on_literals
barriers = refl

-- ## Blocks and groups

-- blocks and groups within each other, with properties
nested : program_of (script (line (codes "_ITM_beginTransaction r0 pr_doesGoIrrevocable+pr_hasNoAbort") ++ line (codes "ifnz r0") ++ line (codes "_ITM_beginTransaction r1 -") ++ line (codes "_ITM_commitTransaction") ++ line (codes "else") ++ line (codes "endif") ++ codes "_ITM_commitTransaction"))
    ≡ Ok (listing 8 (part 1 (
    code.Begin (record { no_abort = true; no_irrevocable = false; goes_irrevocable = true }) R0
    ∷ code.IfNotZero R0
    ∷ code.Begin no_props R1
    ∷ code.Commit
    ∷ code.Else
    ∷ code.EndIf
    ∷ code.Commit
    ∷ []) ∷ []))
unfolding on_literals
nested = refl

abbrev set_to : ℕ → Instruction
set_to n = code.Set R0 n

-- a group's code stands so many times, also within a group
repeats : program_of (script (line (codes "set r0 1") ++ line (codes ".rept 2") ++ line (codes "set r0 2") ++ line (codes ".rept 3") ++ line (codes "set r0 3") ++ line (codes ".endr") ++ line (codes ".endr") ++ codes "set r0 4"))
    ≡ Ok (listing 8 (part 1 (set_to 1 ∷ set_to 2 ∷ set_to 3 ∷ set_to 3 ∷ set_to 3 ∷ set_to 2 ∷ set_to 3 ∷ set_to 3 ∷ set_to 3 ∷ set_to 4 ∷ []) ∷ []))
unfolding on_literals
repeats = refl

-- none and one
no_repeats : program_of (script (line (codes ".rept 0") ++ line (codes "set r0 1") ++ line (codes ".endr") ++ line (codes ".rept 1") ++ line (codes "set r0 2") ++ codes ".endr"))
    ≡ Ok (listing 8 (part 1 (set_to 2 ∷ []) ∷ []))
unfolding on_literals
no_repeats = refl

-- within a group that stands never nothing stands, whatever its own groups say
never_within : program_of (script (line (codes ".rept 0") ++ line (codes "set r0 1") ++ line (codes ".rept 0") ++ line (codes "set r0 2") ++ line (codes ".endr") ++ line (codes ".rept 3") ++ line (codes "ifnz r0") ++ line (codes "else") ++ line (codes "endif") ++ line (codes ".endr") ++ line (codes "set r0 3") ++ line (codes ".endr") ++ codes "set r0 4"))
    ≡ Ok (listing 8 (part 1 (set_to 4 ∷ []) ∷ []))
unfolding on_literals
never_within = refl

-- a group that stands never leaves the lines around it as they are, also within a group that stands several times
never_between : program_of (script (line (codes ".rept 2") ++ line (codes "set r0 1") ++ line (codes ".rept 0") ++ line (codes "set r0 2") ++ line (codes ".endr") ++ line (codes ".rept 0") ++ line (codes ".endr") ++ line (codes ".rept 2") ++ line (codes "set r0 3") ++ line (codes ".endr") ++ codes ".endr"))
    ≡ Ok (listing 8 (part 1 (set_to 1 ∷ set_to 3 ∷ set_to 3 ∷ set_to 1 ∷ set_to 3 ∷ set_to 3 ∷ []) ∷ []))
unfolding on_literals
never_between = refl

-- groups of nothing
empty_repeats : program_of (script (line (codes ".rept 9") ++ line (codes ".rept 9") ++ line (codes ".rept 9") ++ line (codes ".endr") ++ line (codes ".endr") ++ codes ".endr"))
    ≡ Ok (listing 8 (part 1 [] ∷ []))
unfolding on_literals
empty_repeats = refl

-- a group in each part, and blocks that end where they began
in_parts : program_of (script (line (codes "ifnz r1") ++ line (codes ".rept 2") ++ line (codes "set r0 1") ++ line (codes ".endr") ++ line (codes "else") ++ line (codes ".rept 1") ++ line (codes "ifnz r2") ++ line (codes "endif") ++ line (codes ".endr") ++ codes "endif"))
    ≡ Ok (listing 8 (part 1 (code.IfNotZero R1 ∷ set_to 1 ∷ set_to 1 ∷ code.Else ∷ code.IfNotZero R2 ∷ code.EndIf ∷ code.EndIf ∷ []) ∷ []))
unfolding on_literals
in_parts = refl

-- in a later section a group has that section's code
repeats_later : program_of (line (codes ".memory 8") ++ line (codes ".thread") ++ line (codes "set r0 1") ++ line (codes "set r0 2") ++ line (codes ".thread") ++ line (codes ".rept 2") ++ line (codes "set r0 3") ++ codes ".endr")
    ≡ Ok (listing 8 (part 1 (set_to 1 ∷ set_to 2 ∷ []) ∷ part 1 (set_to 3 ∷ set_to 3 ∷ []) ∷ []))
unfolding on_literals
repeats_later = refl
