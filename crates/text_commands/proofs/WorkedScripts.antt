-- Scripts with the programs that they are, by computation.
use Rattle.std.proofs.Common.{◌≡◌, List, ℕ, [], ◌∷◌, ◌++◌, Ok, false, refl}
use Rattle.std.specs.Prelude.{codes}
use Rattle.itm_types.specs.declared.access.ReadHint.TheVariants.{R}
use Rattle.itm_types.specs.declared.access.Width.TheVariants.{U8}
use Rattle.itm_types.specs.declared.access.WriteHint.TheVariants.{W}
use Rattle.itm_types.specs.declared.limits.TheConstants.{MAX_COMMITS}
use Rattle.script_asm.{specs.Assembly.program_of, proofs.OnLiterals.on_literals}
use Rattle.script_fields.specs.declared.place.Place.TheVariants.{Number}
use Rattle.script_fields.specs.declared.register.Register.TheVariants.{R0, R1, R2}
use Rattle.script_program.specs.declared.instruction.Instruction.{Instruction}
use Rattle.script_program.specs.declared.instruction.Instruction.TheVariants as code
use Rattle.script_program.specs.declared.instruction.Operation.TheVariants.{Add}
use Rattle.script_program.specs.declared.schedule.Item.TheVariants.{Take, Out}
use Rattle.script_program.specs.Listing.{Listing}
use Rattle.tx_history.proofs.WorkedLines.{line}

-- a program of so many threads with one code, of which a script says nothing else but the memory
abbrev pub listing : ℕ → ℕ → List Instruction → Listing
listing memory threads instructions = record {
  memory = record { size = memory; inits = [] };
  arena = 0;
  limits = record { patience = 8; retries = 100; max_commits = MAX_COMMITS; depth = 16; restarts = 0 };
  schedule = [];
  parts = record { count = threads; code = instructions } ∷ [];
}

abbrev one_thread : ℕ → List Instruction → Listing
one_thread memory instructions = listing memory 1 instructions

-- a script of one thread with this code
abbrev script : List ℕ → List ℕ
script code = line (codes ".memory 8") ++ line (codes ".thread") ++ code

abbrev pub counter_code : List Instruction
counter_code = code.Set R1 1 ∷ code.Begin (record { no_abort = false; no_irrevocable = false; goes_irrevocable = false }) R0 ∷ code.Read R U8 R2 (Number 0) ∷ code.Compute Add R2 R2 R1 ∷ code.Write W U8 (Number 0) R2 ∷ code.Commit ∷ []

abbrev pub counter : Listing
counter = one_thread 8 counter_code

counter_script : program_of (script (line (codes "set r1 1 ; one") ++ line (codes "_ITM_beginTransaction r0 -") ++ line (codes "  _ITM_RU8 r2 0") ++ line (codes "add\tr2 r2 r1\r") ++ line (codes "_ITM_WU8 0 r2") ++ codes "_ITM_commitTransaction")) ≡ Ok counter
unfolding on_literals
counter_script = refl

abbrev pub empty_block : Listing
empty_block = one_thread 8 (code.Begin (record { no_abort = false; no_irrevocable = false; goes_irrevocable = false }) R0 ∷ code.Commit ∷ [])

empty_block_script : program_of (script (line (codes "_ITM_beginTransaction r0 -") ++ line (codes "_ITM_commitTransaction"))) ≡ Ok empty_block
unfolding on_literals
empty_block_script = refl

-- a read beyond the memory is refused, and its register stays
abbrev pub beyond : Listing
beyond = one_thread 8 (code.Set R1 5 ∷ code.Begin (record { no_abort = false; no_irrevocable = false; goes_irrevocable = false }) R0 ∷ code.Read R U8 R1 (Number 8) ∷ code.Write W U8 (Number 0) R1 ∷ code.Commit ∷ [])

beyond_script : program_of (script (line (codes "set r1 5") ++ line (codes "_ITM_beginTransaction r0 -") ++ line (codes "_ITM_RU8 r1 8") ++ line (codes "_ITM_WU8 0 r1") ++ line (codes "_ITM_commitTransaction"))) ≡ Ok beyond
unfolding on_literals
beyond_script = refl

-- bytes that lie over one another at the start, read and written over the end of a word
abbrev pub laid_in : Listing
laid_in = record (one_thread 16 (code.Begin (record { no_abort = false; no_irrevocable = false; goes_irrevocable = false }) R0 ∷ code.Read R U8 R1 (Number 4) ∷ code.Write W U8 (Number 8) R1 ∷ code.Commit ∷ [])) {
  memory = record { size = 16; inits = record { at = 6; bytes = 161 ∷ 178 ∷ 195 ∷ [] } ∷ record { at = 8; bytes = 0 ∷ [] } ∷ [] };
}

laid_in_script : program_of (line (codes ".memory 16") ++ line (codes ".init 6 A1b2c3") ++ line (codes ".init 8 00") ++ line (codes ".thread") ++ line (codes "_ITM_beginTransaction r0 -") ++ line (codes "_ITM_RU8 r1 4") ++ line (codes "_ITM_WU8 8 r1") ++ codes "_ITM_commitTransaction") ≡ Ok laid_in
unfolding on_literals
laid_in_script = refl

-- blocks where one writer may commit: one that writes, one that reads what it wrote, and one that is full, after which none begins
abbrev pub one_commit : Listing
one_commit = record (one_thread 8 (
    code.Set R1 1 ∷ code.Begin (record { no_abort = false; no_irrevocable = false; goes_irrevocable = false }) R0 ∷ code.Write W U8 (Number 0) R1 ∷ code.Commit
    ∷ code.Begin (record { no_abort = false; no_irrevocable = false; goes_irrevocable = false }) R0 ∷ code.Read R U8 R2 (Number 0) ∷ code.Commit
    ∷ code.Begin (record { no_abort = false; no_irrevocable = false; goes_irrevocable = false }) R0 ∷ code.Write W U8 (Number 0) R2 ∷ code.Commit
    ∷ code.Begin (record { no_abort = false; no_irrevocable = false; goes_irrevocable = false }) R0 ∷ code.Commit ∷ [])) { limits = record { patience = 8; retries = 100; max_commits = 1; depth = 16; restarts = 0 } }

one_commit_script : program_of (line (codes ".memory 8") ++ line (codes ".commits 1") ++ line (codes ".thread")
    ++ line (codes "set r1 1") ++ line (codes "_ITM_beginTransaction r0 -") ++ line (codes "_ITM_WU8 0 r1") ++ line (codes "_ITM_commitTransaction")
    ++ line (codes "_ITM_beginTransaction r0 -") ++ line (codes "_ITM_RU8 r2 0") ++ line (codes "_ITM_commitTransaction")
    ++ line (codes "_ITM_beginTransaction r0 -") ++ line (codes "_ITM_WU8 0 r2") ++ line (codes "_ITM_commitTransaction")
    ++ line (codes "_ITM_beginTransaction r0 -") ++ line (codes "_ITM_commitTransaction")) ≡ Ok one_commit
unfolding on_literals
one_commit_script = refl

abbrev pub lost_update : Listing
lost_update = record (listing 8 2 counter_code) { schedule = Take 0 3 ∷ Take 1 6 ∷ Out 0 ∷ [] }

lost_update_script : program_of (line (codes ".memory 8") ++ line (codes ".schedule 0x3 1x6") ++ line (codes ".schedule 0!") ++ line (codes ".thread 2")
    ++ line (codes "set r1 1") ++ line (codes "_ITM_beginTransaction r0 -") ++ line (codes "_ITM_RU8 r2 0") ++ line (codes "add r2 r2 r1") ++ line (codes "_ITM_WU8 0 r2") ++ codes "_ITM_commitTransaction") ≡ Ok lost_update
unfolding on_literals
lost_update_script = refl
