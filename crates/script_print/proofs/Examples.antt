-- Worked texts, by computation: what is printed of a program, and that it is read as the program.
use Rattle.std.proofs.Common.{◌≡◌, ℕ, zero, suc, true, false, List, [], ◌∷◌, ◌++◌, Ok, refl, lit<, arith, codes, replicate}
use Rattle.script_print.proofs.Common.{AllByRecursion, Instruction, IsBytes, IsLiteral, Listing, MAX_COMMITS, Out, Take, encode_with, printed, program_of}
use Rattle.std.specs.Fmt.{digits}
use Rattle.itm_types.specs.declared.access.ReadHint.TheVariants.{RaW}
use Rattle.itm_types.specs.declared.access.Width.TheVariants as width
use Rattle.itm_types.specs.declared.access.WriteHint.TheVariants.{W, WaR}
use Rattle.itm_types.specs.declared.copy.CopyPair.TheVariants.{In}
use Rattle.itm_types.specs.declared.copy.SharedSide.TheVariants as sides
use Rattle.script_fields.specs.declared.register.Register.TheVariants.{R0, R1, R2, R3, R15}
use Rattle.script_fields.specs.declared.place.Place.TheVariants as places
use Rattle.script_program.specs.declared.instruction.ArenaWidth.TheVariants as widths
use Rattle.script_program.specs.declared.instruction.Instruction.TheVariants as code
use Rattle.script_program.specs.declared.instruction.Operation.TheVariants as operations
use Rattle.script_asm.{proofs.OnLiterals.on_literals, proofs.WorkedTexts.line}
use Rattle.script_print.proofs.Printable.{IsSaid, IsPrintable}

-- ## Two instructions

-- with the limits that are where a script says none
abbrev small : Listing
small = record {
  memory = record { size = 8; inits = [] };
  arena = 0;
  limits = record { patience = 8; retries = 100; max_commits = MAX_COMMITS; depth = 16; restarts = 0 };
  schedule = [];
  parts = record { count = 1; code = code.Set R1 7 ∷ code.Move R0 R1 ∷ [] } ∷ [];
}

abbrev small_text : List ℕ
small_text =
    line (codes ".memory 8")
    ++ line (codes ".arena 0")
    ++ line (codes ".patience 8")
    ++ line (codes ".retries 100")
    ++ line (codes ".commits 4611686018427387903")
    ++ line (codes ".thread")
    ++ line (codes "set r1 7")
    ++ line (codes "mov r0 r1")

small_printed : printed small ≡ small_text
unfolding printed digits
small_printed = refl

small_again : program_of small_text ≡ Ok small
unfolding on_literals
small_again = refl

-- a text can say it
small_printable : IsPrintable small
small_printable = record {
  size = (lit< tt, lit< tt, refl);
  inits = tt;
  arena = omega arith;
  limits = record { patience = (omega arith, omega arith); retries = omega arith; commits = (omega arith, omega arith); depth = (omega arith, omega arith); restarts = omega arith };
  items = omega arith;
  schedule = tt;
  some = omega arith;
  parts = ((omega arith, ((omega arith, (tt, tt)), refl)), tt);
  threads = omega arith;
  instructions = omega arith;
}

-- ## Bytes, items and two sections

abbrev pair_code : List Instruction
pair_code =
    code.Begin (record { no_abort = true; no_irrevocable = false; goes_irrevocable = true }) R0
    ∷ code.Read RaW width.U8 R2 (places.Number 0)
    ∷ code.IfNotZero R2
    ∷ code.Compute operations.LessThan R2 R2 R1
    ∷ code.Else
    ∷ code.Write W width.M256 (places.Register R2) R1
    ∷ code.EndIf
    ∷ code.Commit
    ∷ []

abbrev other_code : List Instruction
other_code =
    code.Bytes R3 (record { bytes = 10 ∷ 255 ∷ replicate 30 0; count = 2 })
    ∷ code.Load widths.One R0 (places.Number 4095)
    ∷ code.Save widths.Eight (places.Register R3) R15
    ∷ code.InTransaction R1
    ∷ code.Abort false
    ∷ code.Abort true
    ∷ code.Mode
    ∷ code.CommitAction 4294967295 (places.Register R1)
    ∷ code.UndoAction 0 (places.Number 18446744073709551615)
    ∷ code.Log width.CD (places.Number 16)
    ∷ code.LogBytes (places.Register R1) (places.Number 3)
    ∷ code.Copy false (In sides.TaR) (places.Number 1) (places.Register R2) (places.Number 3)
    ∷ code.Fill WaR (places.Number 0) (places.Number 255) (places.Number 8)
    ∷ []

abbrev several : Listing
several = record {
  memory = record { size = 16; inits = record { at = 0; bytes = 171 ∷ [] } ∷ record { at = 14; bytes = 0 ∷ 15 ∷ [] } ∷ [] };
  arena = 4096;
  limits = record { patience = 1; retries = 0; max_commits = 2; depth = 64; restarts = 5 };
  schedule = Take 0 3 ∷ Out 2 ∷ Take 1 1000000 ∷ [];
  parts = record { count = 2; code = pair_code } ∷ record { count = 1; code = other_code } ∷ record { count = 3; code = [] } ∷ [];
}

abbrev several_text : List ℕ
several_text =
    line (codes ".memory 16")
    ++ line (codes ".arena 4096")
    ++ line (codes ".patience 1")
    ++ line (codes ".retries 0")
    ++ line (codes ".commits 2")
    ++ line (codes ".restarts 5")
    ++ line (codes ".depth 64")
    ++ line (codes ".init 0 ab")
    ++ line (codes ".init 14 000f")
    ++ line (codes ".schedule 0x3")
    ++ line (codes ".schedule 2!")
    ++ line (codes ".schedule 1x1000000")
    ++ line (codes ".thread 2")
    ++ line (codes "_ITM_beginTransaction r0 pr_hasNoAbort+pr_doesGoIrrevocable")
    ++ line (codes "_ITM_RaWU8 r2 0")
    ++ line (codes "ifnz r2")
    ++ line (codes "ltu r2 r2 r1")
    ++ line (codes "else")
    ++ line (codes "_ITM_WM256 r2 r1")
    ++ line (codes "endif")
    ++ line (codes "_ITM_commitTransaction")
    ++ line (codes ".thread")
    ++ line (codes "bytes r3 0aff")
    ++ line (codes "ld1 r0 4095")
    ++ line (codes "st8 r3 r15")
    ++ line (codes "_ITM_inTransaction r1")
    ++ line (codes "_ITM_abortTransaction userAbort")
    ++ line (codes "_ITM_abortTransaction userAbort+outerAbort")
    ++ line (codes "_ITM_changeTransactionMode modeSerialIrrevocable")
    ++ line (codes "_ITM_addUserCommitAction 4294967295 _ITM_noTransactionId r1")
    ++ line (codes "_ITM_addUserUndoAction 0 18446744073709551615")
    ++ line (codes "_ITM_LCD 16")
    ++ line (codes "_ITM_LB r1 3")
    ++ line (codes "_ITM_memcpyRtaRWn 1 r2 3")
    ++ line (codes "_ITM_memsetWaR 0 255 8")
    ++ line (codes ".thread 3")

several_printed : printed several ≡ several_text
unfolding printed digits encode_with
several_printed = refl

several_again : program_of several_text ≡ Ok several
unfolding on_literals
several_again = refl

one_byte : IsBytes (171 ∷ [])
one_byte zero = lit< tt
one_byte (suc k) = lit< tt

two_bytes : IsBytes (0 ∷ 15 ∷ [])
two_bytes zero = lit< tt
two_bytes (suc zero) = lit< tt
two_bytes (suc (suc k)) = lit< tt

literal_bytes : IsBytes (10 ∷ 255 ∷ [])
literal_bytes zero = lit< tt
literal_bytes (suc zero) = lit< tt
literal_bytes (suc (suc k)) = lit< tt

other_literal : IsLiteral (record { bytes = 10 ∷ 255 ∷ replicate 30 0; count = 2 })
other_literal = record { low = omega arith; high = omega arith; room = refl; zeros = refl; bytes = literal_bytes }

others_said : AllByRecursion IsSaid other_code
others_said =
    (other_literal, (omega arith, (tt, (tt, (tt, (tt, (tt, ((omega arith, tt), ((omega arith, omega arith), (omega arith, ((tt, omega arith), ((omega arith, (tt, omega arith)), ((omega arith, (omega arith, omega arith)), tt)))))))))))))

several_printable : IsPrintable several
several_printable = record {
  size = (omega arith, omega arith, refl);
  inits = ((one_byte, omega arith, omega arith, omega arith), ((two_bytes, omega arith, omega arith, omega arith), tt));
  arena = omega arith;
  limits = record { patience = (omega arith, omega arith); retries = omega arith; commits = (omega arith, omega arith); depth = (omega arith, omega arith); restarts = omega arith };
  items = omega arith;
  schedule = ((omega arith, (omega arith, omega arith)), (omega arith, ((omega arith, (omega arith, omega arith)), tt)));
  some = omega arith;
  parts = ((omega arith, ((tt, (omega arith, (tt, (tt, (tt, (tt, (tt, (tt, tt)))))))), refl)), ((omega arith, (others_said, refl)), ((omega arith, (tt, refl)), tt)));
  threads = omega arith;
  instructions = omega arith;
}
