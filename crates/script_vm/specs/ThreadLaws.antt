-- The laws of a thread as a player.
use Rattle.std.proofs.Common.{◌≡◌, ℕ, ◌+◌, ◌<◌, ◌≤◌, Bool, true, false, List, [], ◌∷◌, length, Some, arith, length-drop}
use Rattle.std.specs.Prelude.{if◌then◌else◌}
use Rattle.itm_types.specs.declared.call.Call.{Call}
use Rattle.itm_types.specs.declared.call.Reply.{Reply}
use Rattle.itm_types.specs.declared.call.Reply.TheVariants.{Done, Bytes, Code, Refused}
use Rattle.tx_player.specs.Rules.{Obeys}
use Rattle.script_fields.specs.declared.register.Register.{Register}
use Rattle.script_program.specs.declared.instruction.Instruction.{Instruction}
use Rattle.script_program.specs.declared.instruction.Instruction.TheVariants as code
use Rattle.script_vm.specs.declared.stage.Stage.{Stage}
use Rattle.script_vm.specs.declared.stage.Stage.TheVariants.{Runs, ToEnd}
use Rattle.script_vm.specs.Registers.{bytes_at, number_at, with_bytes, with_number, of_bytes}
use Rattle.script_vm.specs.Work.{computed, chosen_by, stage_past, worked, settled}
use Rattle.script_vm.specs.BlockLaws.{begins, nests, none_is_no_call, restarts}
use Rattle.script_vm.specs.Threads.{Thread, Block, next_call, answered, calls_left, depth_of, call_at, answered_at, room, past_block, innermost, begun, ended, entered, may_open, stopped, cancelled, cancelled_in, took, told, thread_rules}

-- local work passes over instructions alone
worked_shorter : (stage : Stage) (registers : List (List ℕ)) (rest : List Instruction) → length (worked stage registers rest).1 ≤ length rest
worked_shorter stage registers [] = omega arith
worked_shorter Runs registers (code.Set to n ∷ more) = omega (arith, worked_shorter Runs (with_number registers to n) more)
worked_shorter Runs registers (code.Bytes to literal ∷ more) = omega (arith, worked_shorter Runs (with_bytes registers to literal.bytes) more)
worked_shorter Runs registers (code.Move to from ∷ more) = omega (arith, worked_shorter Runs (with_bytes registers to (bytes_at registers from)) more)
worked_shorter Runs registers (code.Compute operation to a b ∷ more) = omega (arith, worked_shorter Runs (with_number registers to (computed operation (number_at registers a) (number_at registers b))) more)
worked_shorter Runs registers (code.IfNotZero r ∷ more) = omega (arith, worked_shorter (chosen_by (number_at registers r)) registers more)
worked_shorter Runs registers (code.Else ∷ more) = omega (arith, worked_shorter (ToEnd 0) registers more)
worked_shorter Runs registers (code.EndIf ∷ more) = omega (arith, worked_shorter Runs registers more)
worked_shorter Runs registers (call ∷ more) = omega arith
worked_shorter stage registers (i ∷ more) = omega (arith, worked_shorter (stage_past stage i) registers more)

pub settled_shorter : (registers : List (List ℕ)) (rest : List Instruction) → length (settled registers rest).1 ≤ length rest
settled_shorter registers rest = worked_shorter Runs registers rest

-- a block's end is never behind
pub past_shorter : (n : ℕ) (rest : List Instruction) → length (past_block n rest) ≤ length rest
past_shorter n rest = omega (arith, length-drop (room n rest) rest)

-- ## Each reply leaves fewer calls

-- a thread that goes on past an instruction is nearer
abbrev IsNearer : Thread → List Instruction → Type 0
IsNearer t more = length t.rest < length more + 1

module _ (more : List Instruction) where
  goes_nearer : (registers : List (List ℕ)) → length (settled registers more).1 < length more + 1
  goes_nearer registers = omega (arith, settled_shorter registers more)

  past_nearer : (registers : List (List ℕ)) (n : ℕ) → length (settled registers (past_block n more)).1 < length more + 1
  past_nearer registers n = omega (arith, settled_shorter registers (past_block n more), past_shorter n more)

module _ (t : Thread) (more : List Instruction) where
  begun_nearer : (x : Register) (r : Reply) → IsNearer (begun t x more r) more
  begun_nearer x (Code n) = by_room (may_open t.deepest t.blocks)
    where
      by_room : (b : Bool) → IsNearer (if b then entered t x more n else stopped t) more
      by_room true = goes_nearer more (with_number t.registers x n)
      by_room false = omega arith
  begun_nearer x (Refused f) = past_nearer more t.registers 1
  begun_nearer x Done = goes_nearer more t.registers
  begun_nearer x (Bytes v) = goes_nearer more t.registers

  ended_nearer : (r : Reply) → IsNearer (ended t more r) more
  ended_nearer Done = goes_nearer more t.registers
  ended_nearer (Bytes v) = goes_nearer more t.registers
  ended_nearer (Code n) = goes_nearer more t.registers
  ended_nearer (Refused f) = goes_nearer more t.registers

  cancelled_in_nearer : (outer : Bool) (n : ℕ) (blocks : List Block) → IsNearer (cancelled_in t outer more n blocks) more
  cancelled_in_nearer outer n [] = goes_nearer more t.registers
  cancelled_in_nearer false n (b ∷ inner) = let k = innermost b inner in past_nearer more (with_number k.registers k.code n) 1
  cancelled_in_nearer true n (b ∷ inner) = past_nearer more (with_number b.registers b.code n) (length (b ∷ inner))

  cancelled_nearer : (outer : Bool) (r : Reply) → IsNearer (cancelled t outer more r) more
  cancelled_nearer outer (Code n) = cancelled_in_nearer outer n t.blocks
  cancelled_nearer outer Done = goes_nearer more t.registers
  cancelled_nearer outer (Bytes v) = goes_nearer more t.registers
  cancelled_nearer outer (Refused f) = goes_nearer more t.registers

  took_nearer : (x : Register) (r : Reply) → IsNearer (took t x more r) more
  took_nearer x (Bytes v) = goes_nearer more (with_bytes t.registers x (of_bytes v.items))
  took_nearer x Done = goes_nearer more t.registers
  took_nearer x (Code n) = goes_nearer more t.registers
  took_nearer x (Refused f) = goes_nearer more t.registers

  told_nearer : (x : Register) (r : Reply) → IsNearer (told t x more r) more
  told_nearer x (Code n) = goes_nearer more (with_number t.registers x n)
  told_nearer x Done = goes_nearer more t.registers
  told_nearer x (Bytes v) = goes_nearer more t.registers
  told_nearer x (Refused f) = goes_nearer more t.registers

nearer_at : (t : Thread) (rest : List Instruction) (c : Call) (r : Reply) → call_at t.registers (depth_of t) rest ≡ Some c → length (answered_at t rest r).rest < length rest
nearer_at t [] c r e = absurd (none_is_no_call c e)
nearer_at t (code.Set to n ∷ more) c r e = absurd (none_is_no_call c e)
nearer_at t (code.Bytes to literal ∷ more) c r e = absurd (none_is_no_call c e)
nearer_at t (code.Move to from ∷ more) c r e = absurd (none_is_no_call c e)
nearer_at t (code.Compute operation to x y ∷ more) c r e = absurd (none_is_no_call c e)
nearer_at t (code.IfNotZero x ∷ more) c r e = absurd (none_is_no_call c e)
nearer_at t (code.Else ∷ more) c r e = absurd (none_is_no_call c e)
nearer_at t (code.EndIf ∷ more) c r e = absurd (none_is_no_call c e)
nearer_at t (code.Load width to at ∷ more) c r e = omega (arith, took_nearer t more to r)
nearer_at t (code.Read hint width to at ∷ more) c r e = omega (arith, took_nearer t more to r)
nearer_at t (code.Begin props x ∷ more) c r e = omega (arith, begun_nearer t more x r)
nearer_at t (code.Commit ∷ more) c r e = omega (arith, ended_nearer t more r)
nearer_at t (code.Abort outer ∷ more) c r e = omega (arith, cancelled_nearer t more outer r)
nearer_at t (code.InTransaction to ∷ more) c r e = omega (arith, told_nearer t more to r)
nearer_at t (call ∷ more) c r e = omega (arith, goes_nearer more t.registers)

nearer : (p : Thread) (c : Call) (r : Reply) → next_call p ≡ Some c → calls_left (answered p r) < calls_left p
nearer p c r e = nearer_at p p.rest c r e

pub thread_laws : Obeys thread_rules
thread_laws = record { nearer = nearer; nests = nests; restarts = restarts; begins = begins }
