-- A thread of a program as one who makes calls: what it calls next, and what a reply leaves.
use Rattle.std.specs.Prelude.{ℕ, zero, suc, ◌-◌, nat_lt, if◌then◌else◌, Bool, true, false, List, [], ◌∷◌, ◌++◌, length, drop, replicate, slice_index_or, take, Option, None, Some}
use Rattle.itm_types.specs.declared.call.Call.{Call}
use Rattle.itm_types.specs.declared.call.Call.TheVariants as calls
use Rattle.itm_types.specs.declared.call.Reply.{Reply}
use Rattle.itm_types.specs.declared.call.Reply.TheVariants.{Done, Bytes, Code, Refused}
use Rattle.script_fields.specs.declared.register.Register.{Register}
use Rattle.script_fields.specs.declared.register.Register.TheVariants.{R0}
use Rattle.script_program.specs.declared.instruction.Instruction.{Instruction}
use Rattle.script_program.specs.declared.instruction.Instruction.TheVariants as code
use Rattle.script_program.specs.Instructions.{width_of}
use Rattle.script_vm.specs.Registers.{place_of, with_bytes, with_number, of_bytes, zeros, datum}
use Rattle.script_vm.specs.Work.{settled}
use Rattle.tx_player.specs.Rules.{Rules}

-- what is kept of an open block: the code and the registers as its begin was called, and the begin's register
pub record Block : Type 0 where
  pub rest : List Instruction
  pub registers : List (List ℕ)
  pub code : Register

-- open blocks, the outermost first, and how many may be open
pub record Opened : Type 0 where
  pub deepest : ℕ
  pub blocks : List Block

-- a thread: its code from the next call on, its registers, its open blocks, the outermost first, and how many may be open
-- at once
pub record Thread : Type 0 where
  pub rest : List Instruction
  pub registers : List (List ℕ)
  pub blocks : List Block
  pub deepest : ℕ

abbrev pub depth_of : Thread → ℕ
depth_of t = length t.blocks

-- the thread goes on with these registers and this code
abbrev pub goes_on : Thread → List (List ℕ) → List Instruction → Thread
goes_on t registers rest = let s = settled registers rest in record t { registers = s.0; rest = s.1 }

-- ## The ends of blocks

-- how many of n blocks are still to be closed once an instruction is passed over
abbrev pub open_past : Instruction → ℕ → ℕ
open_past (code.Begin props r) n = suc n
open_past code.Commit n = n - 1
open_past i n = n

-- how many instructions stand up to the commit that closes the n-th enclosing block, that commit too
abbrev pub room : ℕ → List Instruction → ℕ
room zero rest = 0
room (suc n) [] = 0
room (suc n) (i ∷ more) = suc (room (open_past i (suc n)) more)

-- what stands after that commit
abbrev pub past_block : ℕ → List Instruction → List Instruction
past_block n rest = drop (room n rest) rest

-- ## Calls

-- a call about blocks, transactions and actions; a room is that up to the end of the outermost block
abbrev pub control_call : List (List ℕ) → ℕ → Instruction → List Instruction → Option Call
control_call registers depth (code.Begin props r) more = Some (calls.Begin props (room (suc depth) more))
control_call registers depth code.Commit more = Some calls.Commit
control_call registers depth (code.Abort outer) more = Some (calls.Abort outer)
control_call registers depth code.Mode more = Some (calls.Mode (room depth more))
control_call registers depth (code.InTransaction to) more = Some calls.InTransaction
control_call registers depth (code.CommitAction fun arg) more = Some (calls.CommitAction (record { fun = fun; arg = place_of registers arg }))
control_call registers depth (code.UndoAction fun arg) more = Some (calls.UndoAction (record { fun = fun; arg = place_of registers arg }))
control_call registers depth i more = None

-- a call about the thread's arena
abbrev pub arena_call : List (List ℕ) → Instruction → Option Call
arena_call registers (code.Load width to at) = Some (calls.Load (width_of width) (place_of registers at))
arena_call registers (code.Save width at from) = Some (calls.Save (place_of registers at) (datum registers (width_of width) from))
arena_call registers (code.Log width at) = Some (calls.Log width (place_of registers at))
arena_call registers (code.LogBytes at size) = Some (calls.LogBytes (place_of registers at) (place_of registers size))
arena_call registers i = None

-- a call that moves a value of shared memory
abbrev pub value_call : List (List ℕ) → Instruction → Option Call
value_call registers (code.Read hint width to at) = Some (calls.Read hint width (place_of registers at))
value_call registers (code.Write hint width at from) = Some (calls.Write hint (place_of registers at) (datum registers width from))
value_call registers i = None

-- a call about a range of shared memory
abbrev pub range_call : List (List ℕ) → Instruction → Option Call
range_call registers (code.Copy moves pair to from size) = Some (calls.Copy (record { moves = moves; pair = pair; to = place_of registers to; from = place_of registers from; size = place_of registers size }))
range_call registers (code.Fill hint to byte size) = Some (calls.Fill hint (place_of registers to) (place_of registers byte) (place_of registers size))
range_call registers i = None

-- the first of two calls that is one
abbrev pub or_else : Option Call → Option Call → Option Call
or_else (Some call) other = Some call
or_else None other = other

-- a call about the arena or shared memory
abbrev pub memory_call : List (List ℕ) → Instruction → Option Call
memory_call registers i = or_else (arena_call registers i) (or_else (value_call registers i) (range_call registers i))

-- the call that stands first, with so many blocks open; local work is none
abbrev pub call_at : List (List ℕ) → ℕ → List Instruction → Option Call
call_at registers depth [] = None
call_at registers depth (i ∷ more) = or_else (control_call registers depth i more) (memory_call registers i)

abbrev pub next_call : Thread → Option Call
next_call t = call_at t.registers (depth_of t) t.rest

-- ## Open blocks

-- what stands for a block beyond those that may be open: a begin with no code behind it
abbrev pub no_block : Block
no_block = record { rest = code.Begin (record { no_abort = false; no_irrevocable = false; goes_irrevocable = false }) R0 ∷ []; registers = zeros; code = R0 }

-- may one more be open: the outermost may, whatever is said
abbrev pub may_open : ℕ → List Block → Bool
may_open deepest [] = true
may_open deepest (outer ∷ inner) = nat_lt (length (outer ∷ inner)) deepest

-- the innermost is closed
abbrev pub closed : List Block → List Block
closed [] = []
closed (outer ∷ []) = []
closed (outer ∷ inner ∷ more) = outer ∷ closed (inner ∷ more)

-- the innermost block, within this one
abbrev pub innermost : Block → List Block → Block
innermost outer [] = outer
innermost outer (inner ∷ more) = innermost inner more

abbrev pub innermost_of : List Block → Option Block
innermost_of [] = None
innermost_of (outer ∷ inner) = Some (innermost outer inner)

abbrev pub outermost_of : List Block → Option Block
outermost_of [] = None
outermost_of (outer ∷ inner) = Some outer

-- those of which is kept where they began, and so many beyond them
abbrev pub all_blocks : List Block → ℕ → List Block
all_blocks kept beyond = kept ++ replicate beyond no_block

-- ## Replies

-- a block is entered: what its begin found is kept, and its code is in its register
abbrev pub entered : Thread → Register → List Instruction → ℕ → Thread
entered t r more n = goes_on (record t { blocks = t.blocks ++ record { rest = t.rest; registers = t.registers; code = r } ∷ [] }) (with_number t.registers r n) more

-- one more block is open than may be, of which nothing is kept: the thread has no more calls
abbrev pub stopped : Thread → Thread
stopped t = record t { rest = []; registers = zeros; blocks = t.blocks ++ no_block ∷ [] }

-- a begin's reply; where it is refused, the block is passed over
abbrev pub begun : Thread → Register → List Instruction → Reply → Thread
begun t r more (Code n) = if may_open t.deepest t.blocks then entered t r more n else stopped t
begun t r more (Refused refusal) = goes_on t t.registers (past_block 1 more)
begun t r more reply = goes_on t t.registers more

-- a commit's reply
abbrev pub ended : Thread → List Instruction → Reply → Thread
ended t more Done = goes_on (record t { blocks = closed t.blocks }) t.registers more
ended t more reply = goes_on t t.registers more

-- a block is cancelled, the innermost of these, or all: the registers are what they were as the block's begin was
-- called, with a code in the begin's register, and the code goes on after the block's commit
abbrev pub cancelled_in : Thread → Bool → List Instruction → ℕ → List Block → Thread
cancelled_in t outer more n [] = goes_on t t.registers more
cancelled_in t false more n (b ∷ inner) = let k = innermost b inner in goes_on (record t { blocks = closed (b ∷ inner) }) (with_number k.registers k.code n) (past_block 1 more)
cancelled_in t true more n (b ∷ inner) = goes_on (record t { blocks = [] }) (with_number b.registers b.code n) (past_block (length (b ∷ inner)) more)

-- an abort's reply
abbrev pub cancelled : Thread → Bool → List Instruction → Reply → Thread
cancelled t outer more (Code n) = cancelled_in t outer more n t.blocks
cancelled t outer more reply = goes_on t t.registers more

-- the reply to a read or a load
abbrev pub took : Thread → Register → List Instruction → Reply → Thread
took t r more (Bytes value) = goes_on t (with_bytes t.registers r (of_bytes value.items)) more
took t r more reply = goes_on t t.registers more

-- the reply to the question whether a transaction is open
abbrev pub told : Thread → Register → List Instruction → Reply → Thread
told t r more (Code n) = goes_on t (with_number t.registers r n) more
told t r more reply = goes_on t t.registers more

abbrev pub answered_at : Thread → List Instruction → Reply → Thread
answered_at t [] reply = t
answered_at t (code.Set to n ∷ more) reply = t
answered_at t (code.Bytes to literal ∷ more) reply = t
answered_at t (code.Move to from ∷ more) reply = t
answered_at t (code.Compute operation to a b ∷ more) reply = t
answered_at t (code.IfNotZero r ∷ more) reply = t
answered_at t (code.Else ∷ more) reply = t
answered_at t (code.EndIf ∷ more) reply = t
answered_at t (code.Load width to at ∷ more) reply = took t to more reply
answered_at t (code.Read hint width to at ∷ more) reply = took t to more reply
answered_at t (code.Begin props r ∷ more) reply = begun t r more reply
answered_at t (code.Commit ∷ more) reply = ended t more reply
answered_at t (code.Abort outer ∷ more) reply = cancelled t outer more reply
answered_at t (code.InTransaction to ∷ more) reply = told t to more reply
answered_at t (call ∷ more) reply = goes_on t t.registers more

abbrev pub answered : Thread → Reply → Thread
answered t reply = answered_at t t.rest reply

-- back to the begin of the outermost open block
abbrev pub back_to : Thread → List Block → Thread
back_to t [] = t
back_to t (b ∷ inner) = record t { rest = b.rest; registers = b.registers; blocks = [] }

abbrev pub restarted : Thread → Thread
restarted t = back_to t t.blocks

-- back to just after the begin of the block within so many of these was answered: it is entered
abbrev pub back_in : ℕ → List Block → ℕ → Thread
back_in deepest blocks n = let b = slice_index_or blocks n no_block in answered (record { rest = b.rest; registers = b.registers; blocks = take n blocks; deepest = deepest }) (Code 5)

-- the outermost block is that at depth 1
abbrev pub at_block : Thread → ℕ → Thread
at_block t d = back_in t.deepest t.blocks (d - 1)

-- a bound on the calls to come
abbrev pub calls_left : Thread → ℕ
calls_left t = length t.rest

-- ## The whole thread

-- before its first call, where so many blocks may be open at once
abbrev pub opening : ℕ → List Instruction → Thread
opening deepest rest = goes_on (record { rest = rest; registers = zeros; blocks = []; deepest = deepest }) zeros rest

abbrev pub thread_rules : Rules Thread
thread_rules = record { next_call = next_call; answered = answered; restarted = restarted; at_block = at_block; calls_left = calls_left; depth = depth_of }
