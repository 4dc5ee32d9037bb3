-- Programs that a text can say: what each of their parts keeps.
use Rattle.script_print.proofs.Common.{AllByRecursion, AreWithin, Group, Instruction, IsBytes, IsLiteral, IsPlace, IsSize, Item, List, Listing, MAX_ACTORS, MAX_ARENA, MAX_EVENTS, MAX_INIT_DIGITS, MAX_INSTRUCTIONS, MAX_ITEMS, MAX_LEVELS, None, Option, Out, Part, Placed, Some, Take, if◌then◌else◌, length, nat_lt, sum_by, ℕ, [], ◌*◌, ◌+◌, ◌<◌, ◌^◌, ◌∷◌, ◌≡◌, ◌≤◌}
use Rattle.std.specs.Prelude.{⊤}
use Rattle.script_asm.specs.declared.groups.Group.TheVariants as groups
use Rattle.script_program.specs.declared.instruction.Instruction.TheVariants as code

-- ## Instructions

-- an instruction that a line can say
abbrev pub IsSaid : Instruction → Type 0
IsSaid (code.Set to number) = number < 2 ^ 64
IsSaid (code.Bytes to literal) = IsLiteral literal
IsSaid (code.Load width to at) = IsPlace at
IsSaid (code.Save width at from) = IsPlace at
IsSaid (code.CommitAction fun arg) = (fun < 2 ^ 32) × IsPlace arg
IsSaid (code.UndoAction fun arg) = (fun < 2 ^ 32) × IsPlace arg
IsSaid (code.Read hint width to at) = IsPlace at
IsSaid (code.Write hint width at from) = IsPlace at
IsSaid (code.Log width at) = IsPlace at
IsSaid (code.LogBytes at size) = IsPlace at × IsPlace size
IsSaid (code.Copy moves pair to from size) = IsPlace to × (IsPlace from × IsPlace size)
IsSaid (code.Fill hint to byte size) = IsPlace to × (IsPlace byte × IsPlace size)
IsSaid i = ⊤

-- ## Blocks and groups

-- one more is open
abbrev pub pushed : List Group → Group → Option (List Group)
pushed gs g = if nat_lt (length gs) MAX_LEVELS then Some (g ∷ gs) else None

abbrev pub turned : List Group → Option (List Group)
turned (groups.First ∷ gs) = Some (groups.Second ∷ gs)
turned gs = None

abbrev pub group_ended : List Group → Option (List Group)
group_ended (groups.First ∷ gs) = Some gs
group_ended (groups.Second ∷ gs) = Some gs
group_ended gs = None

abbrev pub block_ended : List Group → Option (List Group)
block_ended (groups.Block ∷ gs) = Some gs
block_ended gs = None

-- what is open after an instruction, the innermost first
abbrev pub open_after : List Group → Instruction → Option (List Group)
open_after gs (code.Begin props to) = pushed gs groups.Block
open_after gs (code.IfNotZero register) = pushed gs groups.First
open_after gs code.Else = turned gs
open_after gs code.EndIf = group_ended gs
open_after gs code.Commit = block_ended gs
open_after gs i = Some gs

-- and after several
abbrev pub then_after : Option (List Group) → (List Group → Option (List Group)) → Option (List Group)
then_after None f = None
then_after (Some gs) f = f gs

abbrev pub open_after_all : List Group → List Instruction → Option (List Group)
open_after_all gs [] = Some gs
open_after_all gs (i ∷ is) = then_after (open_after gs i) (λ hs. open_after_all hs is)

-- ## Programs

-- bytes of one line that lie within the memory
abbrev pub IsInit : ℕ → Placed → Type 0
IsInit size i = IsBytes i.bytes × (1 ≤ length i.bytes) × (2 * length i.bytes ≤ MAX_INIT_DIGITS) × (i.at + length i.bytes ≤ size)

-- an item of one of so many threads
abbrev pub IsItem : ℕ → Item → Type 0
IsItem threads (Take thread count) = (thread < threads) × ((1 ≤ count) × (count ≤ MAX_EVENTS))
IsItem threads (Out thread) = thread < threads

-- a section whose blocks and groups end in it
abbrev pub IsPart : Part → Type 0
IsPart q = (1 ≤ q.count) × (AllByRecursion IsSaid q.code × (open_after_all [] q.code ≡ Some []))

-- how many threads the sections have
abbrev pub threads_in : List Part → ℕ
threads_in parts = sum_by (λ q. q.count) parts

-- how many instructions, each section counted once
abbrev pub instructions_in : List Part → ℕ
instructions_in parts = sum_by (λ q. length q.code) parts

-- a program that a text can say
pub record IsPrintable (p : Listing) : Type 0 where
  pub size : IsSize p.memory.size
  pub inits : AllByRecursion (IsInit p.memory.size) p.memory.inits
  pub arena : p.arena ≤ MAX_ARENA
  pub limits : AreWithin p.limits
  pub items : length p.schedule ≤ MAX_ITEMS
  pub schedule : AllByRecursion (IsItem (threads_in p.parts)) p.schedule
  pub some : 0 < length p.parts
  pub parts : AllByRecursion IsPart p.parts
  pub threads : threads_in p.parts ≤ MAX_ACTORS
  pub instructions : instructions_in p.parts ≤ MAX_INSTRUCTIONS
