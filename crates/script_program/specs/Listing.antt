-- A program: what a script says.
use Rattle.std.specs.Prelude.{ℕ, ◌+◌, ◌≤◌, List, ◌++◌, length, take, drop, replicate, fold, All, Option, unwrap_or}
use Rattle.std.specs.List.{flat_map}
use Rattle.itm_types.specs.declared.limits.Limits.{Limits}
use Rattle.itm_types.specs.declared.limits.TheConstants.{MAX_COMMITS, USUAL_DEPTH}
use Rattle.script_program.specs.declared.instruction.Instruction.{Instruction}
use Rattle.script_program.specs.declared.schedule.Item.{Item}
use Rattle.script_program.specs.declared.schedule.Item.TheVariants.{Take, Out}

-- ## Shared memory

-- bytes that stand from a place on
pub record Placed : Type 0 where
  pub at : ℕ
  pub bytes : List ℕ

-- its size, and the bytes that are laid over its zeros
pub record Shared : Type 0 where
  pub size : ℕ
  pub inits : List Placed

-- each of them lies within so many bytes
abbrev pub AllWithin : ℕ → List Placed → Type 0
AllWithin size inits = All (λ i. i.at + length i.bytes ≤ size) inits

-- bytes with others laid over them
abbrev pub laid : List ℕ → Placed → List ℕ
laid bytes i = take i.at bytes ++ i.bytes ++ drop (i.at + length i.bytes) bytes

-- zeros, and the bytes laid over them one after the other, so that the last one to write a byte wins
unfoldable pub bytes_of : Shared → List ℕ
bytes_of m = fold laid (replicate m.size 0) m.inits

-- ## Limits

-- those that are said
pub record Bounds : Type 0 where
  pub arena : Option ℕ
  pub patience : Option ℕ
  pub retries : Option ℕ
  pub commits : Option ℕ
  pub restarts : Option ℕ
  pub depth : Option ℕ

-- how many bytes each thread's arena has: none, where it is not said
abbrev pub arena_of : Bounds → ℕ
arena_of b = unwrap_or b.arena 0

-- those of the run: of each that is not said, what it is else
abbrev pub limits_of : Bounds → Limits
limits_of b = record { patience = unwrap_or b.patience 8; retries = unwrap_or b.retries 100; max_commits = unwrap_or b.commits MAX_COMMITS; depth = unwrap_or b.depth USUAL_DEPTH; restarts = unwrap_or b.restarts 0 }

-- ## The schedule

-- the thread that takes the events
abbrev pub thread_of : Item → ℕ
thread_of (Take thread count) = thread
thread_of (Out thread) = thread

-- ## Threads

-- so many threads with the same code
pub record Part : Type 0 where
  pub count : ℕ
  pub code : List Instruction

-- the code of each thread, those of the first part first
unfoldable pub codes_of : List Part → List (List Instruction)
codes_of parts = flat_map (λ p. replicate p.count p.code) parts

-- ## The program

pub record Listing : Type 0 where
  pub memory : Shared
  pub arena : ℕ
  pub limits : Limits
  pub schedule : List Item
  pub parts : List Part

-- shared memory as the threads begin
abbrev pub opening_of : Listing → List ℕ
opening_of p = bytes_of p.memory

-- the code of each thread, by its number
abbrev pub threads_of : Listing → List (List Instruction)
threads_of p = codes_of p.parts
