-- A thread of a program before its first call.
use Rattle.std.specs.Prelude.{◌≡◌, ℕ, List, [], replicate, slice_index_or}
use Rattle.norec_core.specs.Core.{opening}
use Rattle.shared_words.specs.InGlobal.{Words}
use Rattle.shared_words.specs.Passes.{Owns, view_of}
use Rattle.shared_words.specs.Views.{cut_right, opening as unwritten}
use Rattle.script_program.specs.declared.instruction.Instruction.{Instruction}
use Rattle.script_program.specs.Listing.{Listing, threads_of}
use Rattle.script_vm.specs.Threads.{Thread, opening as script_opening}
use Rattle.call_rules.specs.Standing.{Standing}
use Rattle.call_rules.specs.Ties.{Stands}

abbrev pub code_of : Listing → ℕ → List Instruction
code_of p number = slice_index_or (threads_of p) number []

-- the thread of the program with this number, before its first call, on a part of the first pass over this memory, which had seen no commit
pub record IsFresh (p : Listing) (base : List ℕ) (number : ℕ) (t : Standing) (player : Thread) : Type 0 where
  pub player_is : player ≡ script_opening p.limits.depth (code_of p number)
  pub words : ℕ
  pub engine_is : t.engine ≡ opening words (replicate p.arena 0) p.limits.patience p.limits.max_commits p.limits.depth p.limits.restarts
  pub pass_is : view_of t.pass ≡ cut_right (unwritten base)

-- it is fresh, the words own its pass, and its engine stands as its view says
pub record MayBegin (words : Words) (p : Listing) (base : List ℕ) (number : ℕ) (t : Standing) (player : Thread) : Type 0 where
  pub own : Owns words t.pass
  pub stands : Stands (view_of t.pass) t.engine
  pub fresh : IsFresh p base number t player
