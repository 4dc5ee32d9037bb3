-- A list of calls that are made one after the other, whatever the replies are.
use Rattle.world_rules.proofs.Common.{Call, Reply}
use Rattle.tx_player.specs.Depth.{depth_after}
use Rattle.std.specs.Prelude.{ℕ, ◌+◌, ◌-◌, min, nat_lt, if◌then◌else◌, List, [], ◌∷◌, ◌++◌, length, take, Option, None, Some, slice_get, slice_index_or}

pub record Plan : Type 0 where
  pub calls : List Call
  pub at : ℕ  -- the next one
  pub blocks : List ℕ  -- where the open blocks began, the outermost first

abbrev pub next_call : Plan → Option Call
next_call p = slice_get p.calls p.at

-- after the call at this place, with so many blocks open then
abbrev pub blocks_after : List ℕ → ℕ → ℕ → List ℕ
blocks_after blocks at deep = if nat_lt (length blocks) deep then blocks ++ at ∷ [] else take deep blocks

abbrev pub blocks_by : List ℕ → ℕ → Option Call → Reply → List ℕ
blocks_by blocks at None reply = blocks
blocks_by blocks at (Some call) reply = blocks_after blocks at (depth_after (length blocks) call reply)

-- behind the call at this place
abbrev pub moved : Plan → ℕ → List ℕ → Plan
moved p at blocks = record { calls = p.calls; at = min (at + 1) (length p.calls); blocks = blocks }

abbrev pub answered : Plan → Reply → Plan
answered p reply = moved p p.at (blocks_by p.blocks p.at (next_call p) reply)

abbrev pub restarted_at : Plan → List ℕ → Plan
restarted_at p [] = p
restarted_at p (begun ∷ inner) = record { calls = p.calls; at = begun; blocks = [] }

abbrev pub restarted : Plan → Plan
restarted p = restarted_at p p.blocks

abbrev pub at_block : Plan → ℕ → Plan
at_block p d = moved p (slice_index_or p.blocks (d - 1) 0) (take d p.blocks)
