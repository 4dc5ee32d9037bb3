-- What a player's parts have to do with one another.
use Rattle.std.specs.Prelude.{◌≡◌, ℕ, ◌<◌, ◌≤◌, nat_lt, Option, Some, if◌then◌else◌}
use Rattle.itm_types.specs.declared.call.Call.{Call}
use Rattle.itm_types.specs.declared.call.Reply.{Reply}
use Rattle.itm_types.specs.declared.call.Reply.TheVariants.{Code}
use Rattle.tx_player.specs.Depth.{depth_after, opens}

-- the laws of a player with this next call, with these steps forth and back, this bound and this depth
pub record Laws {P : Type 0} (next_call : P → Option Call) (answered : P → Reply → P) (restarted : P → P) (at_block : P → ℕ → P) (calls_left : P → ℕ) (depth : P → ℕ) : Type 0 where
  -- each reply brings it nearer to its end
  pub nearer : (p : P) (c : Call) (r : Reply) → next_call p ≡ Some c → calls_left (answered p r) < calls_left p
  -- its depth is that of its calls and their replies
  pub nests : (p : P) (c : Call) (r : Reply) → next_call p ≡ Some c → depth (answered p r) ≡ depth_after (depth p) c r
  -- while a block is open, it goes back to where it called the begin of the outermost one
  pub restarts : (p : P) (c : Call) (r : Reply) → next_call p ≡ Some c → 0 < depth_after (depth p) c r
      → restarted (answered p r) ≡ (if opens (depth p) c r then p else restarted p)
  -- and to just after the begin of each open block, the outermost one at depth 1: of one that opens as if its begin had been told that it is entered
  pub begins : (p : P) (c : Call) (r : Reply) → next_call p ≡ Some c → (d : ℕ) → 0 < d → d ≤ depth_after (depth p) c r
      → at_block (answered p r) d ≡ (if nat_lt (depth p) d then answered p (Code 5) else at_block p d)
