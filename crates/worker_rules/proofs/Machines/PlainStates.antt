-- The plain state that an engine stands for.
use Rattle.std.proofs.Common.{◌≡◌, ℕ, ◌/◌, Bool, true, false, List, length, refl, ap, ◌∙◌, nat_lt}
use Rattle.worker_rules.proofs.Common.{Core, MayRead, ReadsFrom, Stands, View, in_transaction, is_memory, is_open, memory_of, none_inside, stands_for}
pub use Rattle.run_rules.proofs.EngineStates.{stands_actions, stands_arena, stands_blocks, stands_mode, stands_open}

-- of no open transaction no open block
pub stands_shut : (c : Core) (m : List ℕ) → in_transaction c ≡ false → is_open (stands_for c m) ≡ false
stands_shut c m o = ap (nat_lt 0) (stands_blocks c m ∙ ap length (none_inside c.blocks o))

-- the memory of its position is one that an open attempt may have read
pub may_here : (v : View) (e : Core) → Stands v e → in_transaction e ≡ true → MayRead v e (memory_of v (e.snapshot / 2))
may_here v e stands o = (is_memory e.words v stands.over (e.snapshot / 2), by_mode e.irrevocable)
  where
    by_mode : (b : Bool) → ReadsFrom b (memory_of v (e.snapshot / 2)) e.log (memory_of v (e.snapshot / 2))
    by_mode true = refl
    by_mode false = (stands.reads o).agrees
