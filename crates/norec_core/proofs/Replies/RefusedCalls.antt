-- A refused call leaves all as it was.
use Rattle.std.proofs.Common.{◌≡◌, ℕ, List, refl}
use Rattle.norec_core.proofs.Common.{Begin, Call, Core, Refusal, Refused, Save, Write, actions_after, arena_after, blocks_after, writes_after}

pub writes_kept : (c : Core) (m : List ℕ) (call : Call) (why : Refusal) → writes_after c m call (Refused why) ≡ c.writes
writes_kept c m (Write hint at value) why = refl
writes_kept c m call why = refl

pub blocks_kept : (c : Core) (call : Call) (why : Refusal) → blocks_after c call (Refused why) ≡ c.blocks
blocks_kept c (Begin props room) why = refl
blocks_kept c call why = refl

pub arena_kept : (c : Core) (m : List ℕ) (call : Call) (why : Refusal) → arena_after c m call (Refused why) ≡ c.arena
arena_kept c m (Save at value) why = refl
arena_kept c m call why = refl

pub actions_kept : (c : Core) (call : Call) (why : Refusal) → actions_after c call (Refused why) ≡ c.actions
actions_kept c (Begin props room) why = refl
actions_kept c call why = refl
