-- The room for commit actions.
use Rattle.std.proofs.Common.{◌≡◌, ℕ, ◌-◌, IsSome, refl, ap}
use Rattle.call_rules.proofs.Common.{Call, CommitAction, Core, Reply, irrevocable_room, room_left}
use Rattle.itm_types.specs.declared.call.Reply.TheVariants.{Done}

pub room_same : (a b : Core) (call : Call) (r : Reply) → a.room ≡ b.room → room_left a call r ≡ room_left b call r
room_same a b (CommitAction action) Done e = ap (λ (n : ℕ). n - 1) e
room_same a b call r e = e

-- a commit action makes no transaction irrevocable
pub room_entered : (c : Core) (call : Call) (r : Reply) → IsSome (irrevocable_room c call) → c.room ≡ room_left c call r
room_entered c (CommitAction action) r g = absurd (cc)
room_entered c call r g = refl
