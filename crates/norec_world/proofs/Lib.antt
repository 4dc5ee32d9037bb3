-- What the answers cite, passed on from one place; the lemmas below name each other.
pub mod Common
pub mod EventsInRow
pub mod QuietEvents
pub mod Rooms
pub use Rattle.std.proofs.Common.{All, Bool, Err, IsSome, List, None, Option, Result, Some, Vec, [], ap, arith, drop, false, length, refl, replicate, rules, slice_get, slice_index, slice_set, subst, suc, sym, take, true, vec_capacity, ℕ, ◌*◌, ◌++◌, ◌+◌, ◌/◌, ◌<◌, ◌∙◌, ◌≡◌, ◌≤◌}
pub use Common.*
pub use Rooms.AskingActors.*
pub use QuietEvents.*
pub use Rooms.EngineCalls.*
