-- The names that the walks of this crate cite.
pub use Rattle.std.proofs.Common.{◌≡◌, ℕ, ◌^◌, ◌<◌, List, [], ◌∷◌, ◌++◌, length, refl, sym, ap, ◌∙◌, subst}
pub use Rattle.std.specs.Prelude.{Option, None, Some, IsSome}
pub use Rattle.std.proofs.raw_atomic.Walks.{proved, proved_at}
pub use base.Fraction.{full_share}
pub use base.Logic.{SProp, ent, sep, emp, id⊢, via, fst∗, never}
pub use base.Fml.{Fml, Lft, Share, GName, ftrue, fsep, flft}
pub use mir.Syntax.{named}
pub use mir.Val.{Val, vptr, vnull, vstruct, vcons, vnil}
pub use contract.Monad.{fact, fact_i}
pub use contract.Running.{tables}
pub use types.Logic.{Logic, sem}
pub use types.Kit.{Item, ‵, raw, ◌⊛◌, some, later, prop, at_ret, ◌$◌, ◌∵◌, !, qed, by, done, move, keep, drop, use0, use1, use2, split, split3, join, group, fsplit, fsplit3, fjoin, fpack, fpick, feq_i, feq_l, pick, await, rewrite, regoal, suffices, frame}
pub use types.Part.{agg, sub, whole, look_in}
pub use types.Run.{enter, of_opd, addr, load, stop, fld, no_more, and_then, first, blocks, exec, returns}
pub use types.ByLocal.{alloc_all, pass_all, free_all, look_at, get, get_in, through, sets, sets_last, lands_as, lands_last, env}
pub use denote.Exit.{yes, no}
pub use denote.Signature.{plain}
pub use denote.Steps.{nothing, heard, only, opens}
pub use denote.Triple.Entry.{on_entry}
pub use denote.Triple.Spec.{triple_of}
pub use denote.Triple.Walked.{Stays, walk_of, says, stay_dropped, Goes-dropped, ends_at}
