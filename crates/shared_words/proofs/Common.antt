-- The names that more than one proof cites, passed on from one place. Declares nothing.
pub use Rattle.atomic_table.proofs.Dealing.{deals, gathers, gathers_with, strip_lies, table_lies}
pub use Rattle.atomic_table.proofs.Fields.{dealt_good, hand_good, hand_made, hand_of, hand_told, HandData, pair_of, Ptr-Good, Token, token_made, token_val}
pub use Rattle.atomic_table.proofs.Names.{addr, agg, alive, alloc_all, and_then, at_ret, await, block_ptr, blocks, by, closes, emp, enter, env, exec, fact, fact_i, first, fjoin3, flft, Fml, free_all, fsplit3, ftrue, get, given, Goes-dropped, Goes-ref, InBlock, join, keep, later, learn, length, List, lit, lit<, load, look_at, mem, mut_Tells, mut_vals, named, no_more, of_list, of_opd, opens, owns, pass_all, pick, plain, Ptr, ptr_val, qed, raw, RawPtr, refl, returns, rewrite, sets, sets_last, split, split3, SProp, stay_dropped, stay_ref, Stays, stop, sym, tables, through, types_at, u64, use0, use1, use2, Valss, vptr, walk_of, yes, ℕ, !, [], ◌*◌, ◌++◌, ◌<◌, ◌^◌, ◌∵◌, ◌∷◌, ◌≡◌, ◌⊛◌}
pub use Rattle.atomic_table.proofs.Walks.{leaves, proved}
pub use Rattle.atomic_table.specs.Seated.{mine, strip, table_owns, TableId}
pub use Rattle.atomic_table.specs.Table.{Allows, Final, Joins, keeps, Seen, Splits, step}
pub use Rattle.itm_types.specs.Memory.{AllFit, bytes_of}
pub use Rattle.itm_types.specs.declared.step.Step.{Step}
pub use Rattle.itm_types.specs.declared.step.Step.TheVariants.{Cas, Load, Store}
pub use Rattle.shared_words.specs.ClosedWords.{words_in}
pub use Rattle.shared_words.specs.Commits.{after, AllMet, CommitsFit, memory_at, Met, Stand, StartsWith, stored, StoresFit}
pub use Rattle.shared_words.specs.Good.{clock_of, Ends, EndsInHold, Fits, Good}
pub use Rattle.shared_words.specs.InPlace.{Extent}
pub use Rattle.shared_words.specs.Moves.{Moves}
pub use Rattle.shared_words.specs.Passes.{cells_of, IsOver, view_of}
pub use Rattle.shared_words.specs.Rule.{AreGood, changes, exchanges, Held, loads, settled, stores}
pub use Rattle.shared_words.specs.Steps.{CanTake, cell_of, cells_after, finds, Joined, Lawful, Loaded, Looked, Sees, StepTells, Took, ValueFits, WasFound}
pub use Rattle.shared_words.specs.Views.{both, cut_left, cut_right, freed, held_words, held_cells, holders, longer, looked, noted, opening, placed, read, shares, spent, times, took, wrote}
pub use Rattle.shared_words.specs.declared.view.View.{View}
pub use Rattle.std.proofs.alloc.Calls.{Goes-blank, handle_tells}
pub use Rattle.std.proofs.lemmas.List.{length-take-le, nil_from_length, take-append-le, take_all, take_at, take_more, with_items_is}
pub use Rattle.std.proofs.lemmas.List.Sums.{sum_by-append, sum_by-cons, sum_by_push}
pub use Rattle.std.specs.List.{count_by, sum_by}
pub use Rattle.std.specs.Vec.{with_items}
pub use Rattle.std.specs.declared.alloc.Allocator.{Ghosts}
pub use base.Fml.{fall, fat, feq, fsep, fwand}
pub use base.Fraction.{full_share}
pub use base.Logic.{all_e, apply∗, ent, id⊢, never, sep, via, wand}
pub use contract.BorrowLft.{◌⊑◌}
pub use contract.Monad.{Fun}
unfoldable pub use contract.Running.{tables_of}
pub use denote.Builtin.{u8}
pub use denote.Exit.{no}
pub use denote.Laws.{Is, Typed}
pub use denote.Memory.{part_at}
pub use denote.Param.{bounded, layout, param}
pub use denote.Param.Laws.{Laws, of_field, param_laws}
pub use denote.Param.Send.{Frees, IsSend, IsSync, part_keyless, sendable, struct_send}
pub use denote.Param.Shared.{copy_shared}
pub use denote.RattleType.{RattleType}
pub use denote.RawPtr.{block_of, count_of, in_a_block, in_block, lies_at, rawptr_Tells, rawptr_vals}
pub use denote.Steps.{heard, nothing}
pub use denote.Struct.Field.{u64-field}
pub use denote.Struct.Laws.{u64-copy, u64-laws}
pub use denote.Struct.Struct.{as_fields, Struct, within}
pub use denote.Triple.Clauses.{Clauses, closing, Ended}
pub use denote.Triple.Spec.{Meets, triple_of}
pub use denote.Triple.Table.{entered}
pub use denote.Triple.Walked.{ends_at, says, walk_Meets}
pub use lib.ListN.{get_elem?}
pub use mathlib.Core.Logic.{dite}
pub use mathlib.Core.Option.{none, some, some-injective, some-ne-none}
pub use mir.MapTy.{inst_fn}
pub use mir.Syntax.{a_type, Args, dcons, Dict, dnil, Fn, given as dict_at, Ty}
pub use mir.Val.{has_ty, Val, vcons, vnil, vstruct, WT}
pub use native.Mathlib.Decide.{dec_le, ℕ_discrete}
pub use prog.Memory.{Memory}
pub use prog.Routine.{Routine}
pub use prog.Wp.{Calls, Loops, spot_of, Tables, WpFn}
pub use seplogic.Ra.Ura.{Ura}
pub use sound.WpLaws.{WpFn-mono}
pub use types.ByLocal.{get_in}
pub use types.Kit.{assume, done, drop, each, feq_i, feq_l, fjoin, flt_i, flt_l, fpack, fpick, frame, fsplit, Goal, Item, move, prop, regoal, Seq, show, suffices, ‵, ◌$◌}
pub use types.Logic.{Logic, sem}
pub use types.Part.{sub, whole}
pub use types.Run.{assigns_last, fld, from, look, store}
