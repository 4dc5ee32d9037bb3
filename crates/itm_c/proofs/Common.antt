-- The names that more than one proof cites, passed on from one place. Declares nothing.
pub use Rattle.call_rules.specs.CallResults.{IsAnswered, IsThreadStarved, Tells}
pub use Rattle.call_rules.specs.Standing.{Standing, start_of}
pub use Rattle.itm_c.specs.Codes.{number_of_bytes}
pub use Rattle.itm_c.specs.Data.{number_of_1, number_of_2, number_of_4}
pub use Rattle.itm_c.specs.HandleLends.{with_kept}
pub use Rattle.itm_c.specs.Told.{Comes, Told}
pub use Rattle.itm_c.specs.declared.client.Client.{Client}
pub use Rattle.itm_runtime.specs.Stops.{answer_to_read, bytes_of_number, number}
pub use Rattle.itm_types.proofs.SameDatum.{same_datum}
pub use Rattle.itm_types.specs.declared.access.WriteHint.TheVariants.{W}
pub use Rattle.itm_types.specs.declared.call.Call.TheVariants.{Read, Write}
pub use Rattle.itm_types.specs.declared.call.Reply.TheVariants.{Bytes, Done}
pub use Rattle.itm_types.specs.declared.datum.Datum.{Datum}
pub use Rattle.norec_core.specs.declared.answer.Answer.{Answer}
pub use Rattle.norec_core.specs.declared.answer.Answer.TheVariants.{Reply}
pub use Rattle.shared_words.proofs.StructSteps.{Good, tells, two, two_made}
pub use Rattle.shared_words.specs.Passes.{cells_of, place_of, view_of}
pub use Rattle.shared_words.specs.declared.words.Words.{Words}
pub use Rattle.std_alloc.proofs.BoxSteps.Form.{B, box_ty, box_typed, Bx, D, handle, P, R, word, τ}
pub use Rattle.std_alloc.proofs.BoxSteps.Steps.{box_in, box_out}
pub use Rattle.std_alloc.specs.Vec.Ownership.{has_block, lodged, owns_if, vec_owns}
pub use Rattle.std_alloc.specs.contracts.vec.lodged.LodgedAllocator.TheImpl.{ghosts}
pub use Rattle.std_alloc.specs.declared.vec.lodged.Lodged.{Lodged}
pub use Rattle.std.proofs.VecSteps.Shapes.{after}
pub use Rattle.std.proofs.alloc.Calls.{Goes-blank, handle_tells, token, α}
pub use Rattle.std.specs.Allocator.{block_with_items}
pub use Rattle.std.specs.Arc.{arc_value}
pub use contract.BorrowLft.{⊑_refl, ◌⊑◌}
pub use denote.Builtin.{u64, usize}
unfoldable pub use denote.Memory.{part_of}
pub use denote.Memory.{cell_at, lone, mem, part_at}
pub use denote.Param.{bounded}
pub use denote.Param.Laws.{Laws, of_field}
pub use denote.Param.Shared.{copy_shared}
pub use denote.RattleType.{RattleType, Valss}
pub use denote.RawPtr.{block_ptr, in_a_block, in_block, null_ptr, Ptr, ptr_val, RawPtr}
pub use denote.Struct.Field.{u64-field}
pub use denote.Struct.Laws.{u64-copy, u64-laws}
pub use denote.Struct.Owning.{fields, shape, to}
pub use denote.Struct.Struct.{as_fields, exits_of, within}
pub use denote.Triple.Call.{calls_at, calls_at_last}
pub use denote.Triple.Table.{framed}
pub use lib.Dec.{lit<, T}
pub use mir.MapTy.{inst_fn}
pub use mir.Raw.{raw as bare}
pub use mir.Syntax.{a_type, Args, dcons, dnil, Fn, impl, tnil, Ty, ty_array, ty_int, ty_ptr, w64}
pub use mir.Val.{has_ty, of_list, vint, WT}
pub use prog.Wp.{WpFn}
pub use seplogic.Ra.Ura.{Ura}
pub use types.Kit.{by, flt_i, flt_l}
