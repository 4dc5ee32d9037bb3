-- The names that more than one proof cites, passed on from one place. Declares nothing.
pub use Rattle.access_rules.proofs.CopyChunks.{chunk_part, chunk_there, length-gathered-all}
pub use Rattle.access_rules.proofs.Overlays.{fit-zeros, index_of}
pub use Rattle.access_rules.proofs.Readings.{is_piece, no_pieces, none_drop, none_there, piece_here, piece_there, some_count_of, some_drop, words_in-next}
pub use Rattle.access_rules.proofs.ServedCalls.{served, serves, source_within, target_within}
pub use Rattle.itm_model.specs.Machine.{after, after_unless, answer, bytes_reply, copied, effect, entered, is_clear, is_open, keeps_any, keeps_innermost, keeps_revocable, or_else, pushed, refusal, reply, reply_unless, source_bytes, target_written, unless, written as written_at}
pub use Rattle.itm_model.specs.State.{State}
pub use Rattle.itm_types.proofs.Words.{length-bytes_of}
pub use Rattle.itm_types.specs.Access.{size_of}
pub use Rattle.itm_types.specs.Calls.{access_of}
pub use Rattle.itm_types.specs.Memory.{AllFit, bytes_of, IsMemory}
pub use Rattle.itm_types.specs.Slices.{AreBytes, slice, with_slice}
pub use Rattle.itm_types.specs.declared.access.ReadHint.{ReadHint}
pub use Rattle.itm_types.specs.declared.access.Width.{Width}
pub use Rattle.itm_types.specs.declared.access.WriteHint.{WriteHint}
pub use Rattle.itm_types.specs.declared.call.Call.{Call}
pub use Rattle.itm_types.specs.declared.call.Call.TheVariants.{Abort, Begin, CommitAction, Copy, Fill, Mode, Read, Save, Write}
pub use Rattle.itm_types.specs.declared.call.Copying.{Copying}
pub use Rattle.itm_types.specs.declared.call.Props.{Props}
pub use Rattle.itm_types.specs.declared.call.Refusal.{Refusal}
pub use Rattle.itm_types.specs.declared.call.Refusal.TheVariants.{IsIrrevocable, NoAbort, NoIrrevocable, OutOfRange, Outside, Overlap, TooDeep}
pub use Rattle.itm_types.specs.declared.call.Reply.{Reply}
pub use Rattle.itm_types.specs.declared.call.Reply.TheVariants.{Code, Done, Refused}
pub use Rattle.itm_types.specs.declared.copy.CopyPair.{CopyPair}
pub use Rattle.itm_types.specs.declared.copy.CopyPair.TheVariants.{In, Out, Within}
pub use Rattle.itm_types.specs.declared.datum.Datum.{Datum}
pub use Rattle.nest_frames.specs.Nest.{begun, Frame, is_kept, stays_revocable}
pub use Rattle.norec_core.proofs.Engines.KeptFields.{anew_within, came_restarted}
pub use Rattle.norec_core.proofs.Engines.Machines.{refuses}
pub use Rattle.norec_core.proofs.Replies.CopyRefusals.{accepted_sides, arena_within, shared_within, source_is, target_is}
pub use Rattle.norec_core.specs.Accesses.{access_refusal, begin_refusal, mode_refusal, part}
pub use Rattle.norec_core.specs.Copies.{chunks_in, copy_refusal, direction_of, is_out, source_refusal, target_refusal, words_in, WritesShared}
pub use Rattle.norec_core.specs.Core.{came, Core, handed, irrevocable_room, is_inside, may_go}
pub use Rattle.norec_core.specs.Effects.{actions_after, arena_held, blocks_after, room_left}
pub use Rattle.norec_core.specs.Held.{answered, ComesTo, reading as reading_of, rest_of, StepsHeld}
pub use Rattle.norec_core.specs.Order.{chunk_from, chunk_read, chunk_reading, chunk_stage, chunk_writing, fill_from, fill_stage, going_stage, place_among, place_from, placed_past, placed_piece, placed_value, read_from, read_past, stage_at}
pub use Rattle.norec_core.specs.OwnAccesses.{access_saved, chunk_saved, chunk_source, word_of}
pub use Rattle.norec_core.specs.Parts.{chunk_copying, copied_each, filled_each}
pub use Rattle.norec_core.specs.Phases.{Fetch, Idle, Load, Phase, Place}
pub use Rattle.norec_core.specs.Proceeds.{AsksFor, Got, RepliesHeld, reply_held}
pub use Rattle.norec_core.specs.Stands.{block_kept, stands_for, state_kept}
pub use Rattle.norec_core.specs.declared.answer.Answer.{Answer}
pub use Rattle.norec_core.specs.declared.call_parts.Purpose.{Purpose}
pub use Rattle.norec_core.specs.declared.call_parts.Reading.{Reading}
pub use Rattle.norec_core.specs.declared.call_parts.Target.{Target}
pub use Rattle.norec_core.specs.declared.call_parts.Writing.{Writing}
pub use Rattle.norec_data.specs.Bounds.{IsHeld}
pub use Rattle.norec_data.specs.Turns.{counted, IsOn, next_of, TurnEndsSo}
pub use Rattle.norec_data.specs.View.{call_for, core_held, held, in_block, phase_of, placed_for, step_of}
pub use Rattle.norec_data.specs.declared.data.Data.{Data}
pub use Rattle.norec_data.specs.declared.turn.Turn.TheVariants.{EndIrrevocable, Wait}
pub use Rattle.norec_irrevocable.specs.Outcomes.{ComesBy, held_after, HeldTurns, in_call, IsSoundAfter, kept, Steps}
pub use Rattle.norec_irrevocable.specs.Phases.{copy_steps, InPhase, is_in, IsNext, IsPlacing, IsServed, IsSoundHeld, LoadsFor, MayCopy, piece_mask, placed_before, PlacesFor}
pub use Rattle.word_pieces.proofs.Covers.{AllByRecursion-pieces_of, AllFit-at, bytes_of-written, gathered-pieces_of, take_all-pieces_of, word-pieces_of}
pub use Rattle.word_pieces.specs.Chunks.{chunk_count, chunk_of, chunks_before, chunks_moved, chunks_of, chunks_written, IsSafe}
pub use Rattle.word_pieces.specs.Masks.{mask_of, merge, whole}
pub use Rattle.word_pieces.specs.Pieces.{count_of, gathered, IsPiece, part_of, piece_of, pieces_of, scattered, with_piece, written}
pub use Rattle.word_pieces.specs.declared.chunk.Chunk.{Chunk}
pub use Rattle.word_pieces.specs.declared.chunk.Direction.{Direction}
pub use Rattle.word_pieces.specs.declared.chunk.Direction.TheVariants.{Down, Up}
pub use Rattle.word_pieces.specs.declared.piece.Piece.{Piece}
pub use Rattle.std.proofs.lemmas.Bool.{cases_Bool, cond-false, cond-true, cond_both, eqb-true, le-leb, le-ltb, leb-true, lt-ltb, ltb-false, ltb-true, ne_eqb}
pub use Rattle.std.proofs.lemmas.List.{append-nil, append_assoc, drop-replicate, drop_all, length-replicate, length-set, take-replicate, take_all}
pub use Rattle.std.proofs.lemmas.List.FromFn.{get_or-map-range_with_len, length-map-range_with_len}
pub use Rattle.std.specs.List.{AllByRecursion}
