-- The names that more than one proof cites, passed on from one place. Declares nothing.
pub use Rattle.access_rules.proofs.CopyChunks.{chunk_there, chunk_within, few_words, length-gathered-all, source_few}
pub use Rattle.access_rules.proofs.Overlays.{Agrees-front, Agrees-last, got_at, index_of, IsLog-push, lookup_fits}
pub use Rattle.access_rules.proofs.Ranges.{all_of_chunk, AllWritesWithin-put_range, AllWritesWithin-reserved_range, AreRows-put_range, is_covered-reserved_all, put_chunks_more, range_pieces_more, reserved_all-append, written_over}
pub use Rattle.access_rules.proofs.Readings.{length-part_of, load_ends, load_here, load_next, none_drop, none_left, part_is, passed_next, some_count, some_drop, some_left, starts_chunks, total_left, words_in-next}
pub use Rattle.access_rules.proofs.Writings.{all_reserved, AllFitIn, AllWritesWithin-put_all, AllWritesWithin-reserved_all, AreRows-put_all, AreRows-reserved_all, bytes_of-put_all, cut-reserved_all, either_way, fit_pieces, map_ok, not_ok, on_err, on_ok, overlay-reserved_all, put_all_more, reserved_all_more, some_kept_all, some_pieces, some_words}
pub use Rattle.arrayvec.specs.ArrayVec.{ArrayVec}
pub use Rattle.itm_model.specs.Machine.{after, after_unless, effect, is_clear, or_else, refusal, reply, reply_unless, saved_in_arena, source_bytes, target_written, unless}
pub use Rattle.itm_model.specs.State.{State}
pub use Rattle.itm_types.proofs.Words.{length-bytes_of, word-bytes_of}
pub use Rattle.itm_types.specs.Access.{size_of}
pub use Rattle.itm_types.specs.LogRows.{AreSingle, value_of}
pub use Rattle.itm_types.specs.Memory.{Agrees, AllFit, bytes_of, IsMemory}
pub use Rattle.itm_types.specs.Slices.{AreBytes, slice, with_slice}
pub use Rattle.itm_types.specs.declared.access.ReadHint.{ReadHint}
pub use Rattle.itm_types.specs.declared.access.Width.{Width}
pub use Rattle.itm_types.specs.declared.access.WriteHint.{WriteHint}
pub use Rattle.itm_types.specs.declared.call.Call.TheVariants.{Copy, Fill, Read, Write}
pub use Rattle.itm_types.specs.declared.call.Copying.{Copying}
pub use Rattle.itm_types.specs.declared.call.Refusal.{Refusal}
pub use Rattle.itm_types.specs.declared.call.Reply.TheVariants.{Bytes, Done, Refused}
pub use Rattle.itm_types.specs.declared.copy.CopyPair.{CopyPair}
pub use Rattle.itm_types.specs.declared.copy.CopyPair.TheVariants.{In, Out, Within}
pub use Rattle.itm_types.specs.declared.row.LogRow.{LogRow}
pub use Rattle.nest_frames.specs.Nest.{Frame, Nest, rows_of}
pub use Rattle.norec_accesses.specs.KeptFrames.{KeepsAllButWrites}
pub use Rattle.norec_accesses.specs.WholeReads.{asking_word, IsNewWord, ReadTurns}
pub use Rattle.norec_core.proofs.Engines.Machines.{access_same, open_is, reads, refuses, some_bytes, some_put, writes}
pub use Rattle.norec_core.proofs.Replies.CopyRefusals.{accepted_sides, arena_within, length-source_in, shared_within, source_is, target_is}
pub use Rattle.norec_core.specs.Accesses.{access_refusal, count, part, parts, passed, passed_for, total, total_for}
pub use Rattle.norec_core.specs.Copies.{chunks_in, copy_refusal, direction_of, is_out, source_in, source_refusal, source_words, target_refusal, words_in, WritesShared}
pub use Rattle.norec_core.specs.Core.{came, Core, is_inside}
pub use Rattle.norec_core.specs.Effects.{arena_copied, writes_copied}
pub use Rattle.norec_core.specs.Order.{chunk_reading, copy_stage, load_among, load_chunks, load_past, load_stage, log_after, stage_after, tries_after, tries_at, value_reading}
pub use Rattle.norec_core.specs.OwnAccesses.{word_of}
pub use Rattle.norec_core.specs.Phases.{Confirm, Idle, Load, Phase}
pub use Rattle.norec_core.specs.Proceeds.{Joins, Replies, Settles}
pub use Rattle.norec_core.specs.Rows.{AllWritesWithin, AreRoomy, has_mask, is_covered, is_had, is_logged, IsLog, put_all, put_chunks, put_range, range_pieces, reserved_all}
pub use Rattle.norec_core.specs.Stands.{is_some_row, state_over}
pub use Rattle.norec_core.specs.declared.answer.Answer.{Answer}
pub use Rattle.norec_core.specs.declared.call_parts.Purpose.{Purpose}
pub use Rattle.norec_core.specs.declared.call_parts.Reading.{Reading}
pub use Rattle.norec_data.specs.Bounds.{IsBounded}
pub use Rattle.norec_data.specs.Turns.{core_after, counted, phase_after, TurnEndsSo, Turns}
pub use Rattle.norec_data.specs.View.{call_for, core, in_block, rows_before}
pub use Rattle.norec_data.specs.declared.data.Data.{Data}
pub use Rattle.norec_data.specs.declared.end.CallEnd.TheVariants.{Word}
pub use Rattle.norec_data.specs.declared.turn.Turn.TheVariants.{End, Wait}
pub use Rattle.norec_turns.proofs.AcceptedCopies.{accepted_open, arena_shared, may_put_shared, reserved_shared, source_within, target_within, writes_shared}
pub use Rattle.norec_turns.proofs.Loads.{load_proceeds, load_sound, logs_chunk, may_read, no_reading, open_gathering, reading_of, starts_chunk, whole_source}
pub use Rattle.norec_turns.proofs.OpenBegins.{begun_read, begun_same}
pub use Rattle.norec_turns.proofs.ReadingFields.{after_log, after_open, after_snapshot, among}
pub use Rattle.norec_turns.proofs.Refusals.{denied, served, stands, told_replies}
pub use Rattle.norec_turns.specs.Between.{between, in_copy, IsSoundTurn, IsValue, IsWord, logged, MayCopy}
pub use Rattle.norec_turns.specs.InPhases.{AreFrames, FitsPurpose, HasCopied, IsFor, IsMissing, IsOpen, IsReading, IsServed, IsSound, MayPutFor, MayRead, next_load, reserved_for}
pub use Rattle.norec_turns.specs.Moves.{CallTurns, StepGoesTo, StepTurns}
pub use Rattle.user_actions.specs.Actions.{Actions}
pub use Rattle.value_log.specs.Log.{Log}
pub use Rattle.word_pieces.proofs.Covers.{AllFit-at, gathered-pieces_of, one_piece, take_all-pieces_of, words_of-pieces_of}
pub use Rattle.word_pieces.proofs.Lists.{length-slice, length-with_slice, slice-slice}
pub use Rattle.word_pieces.specs.Chunks.{chunks_before, chunks_of}
pub use Rattle.word_pieces.specs.Pieces.{count_of, gathered, IsPiece, part_of, piece_of, pieces_of}
pub use Rattle.word_pieces.specs.declared.chunk.Chunk.{Chunk}
pub use Rattle.word_pieces.specs.declared.chunk.Direction.TheVariants.{Up}
pub use Rattle.word_pieces.specs.declared.piece.Piece.{Piece}
pub use Rattle.write_set.proofs.Overlays.{AreRows-take, length-overlay, overlay-unwritten}
pub use Rattle.write_set.specs.Marks.{KeepsRoom, MayPut, Written}
pub use Rattle.write_set.specs.Rows.{AreEmpty, AreRows, laid, lookup, overlay, put, reserved}
pub use Rattle.write_set.specs.declared.mark.Place.{Place}
pub use Rattle.write_set.specs.declared.row.Row.{Row}
pub use Rattle.std.proofs.lemmas.Bool.{cases_Bool, cond-true, cond_both, eqb-true}
pub use Rattle.std.proofs.lemmas.List.{drop_all, length-append, length-replicate, take_all, take_more}
pub use Rattle.std.proofs.lemmas.List.Elements.{All-append, All-from_recursion, All-more, All-nil}
pub use Rattle.std.proofs.lemmas.Result.{err_from_is_err_and}
pub use Rattle.std.specs.Global.{Vec}
pub use Rattle.std.specs.Int.{to_le_bytes, w64}
