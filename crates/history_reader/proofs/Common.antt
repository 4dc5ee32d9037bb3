-- The names that more than one proof cites, passed on from one place. Declares nothing.
pub use Rattle.hex.proofs.HexLemmas.{decode_of-encode_lower, decode_of-even, length-encode_with}
unfoldable pub use Rattle.hex.specs.Hex.{decode_pairs, encode_with}
pub use Rattle.hex.specs.Hex.{decode_sized, digit_or_error, encode_lower, hex_digit_value, is_hex_digit, IsBytes, lower_digits, pair_value, value_at}
unfoldable pub use Rattle.history_reader.specs.Calls.{abort_operand, begin_operand, call_of, commit_action, control_call, copy_operands, fill_operands, mode_operand, no_operand, place_datum, place_operand, place_size, point_call, undo_action, verb_call, verb_of}
pub use Rattle.history_reader.specs.Calls.{access_names, one_operand, or_point, point_verb, three_operands, two_operands}
pub use Rattle.history_reader.specs.Canonical.{canonical, canonical_again, canonical_attempt, canonical_call, canonical_entry, canonical_undone}
unfoldable pub use Rattle.history_reader.specs.Digits.{arena_bytes, datum, memory_bytes, restart_bytes, sized}
pub use Rattle.history_reader.specs.Digits.{are_words, bytes_if, datum_of, is_lower_digit, is_lower_hex, low}
unfoldable pub use Rattle.history_reader.specs.EarlyLines.{early_call, early_head, early_memory}
pub use Rattle.history_reader.specs.EarlyLines.{early_behind, early_later, early_line, early_placed}
pub use Rattle.history_reader.specs.Faults.{line_kind, told}
unfoldable pub use Rattle.history_reader.specs.Fields.{equals, fields, next, next_three, none, one}
pub use Rattle.history_reader.specs.Fields.{is_space}
pub use Rattle.history_reader.specs.LineFields.{arena_fields, arena_text, call_fields, depth_fields, final_fields, head_fields, memory_fields, operands_of, ran_fields, reply_fields, rest_of, restart_fields, undone_fields, verb_in, verb_text}
unfoldable pub use Rattle.history_reader.specs.Lines.{again_or_later, arena_of, between_line, call_or_later, depth_line, depth_of, end_line, final_line, final_of, head_of, later_line, meaning, memory_line, memory_of, placed, ran_of, restart_line as restart_said, restart_of, undone_of}
pub use Rattle.history_reader.specs.Lines.{behind_call, by_place, fields_line, header_line, initial, is_entered, outcome_of, try_of, with_undone}
unfoldable pub use Rattle.history_reader.specs.Numbers.{depth, ranged}
pub use Rattle.history_reader.specs.Numbers.{byte, nth, thread}
unfoldable pub use Rattle.history_reader.specs.Reading.{end_of, read_of}
pub use Rattle.history_reader.specs.Reading.{Adds, Fails, Gives, in_line, lines_leave, parts_say, RunsOut, Steps, taken, whole}
unfoldable pub use Rattle.history_reader.specs.Replies.{accepted, refusal_of, refused, reply_of}
pub use Rattle.history_reader.specs.Replies.{is_five, with_reply}
pub use Rattle.history_reader.specs.Tellable.{answer_to, IsAttempt, IsCall, IsEntry, IsHistory, IsMemory, IsRan, IsReply, IsTold, IsUndone}
unfoldable pub use Rattle.history_reader.specs.Words.{block_props, kind, outcome}
pub use Rattle.history_reader.specs.Words.{kind_names, outcome_names, props_names}
pub use Rattle.history_reader.specs.declared.fault.ReadKind.{ReadKind}
pub use Rattle.history_reader.specs.declared.reply.ReplyKind.{ReplyKind}
pub use Rattle.history_reader.specs.declared.state.Behind.{Behind}
pub use Rattle.history_reader.specs.declared.state.Head.{Head}
pub use Rattle.history_reader.specs.declared.state.Place.{Place}
pub use Rattle.history_reader.specs.declared.state.State.{State}
pub use Rattle.history_reader.specs.declared.verb.Verb.{Verb}
pub use Rattle.itm_entries.proofs.UniqueNames.{entry_of-exact}
pub use Rattle.itm_entries.specs.Entries.{entries, entry_of}
pub use Rattle.itm_entries.specs.Names.{name_of}
pub use Rattle.itm_entries.specs.declared.entry.Entry.{Entry as Point}
pub use Rattle.itm_model.specs.Machine.{after, after_unless, answer, effect, is_open, opened, refusal, reply, reply_unless, standing, written}
pub use Rattle.itm_model.specs.Runs.{Breaks, later, replies_through, state_through}
pub use Rattle.itm_types.specs.Access.{size_of}
pub use Rattle.itm_types.specs.Calls.{is_begin}
pub use Rattle.itm_types.specs.Refusals.{number_of}
pub use Rattle.itm_types.specs.declared.access.Width.{Width}
pub use Rattle.itm_types.specs.declared.call.ActionKind.{ActionKind}
pub use Rattle.itm_types.specs.declared.call.Call.{Call}
pub use Rattle.itm_types.specs.declared.call.Call.TheVariants.{Abort, Begin, Commit, Fill, Mode}
pub use Rattle.itm_types.specs.declared.call.Props.{Props}
pub use Rattle.itm_types.specs.declared.call.Ran.{Ran}
pub use Rattle.itm_types.specs.declared.call.Refusal.{Refusal}
pub use Rattle.itm_types.specs.declared.call.Refusal.TheVariants.{OutOfArena, OutOfRange, TooDeep}
pub use Rattle.itm_types.specs.declared.call.Reply.{Reply}
pub use Rattle.itm_types.specs.declared.call.Reply.TheVariants.{Code, Done, Refused}
pub use Rattle.itm_types.specs.declared.datum.Datum.{Datum}
pub use Rattle.itm_types.specs.declared.limits.Depth.{Depth}
pub use Rattle.itm_types.specs.declared.limits.TheConstants.{MAX_ARENA, MAX_DEPTH, MAX_RETRIES}
pub use Rattle.script_fields.proofs.FirstLines.{parts_nonempty}
pub use Rattle.script_fields.proofs.HexDigits.{decode_of-hex, decoded_into, decoded_is}
pub use Rattle.script_fields.proofs.Readings.{after_if, bind_if, both_if, choice_if}
pub use Rattle.script_fields.proofs.SpelledFields.{all_append, all_parts, joined_line}
pub use Rattle.script_fields.proofs.SpelledNumbers.{decimal_field, function_again, list_all-weaker, number_again, number_if, own, within_again, within_if}
pub use Rattle.script_fields.proofs.SpelledOperands.{even_digits, hex_field, mode_again, mode_field, no_transaction_again, no_transaction_field, props_field, scope_again, scope_field}
pub use Rattle.script_fields.specs.Names.{lookup}
unfoldable pub use Rattle.script_fields.specs.Operands.{function, mode, no_transaction, number, scope}
pub use Rattle.script_fields.specs.Operands.{both, decoded, exactly, is_hex, or_operand, within, ◌>>=◌}
pub use Rattle.script_fields.specs.Properties.{props_text}
pub use Rattle.script_fields.specs.Spelling.{mode_text, no_transaction_text, scope_text}
pub use Rattle.script_fields.specs.Text.{is_feed, is_field_byte, IsField, joined}
pub use Rattle.script_fields.specs.declared.fault.FaultKind.{FaultKind}
pub use Rattle.tx_attempts.specs.Attempts.{alone, ByAbort, ByCommit, ClosedBy, committed_at, is_at, is_committed, memory_after, memory_left}
pub use Rattle.tx_attempts.specs.Counts.{count_at, count_committed, one_where}
pub use Rattle.tx_attempts.specs.Restarts.{again_at, AreAgain, arena_set, AtEach, breaks_of, IsAgain, IsInnerBegin}
pub use Rattle.tx_attempts.specs.declared.attempt.Again.{Again}
pub use Rattle.tx_attempts.specs.declared.attempt.Attempt.{Attempt}
pub use Rattle.tx_attempts.specs.declared.attempt.CallRecord.{CallRecord}
pub use Rattle.tx_attempts.specs.declared.attempt.Outcome.{Outcome}
pub use Rattle.tx_attempts.specs.declared.attempt.Outcome.TheVariants.{Cancelled, Committed, ReadOnly}
pub use Rattle.tx_history.proofs.SameDepths.{near_is, same_depth}
pub use Rattle.tx_history.specs.Bounds.{AgainFits, AreLimited, AttemptFits, CallFits, EntryFits, HasArenaWidth, HistoryFits, IsArenaWidth, IsDatum, IsLimited, IsWord, ReplyFits}
pub use Rattle.tx_history.specs.Depths.{depth_from}
unfoldable pub use Rattle.tx_history.specs.Histories.{again_lines, arena_line, attempt_lines, body_text, call_line, commit_action_text, copy_text, fill_text, first_lines, head_line, history_text, last_line, props_end, ran_line, reply_text, restart_line, try_text, undo_action_text, undone_line}
pub use Rattle.tx_history.specs.Histories.{call_lines, kind_text, outcome_name, version_lines}
pub use Rattle.tx_history.specs.Legal.{count_holding, EndsFree, EndsHeld, EndsIn, is_holding, is_unfinished, IsAlone, IsLegal, memory_at, ran_alone, state_at}
pub use Rattle.tx_history.specs.Versions.{MayTell, memory_limit, thread_limit}
pub use Rattle.tx_history.specs.declared.history.History.{History}
pub use Rattle.tx_history.specs.declared.history.Version.{Version}
pub use Rattle.tx_history.specs.declared.history.Version.TheVariants.{One, Three, Two}
pub use Rattle.std.proofs.lemmas.Bool.{and_parts, cases_Bool, eq-eqb, eqb-false, eqb-true, le-leb, leb-true, lt-leb, ltb-false, ne_eqb, not-true, or_cases}
pub use Rattle.std.proofs.lemmas.Fmt.{decimal-digits_value, decimal_digit}
pub use Rattle.std.proofs.lemmas.List.{append-nil, drop-append-le, drop-map, drop_all, flat_map_more, length-take-le, map-append, take-append-drop, take-append-le, take-map, take_all}
pub use Rattle.std.proofs.lemmas.List.Elements.{All-append, All-cons, All-head, All-map, All-nil, All-pop, All-push, All-same, All-tail, All-weaker, recursion_from_All}
pub use Rattle.std.proofs.lemmas.List.Splits.{join_with_byte-slice_split, slice_split_at, slice_split_none}
pub use Rattle.std.proofs.lemmas.Option.{slice_get-map, slice_get_within}
pub use Rattle.std.proofs.lemmas.Result.{err_from_is_err_and, IfOk-at_ok, IfOk-weaker}
pub use Rattle.std.proofs.lemmas.Slice.Eq.{bytes_eq-Decides}
pub use Rattle.std.specs.List.{AllByRecursion, flat_map, join_with_byte, list_all, slice_get, slice_split}
pub use Rattle.std.specs.Option.{IfSome, option_map}
pub use Rattle.std.specs.Result.{IfOk}
