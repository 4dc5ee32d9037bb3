-- The names that more than one proof cites, passed on from one place. Declares nothing.
unfoldable pub use Rattle.hex.specs.Hex.{encode_with}
pub use Rattle.hex.specs.Hex.{IsBytes}
pub use Rattle.itm_entries.specs.declared.entry.Entry.{Entry}
pub use Rattle.itm_types.specs.Limits.{AreWithin}
pub use Rattle.itm_types.specs.declared.limits.TheConstants.{MAX_ACTORS, MAX_ARENA, MAX_COMMITS, MAX_DEPTH, MAX_MEMORY, MAX_PATIENCE, MAX_RESTARTS, MAX_RETRIES, USUAL_DEPTH}
unfoldable pub use Rattle.script_asm.specs.Assembly.{end_of, meaning, obeyed, program_of}
pub use Rattle.script_asm.specs.Assembly.{closed, complete, initial, lines_say, listing_of, named, said, worded}
unfoldable pub use Rattle.script_asm.specs.Blocks.{repeated, run_code}
pub use Rattle.script_asm.specs.Blocks.{added, again, begins, counted, ends, ends_block, ends_group, ends_repeat, in_second_part, opened, place_of, repeats, turns_group, without_innermost}
unfoldable pub use Rattle.script_asm.specs.Code.{control_code, entry_code, instruction_of}
unfoldable pub use Rattle.script_asm.specs.Directives.{laid_in, threaded}
pub use Rattle.script_asm.specs.Directives.{scheduled}
pub use Rattle.script_asm.specs.Groups.{innermost, innermost_line, outer, second_part, stands_never, within_never}
unfoldable pub use Rattle.script_asm.specs.Items.{events, item_of, schedule_of}
pub use Rattle.script_asm.specs.Items.{is_times, items_of, take_of, thread_number}
pub use Rattle.script_asm.specs.Readings.{at_line, fault, ◌>>=◌}
pub use Rattle.script_asm.specs.Placement.{code_may_stand, has_begun, may_stand}
unfoldable pub use Rattle.script_asm.specs.Words.{word_of}
pub use Rattle.script_asm.specs.declared.groups.Beginning.{Beginning}
pub use Rattle.script_asm.specs.declared.groups.Group.{Group}
pub use Rattle.script_asm.specs.declared.state.State.{State}
pub use Rattle.script_asm.specs.declared.mnemonics.Mnemonic.{Mnemonic}
pub use Rattle.script_fields.proofs.FirstLines.{chosen, first_place}
pub use Rattle.script_fields.proofs.Readings.{after_if, any_if, bind_if, both_if, choice_if, then_if}
pub use Rattle.script_fields.proofs.SpelledFields.{all_append, all_parts, allowed_again, code_again, fields_again, joined_line, lines_again}
pub use Rattle.script_fields.proofs.SpelledNumbers.{decimal_field, digits_again, function_again, limit_of_again, list_all-weaker, number_again, number_form, within_again, within_if}
pub use Rattle.script_fields.proofs.SpelledOperands.{digits_again_hex, digits_if, hex_field, literal_again, literal_field, literal_form, mode_again, mode_field, no_transaction_again, no_transaction_field, place_again, place_field, place_form, props_again, props_field, register_again, register_field, scope_again, scope_field}
unfoldable pub use Rattle.script_fields.specs.Operands.{digits, function, literal, no_transaction, number, place}
pub use Rattle.script_fields.specs.Operands.{both, is_digit, register, within}
unfoldable pub use Rattle.script_fields.specs.Shapes.{abort_scope, commit_action, count_of, init_of, limit_of, none, one, one_place, one_register, only_mode, place_register, register_literal, register_number, register_place, register_props, size_of, three, three_places, three_registers, two, two_places, two_registers, undo_action}
pub use Rattle.script_fields.specs.Shapes.{memory_size}
pub use Rattle.script_fields.specs.Spelling.{IsLiteral, IsPlace}
pub use Rattle.script_fields.specs.Text.{ended, fields, is_allowed, is_field_byte, IsField, IsLine, joined, without_comment}
pub use Rattle.script_fields.specs.declared.fault.AsmFault.{AsmFault}
pub use Rattle.script_fields.specs.declared.fault.FaultKind.{FaultKind}
pub use Rattle.script_fields.specs.declared.hex_digits.TheConstants.{MAX_INIT_DIGITS}
unfoldable pub use Rattle.script_print.specs.Fields.{lines_text}
pub use Rattle.script_print.specs.Fields.{field_text}
unfoldable pub use Rattle.script_print.specs.Printing.{printed}
pub use Rattle.script_print.specs.Printing.{depth_lines, init_fields, instruction_fields, item_fields, item_text, limit_lines, load_name, number_fields, operation_name, part_lines, program_lines, restart_lines, save_name, SaysAgain, thread_fields}
pub use Rattle.script_program.proofs.AddedSections.{code_more, threads_more}
pub use Rattle.script_program.specs.Listing.{arena_of, Bounds, limits_of, Listing, Part, Placed, Shared, thread_of}
pub use Rattle.script_program.specs.Schedules.{planned, Schedule, stray_of}
unfoldable pub use Rattle.script_program.specs.Sections.{counted_again, expanded, instruction_total, thread_total}
pub use Rattle.script_program.specs.Sections.{begun, parts_of, Sections}
pub use Rattle.script_program.specs.Sizes.{IsSize}
pub use Rattle.script_program.specs.declared.instruction.Instruction.{Instruction}
pub use Rattle.script_program.specs.declared.limits.TheConstants.{MAX_EVENTS, MAX_INSTRUCTIONS, MAX_ITEMS, MAX_LEVELS, MAX_REPEATS, MAX_TEXT}
pub use Rattle.script_program.specs.declared.schedule.Item.{Item}
pub use Rattle.script_program.specs.declared.schedule.Item.TheVariants.{Out, Take}
pub use Rattle.std.proofs.Math.Seq.{get_or-append_seam, take-append_seam, take-length}
pub use Rattle.std.proofs.lemmas.Bool.{and_from, and_parts, cases_Bool, cases_eq, eq-eqb, eqb-true, le-leb, le-ltb, leb-false, leb-true, lt-leb, lt-ltb, ltb-false, ltb-true, ne_eqb, not-true, not_from_false}
pub use Rattle.std.proofs.lemmas.List.{append-nil, drop_at, length-append, length-map, length-replicate, length-take, map-append, take-append-drop, take-append-le, take-take, take_all, take_more}
pub use Rattle.std.proofs.lemmas.List.Concat.{flat_map-append, flat_map-cons}
pub use Rattle.std.proofs.lemmas.List.Elements.{All-contains, All-get_or}
pub use Rattle.std.proofs.lemmas.List.Sums.{AllPass-from_list_all, sum_by-append, sum_by-cons}
pub use Rattle.std.proofs.lemmas.Result.{IfOk-at_ok, on_ok_weaker}
pub use Rattle.std.specs.Bool.{⊤}
pub use Rattle.std.specs.List.{AllByRecursion, flat_map, list_all, position_or_len, repeat, sum_by}
pub use Rattle.std.specs.Option.{IfSome, unwrap_or}
pub use Rattle.std.specs.Prelude.{if◌then◌else◌, length, List, nat_lt, None, Option, Some, ℕ, [], ◌*◌, ◌+◌, ◌<◌, ◌^◌, ◌∷◌, ◌≡◌, ◌≤◌}
pub use Rattle.std.specs.Result.{IfOk}
pub use Rattle.std.specs.Str.Lines.{lines}
