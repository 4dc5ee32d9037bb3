-- The names that more than one proof cites, passed on from one place. Declares nothing.
unfoldable pub use Rattle.itm_entries.specs.Entries.{entry_of}
pub use Rattle.itm_types.specs.declared.limits.TheConstants.{MAX_ACTORS, MAX_COMMITS}
unfoldable pub use Rattle.script_asm.specs.Assembly.{end_of, meaning, obeyed, program_of}
pub use Rattle.script_asm.specs.Assembly.{initial, lines_say}
unfoldable pub use Rattle.script_asm.specs.Blocks.{repeated, run_code}
pub use Rattle.script_asm.specs.Blocks.{added, begins, counted, ends_repeat, opened, place_of, without_innermost}
unfoldable pub use Rattle.script_asm.specs.Directives.{laid_in, threaded}
pub use Rattle.script_asm.specs.Groups.{innermost, innermost_line, never_count, second_part, stands_never, within_never}
unfoldable pub use Rattle.script_asm.specs.Items.{events, item_of, schedule_of}
pub use Rattle.script_asm.specs.Items.{items_in, items_of, with_item}
pub use Rattle.script_asm.specs.PlainTexts.{is_plain, is_plain_or_feed, is_shown}
pub use Rattle.script_asm.specs.Readings.{fault, ◌>>=◌}
pub use Rattle.script_asm.specs.Wants.{Adds, init_count, kept, RunsOut}
unfoldable pub use Rattle.script_asm.specs.Words.{word_of}
pub use Rattle.script_asm.specs.declared.groups.Beginning.{Beginning}
pub use Rattle.script_asm.specs.declared.state.State.{State}
pub use Rattle.script_fields.specs.Operands.{both, decoded}
unfoldable pub use Rattle.script_fields.specs.Text.{fields, without_comment}
pub use Rattle.script_fields.specs.Text.{is_allowed, is_feed, is_semicolon}
pub use Rattle.script_fields.specs.declared.fault.AsmFault.{AsmFault}
unfoldable pub use Rattle.script_program.specs.Listing.{bytes_of, codes_of}
pub use Rattle.script_program.specs.Listing.{Listing, opening_of, Part, Placed, Shared, threads_of}
pub use Rattle.script_program.specs.Schedules.{planned}
unfoldable pub use Rattle.script_program.specs.Sections.{counted_again, expanded, instruction_total, thread_total}
pub use Rattle.script_program.specs.Sections.{begun, code_total, Sections}
pub use Rattle.script_program.specs.declared.instruction.Instruction.{Instruction}
pub use Rattle.script_program.specs.declared.limits.TheConstants.{MAX_INSTRUCTIONS, MAX_ITEMS, MAX_LEVELS, MAX_TEXT}
pub use Rattle.script_program.specs.declared.schedule.Item.{Item}
pub use Rattle.std.proofs.Math.Seq.{drop-nil, set-append_seam}
pub use Rattle.std.proofs.lemmas.Bool.{and_parts, le-ltb, leb-false, leb-true, lt-leb, lt-ltb, ltb-false, ltb-true, or_right}
pub use Rattle.std.proofs.lemmas.List.{drop-drop, drop-take, length-drop, length-set, length-take, reverse-append, take-append-drop, take-take, take_all, take_more}
pub use Rattle.std.specs.List.{list_all, onto_first, slice_split}
pub use Rattle.std.specs.Str.Lines.{lines, lines_of_parts, strip_carriage_return}
