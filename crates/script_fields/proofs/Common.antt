-- The names that more than one proof cites, passed on from one place. Declares nothing.
pub use Rattle.hex.proofs.HexLemmas.{decode_of-digits, decode_of-encode_lower, decode_of-ok, decode_sized-twice, length-encode_with}
unfoldable pub use Rattle.hex.specs.Hex.{encode_with}
pub use Rattle.hex.specs.Hex.{decode_of, decode_sized, encode_lower, is_hex_digit, IsBytes, lower_digits}
pub use Rattle.itm_types.specs.declared.call.Props.{Props}
pub use Rattle.script_fields.specs.Names.{lookup, row}
unfoldable pub use Rattle.script_fields.specs.Operands.{digits, function, literal, mode, named, no_transaction, number, place, property, props, scope, value_of}
pub use Rattle.script_fields.specs.Operands.{add_names, add_property, both, decoded, digits_to, in_range, is_digit, is_hex, is_number, is_plus, literal_of, or_number, register, value_after, within, ◌>>=◌}
pub use Rattle.script_fields.specs.Properties.{no_props, props_text}
unfoldable pub use Rattle.script_fields.specs.Shapes.{abort_scope, commit_action, count_of, init_of, limit_of, none, one, one_place, one_register, only_mode, place_register, register_literal, register_number, register_place, register_props, size_of, three, three_places, three_registers, two, two_places, two_registers, undo_action}
pub use Rattle.script_fields.specs.Spelling.{IsLiteral, IsPlace, literal_text, mode_text, no_transaction_text, place_text, said_bytes, scope_text}
unfoldable pub use Rattle.script_fields.specs.Text.{fields, without_comment}
pub use Rattle.script_fields.specs.Text.{ended, is_allowed, is_blank, is_feed, is_field_byte, is_ink, is_semicolon, is_some_field, IsField, IsLine, joined}
pub use Rattle.script_fields.specs.declared.fault.FaultKind.{FaultKind}
pub use Rattle.script_fields.specs.declared.register.Register.TheVariants.{R0, R1, R10, R2}
pub use Rattle.std.proofs.Math.Seq.{take-append_seam, take-length}
pub use Rattle.std.proofs.lemmas.Bool.{and_parts, cases_Bool, eq-eqb, eqb-false, eqb-true, le-leb, le-ltb, leb-true, lt-ltb, ltb-false, ltb-true, ne_eqb, not-true, not_from_false, or_cases, or_left, or_right}
pub use Rattle.std.proofs.lemmas.Fmt.{decimal_digit, decimal_nonempty, digits_decimal, digits_value-decimal, first_decimal}
pub use Rattle.std.proofs.lemmas.Grind.{common_steps}
pub use Rattle.std.proofs.lemmas.List.{drop-replicate, length-append, length-drop, length-map, length-replicate, length-take, take_all}
pub use Rattle.std.proofs.lemmas.List.Elements.{All-get_or, All-weaker}
pub use Rattle.std.proofs.lemmas.List.Folds.{list_all-append, prefix_len-append}
pub use Rattle.std.proofs.lemmas.List.Splits.{length-slice_split, slice_split-cons_no, slice_split-cons_yes, slice_split_at, slice_split_first, slice_split_none}
pub use Rattle.std.proofs.lemmas.List.Sums.{AllPass-from_list_all, list_all-from_AllPass, prefix_len-le-length}
pub use Rattle.std.proofs.lemmas.Simd.{bitmask_splat, chunk-drop, leading_from_mask_l, length-chunk, mask_l-mod, trailing_mask_l, zip2_splat}
pub use Rattle.std.specs.List.{after_first, AllByRecursion, before_first, list_all, onto_first, position_or_len, slice_split}
pub use Rattle.std.specs.Result.{IfOk, result_unwrap_or}
pub use Rattle.std.specs.Str.Lines.{lines, lines_of_parts, strip_carriage_return}
