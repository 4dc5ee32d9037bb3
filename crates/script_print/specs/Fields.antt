-- Fields as texts, and the text of lines.
use Rattle.std.specs.Prelude.{ℕ, List, map, decimal}
use Rattle.hex.specs.Hex.{encode_lower}
use Rattle.script_fields.specs.Text.{joined, ended}
use Rattle.script_fields.specs.Spelling.{place_text}
use Rattle.script_fields.specs.Registers.{register_name}
use Rattle.script_print.specs.declared.field.Field.{Field}
use Rattle.script_print.specs.declared.field.Field.TheVariants as kinds
use Rattle.script_print.specs.Printing.{item_text}

abbrev pub field_text : Field → List ℕ
field_text (kinds.Word word) = word.now
field_text (kinds.Number number) = decimal number
field_text (kinds.Register register) = register_name register
field_text (kinds.Place place) = place_text place
field_text (kinds.Bytes bytes) = encode_lower bytes.now
field_text (kinds.Item item) = item_text item

-- one space between the fields of a line, and a line feed after each line
unfoldable pub lines_text : List (List (List ℕ)) → List ℕ
lines_text lines = ended (map joined lines)
