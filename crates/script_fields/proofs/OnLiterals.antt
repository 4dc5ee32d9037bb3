-- What a worked case unfolds to compute.
use Rattle.script_fields.proofs.Common.{abort_scope, commit_action, count_of, digits, fields, function, init_of, limit_of, literal, mode, named, no_transaction, none, number, one, one_place, one_register, only_mode, place, place_register, property, props, register_literal, register_number, register_place, register_props, scope, size_of, three, three_places, three_registers, two, two_places, two_registers, undo_action, value_of, without_comment}
use Rattle.std.specs.Prelude.{⊤}
use Rattle.hex.proofs.OnLiterals.{hex_on_literals}

unfoldable pub fields_on_literals : ⊤
unfolding hex_on_literals fields without_comment value_of number function named place digits literal property props scope mode no_transaction none one two three one_register two_registers three_registers register_number register_literal register_props register_place place_register one_place two_places three_places abort_scope only_mode commit_action undo_action size_of limit_of init_of count_of
fields_on_literals = tt
