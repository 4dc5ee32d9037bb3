use Rattle.std.proofs.Common.{◌≡◌, length}
use Rattle.script_fields.proofs.Common.{add_names, is_plus, no_props, slice_split}
use Rattle.script_fields.proofs.property.props.Given as goal

abbrev pub invariant-loop-end : goal.invariant-loop-end
invariant-loop-end l = add_names l.props (slice_split is_plus l.rest) ≡ add_names no_props (slice_split is_plus l.fn.field)

abbrev pub decreases-loop-end : goal.decreases-loop-end
decreases-loop-end l = length l.rest
