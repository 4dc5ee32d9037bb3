use Rattle.std.proofs.Common.{◌≡◌, Err, Some, take, sym, ap, ◌∙◌, position, arith}
use Rattle.script_fields.proofs.Common.{add_names, add_property, common_steps, is_plus, no_props, property, props, slice_split}
use Rattle.script_fields.proofs.NamedProperties.{name_refused}
use Rattle.script_fields.proofs.property.props.Goals as goal

pub returns-in_err-props : goal.returns-in_err-props
unfolding props
returns-in_err-props c =
    let at : Some c.in-Some.end ≡ position is_plus c.loop-end.rest.now = c.in-Some.ensures in
    let name : Err c.in_err-props.field-0.0 ≡ add_property c.loop-end.props (property (take c.in-Some.end c.loop-end.rest.now)) = c.in_err-props.ensures ∙ ap (add_property c.loop-end.props) (c.named.ensures ∙ ap property c.split_at.ensures.front) in
    let stop : add_names no_props (slice_split is_plus c.args.field.now) ≡ Err c.in_err-props.field-0.0 =
    sym c.loop-end.invariant ∙ name_refused c.loop-end.props c.in_err-props.field-0.0 c.loop-end.rest.now c.in-Some.end at name in
    grind (arith, common_steps, stop)
