use Rattle.std.proofs.Common.{◌≡◌, false, refl, codes}
use Rattle.tx_history.proofs.Common.{Props, props_end}
use Rattle.tx_history.proofs.PagedTexts.{carries_as, carries_then}
use Rattle.tx_history.proofs.attempts.put_props.Goals as goal

-- of no properties
bare : (p : Props) → p.no_abort ≡ false → p.no_irrevocable ≡ false → p.goes_irrevocable ≡ false → codes " -\n" ≡ props_end p
unfolding props_end
bare p a b c = rw (a, b, c) refl

pub returns-in-false : goal.returns-in-false
returns-in-false g c =
    let abort : c.args.props.no_abort ≡ false = cc in
    let irrevocable : c.args.props.no_irrevocable ≡ false = cc in
    let goes : c.args.props.goes_irrevocable ≡ false = cc in
    carries_as _ _ _ _ c.text.ensures (bare c.args.props abort irrevocable goes)

pub returns-in_default : goal.returns-in_default
unfolding props_end
returns-in_default g c =
    let props = rw c.props_text.ensures at rw c.as_bytes.ensures.value at c.bytes.ensures in
    carries_then (carries_then c.text-in_default.ensures props) c.text-in_default-2.ensures
