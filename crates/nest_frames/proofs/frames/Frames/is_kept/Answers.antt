use Rattle.std.proofs.Common.{true, sym, ap, ◌∙◌, rules, tests}
use Rattle.nest_frames.proofs.Common.{Moment, Nest, Props, YieldsList-from_slice, any_from_yields_List, is_kept}
use Rattle.nest_frames.proofs.OpenBlocks.{any_of}
use Rattle.nest_frames.proofs.frames.Frames.is_kept.Goals as goal

pub returns-then-outer : goal.returns-then-outer
returns-then-outer c =
    let f = c.self.inside in
    let found = any_from_yields_List (λ (m : Moment). m.props.no_abort) _ _ c.any.result c.any.ensures.ran (YieldsList-from_slice f.moments.items cc) (λ x b q k. search (rules, tests)) in
    found
    ∙ (any_of (λ (p : Props). p.no_abort) f.writes f.undo.olds f.moments.items
    ∙ (ap (λ (v : Nest). is_kept v.blocks true) c.self.view_is ∙ sym (ap (is_kept c.args.self.now.blocks) c.if-outer.true)))
