use Rattle.std.proofs.Common.{ap, ◌∙◌, rules, tests}
use Rattle.nest_frames.proofs.Common.{Moment, Nest, Props, YieldsList-from_slice, any_from_yields_List, stays_revocable}
use Rattle.nest_frames.proofs.OpenBlocks.{any_of}
use Rattle.nest_frames.proofs.frames.Frames.stays_revocable.Goals as goal

pub returns : goal.returns
returns c =
    let f = c.self.inside in
    let found = any_from_yields_List (λ (m : Moment). m.props.no_irrevocable) _ _ c.any.result c.any.ensures.ran (YieldsList-from_slice f.moments.items cc) (λ x b q k. search (rules, tests)) in
    found ∙ (any_of (λ (p : Props). p.no_irrevocable) f.writes f.undo.olds f.moments.items ∙ ap (λ (v : Nest). stays_revocable v.blocks) c.self.view_is)
