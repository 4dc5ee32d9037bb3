use Rattle.std.proofs.Common.{◌≡◌, ap, ◌∙◌, rules, tests}
use Rattle.itm_model.proofs.Common.{Mark, Props, Undoable, YieldsList-from_slice, any_from_yields_List, keeps_revocable, list_any}
use Rattle.itm_model.proofs.OpenBlocks.{any_has}
use Rattle.itm_model.proofs.plain.Plain.keeps_revocable.Goals as goal

pub returns : goal.returns
returns c =
    let p = c.self.inside in
    let found : c.any.result ≡ list_any (λ (m : Mark). m.props.no_irrevocable) p.marks.items =
    any_from_yields_List (λ (m : Mark). m.props.no_irrevocable) _ _ c.any.result c.any.ensures.ran (YieldsList-from_slice p.marks.items cc) (λ x b q k. search (rules, tests)) in
    found
    ∙ (any_has (λ (p : Props). p.no_irrevocable) p.irrevocable p.journal.items p.memory.items p.arena.items p.logs.items p.marks.items
    ∙ ap (λ (u : Undoable). keeps_revocable u.state.blocks) c.self.view_is)
