use Rattle.std.proofs.Common.{ap, sym, ◌∙◌}
use Rattle.tx_history.proofs.PagedTexts.{closes}
use Rattle.tx_history.proofs.parts.write_row.Goals as goal

pub returns-clause-written : goal.returns-clause-written
returns-clause-written g c =
    let name = sym (c.close.ensures.carries.same ∙ c.put_row.ensures.carries.same ∙ c.empty-page.ensures.same) in
    closes _ _ c.close.result _ _ _ _ c.put_row.ensures.carries c.close.ensures.carries c.empty-page.ensures.nothing.1 c.empty-page.ensures.nothing.0 c.close.ensures.told c.close.ensures.empty
    (ap g.W.Write.contents (sym c.empty-page.ensures.writer)) (ap g.W.Write.contents (c.writer-1.given.1 name))
