use Rattle.std.proofs.Common.{ap, sym, ◌∙◌}
use Rattle.itm_model.proofs.Common.{Undoable, undone}
use Rattle.itm_model.proofs.OpenBlocks.{undone_nothing}
use Rattle.itm_model.proofs.plain.Plain.back_all.Goals as goal

pub returns-then-self-clause-undone : goal.returns-then-self-clause-undone
returns-then-self-clause-undone c =
    let p = c.self.inside in
    ap (λ (u : Undoable). u.state) (sym c.self.view_is)
    ∙ (undone_nothing p.irrevocable p.journal.items p.memory.items p.arena.items p.logs.items p.marks.items p.actions.actions p.wrote c.if-self.true
    ∙ ap (λ (u : Undoable). undone u.state) c.self.view_is)
