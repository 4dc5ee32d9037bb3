use Rattle.std.proofs.Common.{true, ap, ◌∙◌}
use Rattle.itm_model.proofs.Common.{ActionList, Undoable, irrevocable_from}
use Rattle.itm_model.proofs.OpenBlocks.{made_irrevocable_is, state_of}
use Rattle.itm_model.proofs.plain.Plain.go_irrevocable.Goals as goal

pub returns-clause-state : goal.returns-clause-state
returns-clause-state c =
    let p = c.self.inside in
    ap (λ (l : ActionList). state_of true p.journal.items p.memory.items p.arena.items p.logs.items p.marks.items l.actions true) c.forget_undos.ensures
    ∙ (made_irrevocable_is p.irrevocable p.journal.items p.memory.items p.arena.items p.logs.items p.marks.items p.actions.actions p.wrote c.if-self.false
    ∙ ap (λ (u : Undoable). irrevocable_from u.state) c.self.view_is)
