use Rattle.std.proofs.Common.{Bool, sym, ap, ◌∙◌, if◌then◌else◌}
use Rattle.norec_engine.proofs.Common.{after_left, is_free, phase_of, told_left, undone_of_left}
use Rattle.norec_core.specs.declared.answer.Undone.TheVariants.{Nothing, Done}
use Rattle.norec_engine.proofs.engine.Engine.abort.Goals.{then-was_open, else-was_open}
use Rattle.norec_engine.proofs.engine.Engine.abort.Goals as goal

pub returns-after-was_open : goal.returns-after-was_open
returns-after-was_open c =
    let s = c.self.inside.state in
    let phase = phase_of s c.self.inside.pending in
    let new = c.roll_back.new.state in
    let free = is_free s c.self.inside.pending c.in_default.not-BackLoad c.in_default.not-Store c.in_default.not-Free in
    let invariant = rw c.if-self.false at c.self.invariant in
    rw (← c.self.view_is) (rw c.if-self.false (record {
      undone =
          (elim c.if-was_open.branch [
            | then-was_open w ↦ w.result-is ∙ ap (λ (b : Bool). if b then Done else Nothing) (sym w.if-was_open.true ∙ c.is_open-was_open.ensures)
            | else-was_open w ↦ w.result-is ∙ ap (λ (b : Bool). if b then Done else Nothing) (sym w.if-was_open.false ∙ c.is_open-was_open.ensures)
          ]) ∙ sym (told_left s phase free);
      after = after_left s new phase free c.roll_back.ensures.ended;
      rolled_back = λ holds. undone_of_left s new phase invariant.in_phase free c.roll_back.ensures.ended c.roll_back.ensures.restored;
      unregistered = λ holds. c.roll_back.ensures.none;
    }))
