use Rattle.std.proofs.Common.{sym, ap, subst, ◌∙◌}
use Rattle.nest_frames.proofs.Common.{IsSound, Nest, Undo, Written, frames_of, renewed}
use Rattle.nest_frames.proofs.OpenBlocks.{moment_last, frames_renewed, IsSound-renewed}
use Rattle.nest_frames.proofs.frames.Frames.renew.Goals as goal

pub invariant_of-self : goal.invariant_of-self
invariant_of-self c =
    let f = c.self.inside in
    let begin = c.in-Some.begin.now in
    let moments = f.moments.items in
    let h = moment_last f.writes f.undo.olds f.actions.actions moments _ begin c.self.invariant c.as_slice.ensures.value c.in-Some.ensures.value in
    let inner = ap (λ (w : Written). w.inner) c.renew.ensures.new in
    subst (λ (u : Undo). IsSound c.renew.new.self u.olds c.roll_back.new.self.actions moments) (sym c.renew-2.ensures.log)
    (IsSound-renewed f.writes c.renew.new.self f.undo.olds f.actions.actions moments h.0 begin h.1 c.roll_back.new.self.actions inner)

pub returns-clause-blocks : goal.returns-clause-blocks
returns-clause-blocks c =
    let f = c.self.inside in
    let begin = c.in-Some.begin.now in
    let moments = f.moments.items in
    let h = moment_last f.writes f.undo.olds f.actions.actions moments _ begin c.self.invariant c.as_slice.ensures.value c.in-Some.ensures.value in
    let rows = c.renew.ensures.at_mark ∙ c.renew.ensures.rows in
    ap (λ (u : Undo). frames_of c.renew.new.self u.olds moments) c.renew-2.ensures.log
    ∙ (frames_renewed f.writes c.renew.new.self f.undo.olds f.actions.actions moments h.0 begin h.1 c.renew.ensures.marks rows
    ∙ ap (λ (v : Nest). renewed v.blocks) c.self.view_is)
