use Rattle.std.proofs.Common.{◌≡◌, ◌<◌, List, length, ap, sym, subst, ◌∙◌, arith}
use Rattle.nest_frames.proofs.Common.{Frame, IsSound, Nest, Undo, Written, closed, frames_of, kept_of, log_of}
use Rattle.nest_frames.proofs.OpenBlocks.{moment_popped, length-frames_of, frames_closed, IsSound-closed, kept_of-closed, actions_inner}
use Rattle.nest_frames.proofs.frames.Frames.leave.Goals as goal

-- the blocks as the call leaves them
blocks_are : (c : goal.After-forget_mark-else-len-eq1) → frames_of c.forget_mark.new.self c.forget_mark-else-len-eq1.new.self.olds c.pop.new.self.items ≡ closed c.args.self.now.blocks
blocks_are c =
    let f = c.self.inside in
    let rest = c.pop.new.self.items in
    let h = moment_popped f.writes f.undo.olds f.actions.actions f.moments.items rest _ c.in-Some.closed c.self.invariant c.pop.ensures.items c.in-Some.is in
    ap (λ (u : Undo). frames_of c.forget_mark.new.self u.olds rest) c.forget_mark-else-len-eq1.ensures.log
    ∙ (frames_closed f.writes c.forget_mark.new.self f.undo.olds f.actions.actions f.moments.items rest c.in-Some.closed h c.forget_mark.ensures.marks
    ∙ ap (λ (v : Nest). closed v.blocks) c.self.view_is)

-- the block that closes is not the outermost one
not_alone : (c : goal.After-forget_mark-else-len-eq1) → 0 < length c.pop.new.self.items
not_alone c =
    let f = c.self.inside in
    let h = moment_popped f.writes f.undo.olds f.actions.actions f.moments.items c.pop.new.self.items _ c.in-Some.closed c.self.invariant c.pop.ensures.items c.in-Some.is in
    omega (arith, h.count, c.len.ensures, c.if-len-eq1.false)

pub invariant_of-self-else-len-eq1 : goal.invariant_of-self-else-len-eq1
invariant_of-self-else-len-eq1 c =
    let f = c.self.inside in
    let rest = c.pop.new.self.items in
    let h = moment_popped f.writes f.undo.olds f.actions.actions f.moments.items rest _ c.in-Some.closed c.self.invariant c.pop.ensures.items c.in-Some.is in
    let inner = ap (λ (w : Written). w.inner) c.forget_mark.ensures.new in
    subst (λ (u : Undo). IsSound c.forget_mark.new.self u.olds f.actions.actions rest) (sym c.forget_mark-else-len-eq1.ensures.log)
    (IsSound-closed f.writes c.forget_mark.new.self f.undo.olds f.actions.actions f.moments.items rest c.in-Some.closed h inner (not_alone c))

pub returns-in-Some-clause-blocks : goal.returns-in-Some-clause-blocks
returns-in-Some-clause-blocks c = blocks_are c

-- the block around it was open too
two_open : (c : goal.After-forget_mark-else-len-eq1) → 1 < length c.args.self.now.blocks
two_open c =
    let f = c.self.inside in
    let h = moment_popped f.writes f.undo.olds f.actions.actions f.moments.items c.pop.new.self.items _ c.in-Some.closed c.self.invariant c.pop.ensures.items c.in-Some.is in
    let blocks = ap (λ (v : Nest). length v.blocks) c.self.view_is in
    omega (arith, h.count, not_alone c, blocks, length-frames_of f.writes f.undo.olds f.moments.items)

pub returns-in-Some-clause-outermost : goal.returns-in-Some-clause-outermost
returns-in-Some-clause-outermost c e = absurd (omega (arith, e, two_open c))

pub returns-in-Some-clause-actions : goal.returns-in-Some-clause-actions
returns-in-Some-clause-actions c =
    let here = ap (λ (v : Nest). v.actions) c.self.view_is in
    here ∙ sym (actions_inner c.args.self.now.blocks c.args.self.now.actions (two_open c))

pub returns-in-Some-clause-handed : goal.returns-in-Some-clause-handed
returns-in-Some-clause-handed c h arena = ap (λ (bs : List Frame). kept_of arena (log_of bs)) (blocks_are c) ∙ kept_of-closed arena c.args.self.now.blocks h
