use Rattle.std.proofs.Common.{◌≡◌, ◌<◌, ◌≤◌, List, length, refl, ap, ◌∙◌, arith, length-append}
use Rattle.nest_frames.proofs.Common.{Frame, Nest, Old, found, frames_of, kept_of, log_of, logged}
use Rattle.nest_frames.proofs.OpenBlocks.{frames_logged, length-frames_of, IsSound-kept, kept_of-logged}
use Rattle.nest_frames.proofs.frames.Frames.log.Goals as goal

pub invariant_of-self-2 : goal.invariant_of-self-2
invariant_of-self-2 c =
    let f = c.self.inside in
    let new = found c.args.arena.now c.args.place c.args.size in
    let blocks = ap (λ (v : Nest). length v.blocks) c.self.view_is in
    let some : 0 < length f.moments.items = omega (arith, c.requires.open, blocks, length-frames_of f.writes f.undo.olds f.moments.items) in
    let longer : length f.undo.olds ≤ length c.log.new.self.olds = omega (arith, ap (length {A = Old}) c.in_ok-log.ensures.ok, length-append f.undo.olds new) in
    IsSound-kept f.writes f.writes f.undo.olds c.log.new.self.olds f.actions.actions f.moments.items c.self.invariant refl longer some

-- the blocks as the call leaves them
blocks_are : (c : goal.In_ok-log)
    → frames_of c.self.inside.writes c.log.new.self.olds c.self.inside.moments.items ≡ logged c.args.self.now.blocks (found c.args.arena.now c.args.place c.args.size)
blocks_are c =
    let f = c.self.inside in
    let new = found c.args.arena.now c.args.place c.args.size in
    ap (λ (os : List Old). frames_of f.writes os f.moments.items) c.in_ok-log.ensures.ok
    ∙ (frames_logged f.writes f.undo.olds new f.actions.actions f.moments.items c.self.invariant ∙ ap (λ (v : Nest). logged v.blocks new) c.self.view_is)

pub returns-clause-ok : goal.returns-clause-ok
returns-clause-ok c = (λ i. record {
  writes = (c.self.view_is i).writes;
  size = (c.in_ok-log.ensures.size ∙ ap (λ (v : Nest). v.size) c.self.view_is) i;
  depth = (c.self.view_is i).depth;
  blocks = blocks_are c i;
  actions = (c.self.view_is i).actions;
  room = (c.self.view_is i).room;
})

pub returns-clause-kept : goal.returns-clause-kept
returns-clause-kept c =
    let arena = c.args.arena.now in
    ap (λ (bs : List Frame). kept_of arena (log_of bs)) (blocks_are c)
    ∙ kept_of-logged arena c.args.self.now.blocks c.args.place c.args.size c.requires.open c.requires.range
