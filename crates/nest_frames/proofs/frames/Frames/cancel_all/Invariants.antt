use Rattle.std.proofs.Common.{◌≡◌, length}
use Rattle.nest_frames.proofs.Common.{actions_back, arena_back, arena_restored}
use Rattle.nest_frames.proofs.frames.Frames.cancel_all.Given as goal

abbrev pub invariant-loop-self : goal.invariant-loop-self
invariant-loop-self l = record {
  size : l.self.size ≡ l.fn.self.size;
  depth : l.self.depth ≡ l.fn.self.depth;
  actions : actions_back l.self.blocks l.self.actions ≡ actions_back l.fn.self.blocks l.fn.self.actions;
  room : l.self.room ≡ l.fn.self.room;
  arena_size : length l.arena ≡ length l.fn.arena;
  restored : arena_restored l.self.blocks l.arena ≡ arena_restored l.fn.self.blocks l.fn.arena;
  back : arena_back l.self.blocks l.arena ≡ arena_back l.fn.self.blocks l.fn.arena;
}

abbrev pub decreases-loop-self : goal.decreases-loop-self
decreases-loop-self l = length l.self.blocks
