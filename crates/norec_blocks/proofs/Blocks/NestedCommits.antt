-- Commits of blocks within others.
use Rattle.std.proofs.Common.{◌≡◌, ℕ, ◌<◌, true, false, List, [], ◌∷◌, length, refl, sym, ap, subst, ◌∙◌, arith}
use Rattle.norec_blocks.proofs.Common.{Actions, AllWritesWithin, AreFrames, AreRows, Data, Frame, Idle, IsSound, Nest, actions_closed, begun_closed, begun_same, closed, come, in_block, is_inside, is_outermost}
use Rattle.norec_turns.proofs.OpenTransactions.{kept_sound}

-- what the blocks around it are, and that no action runs
closed_frames : (words : ℕ) (blocks : List Frame) (a : Actions) → is_inside blocks ≡ true → is_outermost blocks ≡ false → AreFrames words blocks
    → AreFrames words (closed blocks) × (is_inside (closed blocks) ≡ true) × (actions_closed blocks a ≡ a) × (1 < length blocks)
closed_frames words [] a o inner f = absurd (cc)
closed_frames words (b ∷ []) a o inner f = absurd (cc)
closed_frames words (b ∷ p ∷ []) a o inner f = (f.2, refl, refl, omega arith)
closed_frames words (b ∷ p ∷ q ∷ bs) a o inner f = (f.2, refl, refl, omega arith)

close_sound : (d : Data) (frames : Nest) → IsSound d Idle → in_block d ≡ true → is_outermost d.frames.blocks ≡ false
    → frames.blocks ≡ closed d.frames.blocks → (1 < length d.frames.blocks → frames.writes.rows ≡ d.frames.writes.rows) → frames.actions ≡ actions_closed d.frames.blocks d.frames.actions
    → frames.size ≡ d.frames.size → frames.depth ≡ d.frames.depth → IsSound (record (come d) { tries = 0; frames = frames }) Idle
close_sound d frames s is_open inner blocks same actions size depth =
    let idle = s.in_phase.0 is_open in
    let left = closed_frames d.words d.frames.blocks d.frames.actions is_open inner idle.0.frames in
    let rows = same left.3 in
    kept_sound d frames d.arena d.buffer 0 s is_open (ap is_inside blocks ∙ left.1) size depth refl
    (subst (AllWritesWithin d.words) (sym rows) idle.0.writes) (subst AreRows (sym rows) idle.0.rows) (subst (AreFrames d.words) (sym blocks) left.0)
    (begun_same d.log.rows d.log.rows d.frames.actions frames.actions (closed d.frames.blocks) frames.blocks refl (actions ∙ left.2) blocks
    (begun_closed (length d.log.rows) (length d.frames.actions.commits) (length d.frames.actions.undos) d.frames.blocks idle.0.begun)) (omega arith)

pub closed_sound : (d new : Data) (frames : Nest) → new ≡ come d → IsSound d Idle → in_block new ≡ true → is_outermost new.frames.blocks ≡ false
    → frames.blocks ≡ closed new.frames.blocks → (1 < length new.frames.blocks → frames.writes.rows ≡ new.frames.writes.rows) → frames.actions ≡ actions_closed new.frames.blocks new.frames.actions
    → frames.size ≡ new.frames.size → frames.depth ≡ new.frames.depth → IsSound (record new { tries = 0; frames = frames }) Idle
closed_sound d new frames is s =
    subst (λ (x : Data). in_block x ≡ true → is_outermost x.frames.blocks ≡ false
    → frames.blocks ≡ closed x.frames.blocks → (1 < length x.frames.blocks → frames.writes.rows ≡ x.frames.writes.rows) → frames.actions ≡ actions_closed x.frames.blocks x.frames.actions
    → frames.size ≡ x.frames.size → frames.depth ≡ x.frames.depth → IsSound (record x { tries = 0; frames = frames }) Idle) (sym is) (close_sound d frames s)
