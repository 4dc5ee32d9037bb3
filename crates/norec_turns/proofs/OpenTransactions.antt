-- A transaction that stays open is sound with other blocks, rows and actions.
use Rattle.std.proofs.Common.{◌≡◌, ℕ, ◌<◌, ◌≤◌, true, List, length, sym, subst, ◌∙◌}
use Rattle.norec_turns.proofs.Common.{AllWritesWithin, AreBegun, AreFrames, AreRows, Data, Idle, IsSound, Nest, in_block, is_inside}
use Rattle.std.specs.Global.{Vec}

pub kept_sound : (d : Data) (frames : Nest) (arena : List ℕ) (buffer : Vec ℕ) (tries : ℕ) → IsSound d Idle → in_block d ≡ true → is_inside frames.blocks ≡ true
    → frames.size ≡ d.frames.size → frames.depth ≡ d.frames.depth → length arena ≡ length d.arena
    → AllWritesWithin d.words frames.writes.rows → AreRows frames.writes.rows → AreFrames d.words frames.blocks
    → AreBegun (length d.log.rows) (length frames.actions.commits) (length frames.actions.undos) frames.blocks → tries ≤ d.limits.patience
    → IsSound (record d { frames = frames; arena = arena; buffer = buffer; tries = tries; spent = 0; entry = length d.log.rows }) Idle
kept_sound d frames arena buffer tries s was now size depth same writes rows blocks begun few =
    let idle = s.in_phase.0 was in
    record {
      bounds = record { patient = s.bounds.patient; commits = s.bounds.commits; few = s.bounds.few; small = s.bounds.small; sized = size ∙ (s.bounds.sized ∙ sym same); deep = subst (λ (n : ℕ). 0 < n) (sym depth) s.bounds.deep; even = s.bounds.even };
      reached = s.reached;
      in_phase = (λ o. (record { is_open = o; log = idle.0.log; writes = writes; rows = rows; frames = blocks; begun = begun; tries = few }, idle.1), λ shut. absurd (cc));
    }
