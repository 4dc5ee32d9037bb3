use Rattle.std.proofs.Common.{sym, ◌∙◌}
use Rattle.norec_irrevocable.proofs.Common.{Mode}
use Rattle.norec_irrevocable.proofs.Replies.KeptStates.{mode_kept}
use Rattle.norec_irrevocable.proofs.Replies.HeldBlocks.{mode_turn}
use Rattle.norec_irrevocable.proofs.Replies.Refusals.{mode_ending, mode_stage, refused_turn}
use Rattle.norec_irrevocable.proofs.blocks.mode.Goals as goal

pub returns-in-Some : goal.returns-in-Some
returns-in-Some c = (let s = c.args.state.now in
    rw c.start_call.ensures (refused_turn s (Mode c.args.room) c.in-Some.why c.requires.held (λ m mem. mode_kept s.frames.blocks s.arena s.frames.actions m s.frames.depth c.args.room ∙ (sym c.mode_refusal-refused.ensures ∙ c.in-Some.is)) (mode_stage s c.args.room) (mode_ending s c.args.room)))

pub returns-in-None : goal.returns-in-None
returns-in-None c = rw c.start_call.ensures (mode_turn c.args.state.now c.args.room c.requires.held (sym c.mode_refusal-refused.ensures ∙ c.in-None.is))
