use Rattle.std.proofs.Common.{refl, sym, ap, ◌∙◌, Some}
use Rattle.norec_irrevocable.proofs.Common.{Abort}
use Rattle.norec_irrevocable.{proofs.Replies.KeptStates.abort_refused, proofs.Replies.Refusals.refused_turn}
use Rattle.norec_irrevocable.proofs.blocks.abort.Goals as goal

pub returns : goal.returns
returns c =
    let s = c.args.state.now in
    rw c.start_call.ensures (refused_turn s (Abort c.args.outer) c.abort_refusal-why.result c.requires.held (λ m mem. abort_refused s.frames.blocks s.arena s.frames.actions m s.frames.depth c.args.outer c.requires.held.is_open ∙ ap Some (sym c.abort_refusal-why.ensures)) refl refl)
