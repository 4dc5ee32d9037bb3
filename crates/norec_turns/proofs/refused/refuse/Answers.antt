use Rattle.norec_turns.proofs.ImmediateReplies.{refused_turn}
use Rattle.norec_turns.proofs.refused.refuse.Goals as goal

pub returns : goal.returns
returns c call at size is e = rw c.start_call.ensures (refused_turn c.args.state.now call at size c.args.why c.requires.sound is e)
