use Rattle.norec_engine.proofs.turns.hand_in_any.Goals as goal

pub returns : goal.returns
returns c = record { turn = _; left = _; turns = c.resume-turn.ensures; taken = c.take.ensures }
