use Rattle.std.proofs.Common.{arith}
use Rattle.norec_accesses.proofs.WriteReplies.{put_turns}
use Rattle.norec_accesses.proofs.writes.write_next.Goals as goal

pub returns-clause-written : goal.returns-clause-written
returns-clause-written c done =
    rw c.start_call.ensures (put_turns c.args.state.now c.args.hint c.args.at c.args.value.now c.put_next.new.frames c.size.result _ c.requires.sound c.requires.served
    c.size.ensures.value (omega (arith, c.size.ensures.most)) c.deref.ensures.0 c.put_next.ensures.bytes (c.put_next.ensures.rows c.if-not-put_next.false) c.put_next.ensures.kept)
