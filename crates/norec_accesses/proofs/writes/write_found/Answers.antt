use Rattle.std.proofs.Common.{arith}
use Rattle.norec_accesses.proofs.WriteReplies.{put_turns}
use Rattle.norec_accesses.proofs.writes.write_found.Goals as goal

pub returns-clause-written : goal.returns-clause-written
returns-clause-written c done =
    rw c.start_call.ensures (put_turns c.args.state.now c.args.hint c.args.at c.args.value.now c.put_found.new.frames c.size.result _ c.requires.sound c.requires.served
    c.size.ensures.value (omega (arith, c.size.ensures.most)) c.deref.ensures.0 c.put_found.ensures.bytes (c.put_found.ensures.rows c.if-not-put_found.false) c.put_found.ensures.kept)
