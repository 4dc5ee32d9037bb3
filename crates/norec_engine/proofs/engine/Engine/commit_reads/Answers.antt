use Rattle.std.proofs.Common.{◌/◌, false, refl}
use Rattle.norec_engine.proofs.Common.{Answers, CommitCall as Commit, Committed, End, ReadOnly}
use Rattle.norec_engine.{proofs.IdleEngines.idle_at, proofs.EitherTurns.called_in, proofs.EitherTurns.revocable_call}
use Rattle.norec_engine.proofs.engine.Engine.commit_reads.Goals as goal

pub returns-clause-called : goal.returns-clause-called
returns-clause-called c =
    let s = c.self.inside in
    let left = c.commit_reads.new.state in
    let turns = revocable_call s.irrevocable s.state Commit false (End ReadOnly) left c.if-self.false c.commit_reads.ensures.turns in
    called_in s.state s.pending s.irrevocable c.args.self.now c.self.view_is (End ReadOnly) left (Answers (Committed (left.snapshot / 2) false)) left s.pending s.irrevocable
    (record { state = refl; pending = idle_at s.irrevocable s.state s.pending c.args.self.now c.self.view_is c.self.invariant c.requires.idle; mode = c.if-self.false; next = refl })
    c.self.invariant c.requires.idle Commit false turns
