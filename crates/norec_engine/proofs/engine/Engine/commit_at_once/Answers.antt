use Rattle.std.proofs.Common.{◌≤◌, length, refl, subst, sym, true}
use Rattle.norec_engine.proofs.Common.{Answers, Committed, Core, IsResumed, WaitsForClock, storing}
use Rattle.norec_engine.proofs.engine.Engine.commit_at_once.Goals as goal

pub rows_stored-requires : goal.rows_stored-requires
rows_stored-requires c = record {
  takes = subst WaitsForClock (sym c.commit_writes-step.ensures.state) (record { revocable = c.requires.takes.revocable; stage = refl; some = c.requires.takes.some; asked = refl });
  few = subst (λ (e : Core). c.args.loads ≤ length e.writes) (sym c.commit_writes-step.ensures.state) c.requires.few;
}

pub returns : goal.returns
returns c seen =
    subst (λ (e : Core). IsResumed (storing e (length e.writes) c.args.loads) seen (Answers (Committed c.rows_stored.result true)) c.rows_stored.new.self) c.commit_writes-step.ensures.state (c.rows_stored.ensures seen)
