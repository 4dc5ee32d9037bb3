use Rattle.history_checker.proofs.Steps.Faults.{told_is}
use Rattle.history_checker.proofs.replays.replay_other.Goals as goal

pub returns-clause-told : goal.returns-clause-told
returns-clause-told c =
    told_is c.args.plain.now.deepest c.args.plain.now.state.memory c.args.attempt.now c.in_ok-fault.fault c.replay.new.plain.state c.is_holding-holds.result
    c.in_ok-fault.ensures.fault c.in_ok-fault.ensures.state c.is_holding-holds.ensures
