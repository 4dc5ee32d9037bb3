use Rattle.std.proofs.Common.{arith, rules}
use Rattle.norec_engine.proofs.Common.{counted, fits, phase_of}
use Rattle.norec_data.proofs.CallsInProgress.{is_on}
use Rattle.norec_engine.proofs.HeldCounts.{held_fits}
use Rattle.norec_engine.proofs.turns.next_step.Goals as goal

pub returns-then-irrevocable-clause-few : goal.returns-then-irrevocable-clause-few
returns-then-irrevocable-clause-few c =
    let sound = rw c.if-irrevocable.true at c.requires.sound in
    omega (arith, held_fits (counted c.args.state.now) (phase_of c.args.state.now c.args.pending) sound (is_on c.args.state.now c.args.pending c.requires.waits))

pub returns-else-irrevocable-clause-few : goal.returns-else-irrevocable-clause-few
returns-else-irrevocable-clause-few c =
    let sound = rw c.if-irrevocable.false at c.requires.sound in
    omega (arith, fits (counted c.args.state.now) (phase_of c.args.state.now c.args.pending) sound (is_on c.args.state.now c.args.pending c.requires.waits) (omega arith) (search rules))
