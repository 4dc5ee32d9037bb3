use Rattle.std.proofs.Common.{rules, ap, refl}
use Rattle.norec_core.specs.Phases as phases
use Rattle.norec_core.specs.declared.answer.Next.TheVariants.{Step}
use Rattle.norec_data.specs.View.{phase_of}
use Rattle.norec_data.specs.declared.turn.Turn.TheVariants.{Wait}
use Rattle.norec_engine.specs.Modes.{IsTaken, StepTurnsIn}
use Rattle.norec_turns.specs.Moves.{StepTurns}
use Rattle.norec_engine.proofs.turns.hand_in.Goals as goal
use Rattle.norec_engine.proofs.turns.hand_in.Goals.{in-Begin, in-Confirm, in-Exchange, in-Store, in-Free}

pub returns-in-Load : goal.returns-in-Load
returns-in-Load c =
    let turns : StepTurns c.args.state.now (phases.Load c.args.state.now.reading) c.args.seen c.loaded.result c.loaded.new.state = search rules in
    let taken : IsTaken c.args.irrevocable.now (Wait c.in-Wait.next) c.loaded.new.state (Step c.wait.result) c.wait.new.state c.wait.new.pending c.args.irrevocable.now =
    record { state = c.wait.ensures.state; pending = c.wait.ensures.pending; mode = refl; next = ap Step c.wait.ensures.step } in
    record { turn = c.loaded.result; left = c.loaded.new.state; turns = rw (c.if-irrevocable.false, c.in-Load.is) turns; taken = rw (c.in-Wait.is) taken }

pub returns : goal.returns
returns c =
    let turns : StepTurnsIn c.args.irrevocable.now c.args.state.now (phase_of c.args.state.now c.args.pending.now) c.args.seen c.match-pending.turn c.match-pending.state =
    elim c.match-pending.branch [
      | in-Begin w ↦ rw (c.if-irrevocable.false, w.in-Begin.is, w.turn-is, w.state-is) w.begin_seen-turn.ensures
      | in-Confirm w ↦ rw (c.if-irrevocable.false, w.in-Confirm.is, w.turn-is, w.state-is) w.confirmed-turn.ensures
      | in-Exchange w ↦ rw (c.if-irrevocable.false, w.in-Exchange.is, w.turn-is, w.state-is) w.exchanged-turn.ensures
      | in-Store w ↦
          let stored : StepTurns c.args.state.now (phases.Store c.args.state.now.taking w.in-Store.row c.args.state.now.got) c.args.seen w.stored-turn.result w.stored-turn.new.state = search rules in
          rw (c.if-irrevocable.false, w.in-Store.is, w.turn-is, w.state-is) stored
      | in-Free w ↦
          let freed : StepTurns c.args.state.now phases.Free c.args.seen w.freed-turn.result w.freed-turn.new.state = search rules in
          rw (c.if-irrevocable.false, w.in-Free.is, w.turn-is, w.state-is) freed
    ] in
    record { turn = _; left = _; turns = turns; taken = c.take.ensures }
