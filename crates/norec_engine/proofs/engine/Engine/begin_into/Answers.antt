use Rattle.std.proofs.Common.{refl}
use Rattle.norec_engine.proofs.Common.{Begin, err_from_is_err_and}
use Rattle.norec_engine.proofs.EitherTurns.{called_in, idle_sound, left_sound, sound_call, starved_in}
use Rattle.norec_engine.proofs.engine.Engine.begin_into.Goals as goal

pub begin-requires : goal.begin-requires
begin-requires c =
    let s = c.self.inside in
    record { sound = idle_sound s.state s.pending s.irrevocable c.args.self.now c.self.view_is c.self.invariant c.requires.idle }

pub take-requires : goal.take-requires
take-requires c =
    let s = c.self.inside in
    let sound = sound_call s.irrevocable s.state (Begin c.args.props c.args.room) c.args.again _ _ c.in_ok-turn.ensures in record { mode = refl; sound = sound.0; asked = sound.1 }

pub invariant_of-self-2 : goal.invariant_of-self-2
invariant_of-self-2 c =
    let s = c.self.inside in
    left_sound s.state s.pending s.irrevocable c.args.self.now c.self.view_is _ _ _ _ _ _ c.take.ensures (sound_call s.irrevocable s.state (Begin c.args.props c.args.room) c.args.again _ _ c.in_ok-turn.ensures).0

pub returns : goal.returns
returns c =
    let s = c.self.inside in
    called_in s.state s.pending s.irrevocable c.args.self.now c.self.view_is _ _ _ _ _ _ c.take.ensures c.self.invariant c.requires.idle (Begin c.args.props c.args.room) c.args.again c.in_ok-turn.ensures

pub returns-in_err-turn : goal.returns-in_err-turn
returns-in_err-turn c =
    let s = c.self.inside in
    let r = err_from_is_err_and c.from_residual.result c.from_residual.ensures.1 in
    rw r.1 (starved_in s.state s.pending s.irrevocable c.args.self.now c.self.view_is c.requires.idle (Begin c.args.props c.args.room) _ c.in_err-turn.ensures)
