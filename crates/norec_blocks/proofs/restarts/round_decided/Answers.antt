use Rattle.std.proofs.Common.{◌+◌, length, arith}
use Rattle.norec_blocks.proofs.Common.{InRound, aim_of, aims_later}
use Rattle.norec_blocks.{proofs.Blocks.Restarts.may_renew, proofs.Blocks.Restarts.round_renewed, proofs.Counts.round_over}
use Rattle.norec_blocks.proofs.restarts.round_decided.Goals as goal

pub restart-requires : goal.restart-requires
restart-requires c = record { may = may_renew c.args.state.now (aim_of c.args.state.now) c.args.row c.args.seen c.requires.sound }

pub try_round-requires : goal.try_round-requires
try_round-requires c =
    let s = c.args.state.now in
    let phase = c.requires.sound.in_phase in
    let o = phase.0.is_open in
    let round : InRound s (aim_of s) (length s.log.rows + 2) = record { is_open = o; may = phase.0.may; tried = phase.0.tried; later = phase.0.later; spent = omega (arith, phase.0.spent, phase.2) } in
    record {
      may = record {
        bounds = c.requires.sound.bounds;
        is_open = record { is_open = o.is_open; log = o.log; writes = o.writes; rows = o.rows; frames = o.frames; begun = o.begun; tries = o.tries };
        may = aims_later s (aim_of s) s.got c.args.seen s.snapshot s.spent phase.0.may;
        later = omega (arith, phase.0.later, c.requires.fits);
        spent = round_over s (aim_of s) c.args.seen round;
      };
    }

pub returns-then-is_steady : goal.returns-then-is_steady
returns-then-is_steady c = round_renewed c.args.state.now c.restart.new.state (aim_of c.args.state.now) c.args.row c.args.seen c.requires.sound (omega (arith, c.if-is_steady.true)) c.restart.result c.restart.ensures
