use Rattle.std.proofs.Common.{◌+◌, ◌-◌, ◌*◌, ◌≤◌, length, refl, subst, arith, rules}
use Rattle.norec_blocks.proofs.Common.{Aims, MayRead, aim_for, aim_of, aims_later, among, count, first_of, round_of, total, total_left}
use Rattle.norec_data.specs.declared.pending.Cause.{Cause}
use Rattle.norec_core.specs.Aims as aims
use Rattle.norec_blocks.proofs.Counts.{more, round_over}
use Rattle.norec_blocks.proofs.rounds.round_ended.Goals as goal

pub try_round-requires : goal.try_round-requires
try_round-requires c =
    let s = c.args.state.now in
    let phase = c.requires.sound.in_phase in
    let o = phase.0.is_open in
    record {
      may = record {
        bounds = c.requires.sound.bounds;
        is_open = record { is_open = o.is_open; log = o.log; writes = o.writes; rows = o.rows; frames = o.frames; begun = o.begun; tries = o.tries };
        may = aims_later s (aim_of s) s.got c.args.seen s.snapshot s.spent phase.0.may;
        later = omega (arith, phase.0.later, c.requires.fits);
        spent = round_over s (aim_of s) c.args.seen phase.0;
      };
    }

pub returns-in-Read : goal.returns-in-Read
returns-in-Read c = record {
  sound =
      (let s = c.args.state.now in
      let sound = c.requires.sound in
      let r = s.reading in
      let round = sound.in_phase.0 in
      let may : MayRead s r = subst (λ (x : Cause). Aims s (aim_for x s.reading s.taking)) c.in-Read.is round.may in
      let spent = subst (λ (x : Cause). s.spent ≤ first_of (aim_for x s.reading s.taking) + (s.tries - 1) * round_of (aim_for x s.reading s.taking) s + (length s.log.rows + 2)) c.in-Read.is round.spent in
      let o = round.is_open in
      let left = total_left r.purpose r.number (count r) (among s r.purpose r.at r.size may.reading.purpose) may.missing.some in
      record {
        asked = tt;
        sound = record {
          bounds = record { patient = sound.bounds.patient; commits = sound.bounds.commits; few = sound.bounds.few; small = sound.bounds.small; sized = sound.bounds.sized; deep = sound.bounds.deep; even = omega (arith, c.if-is_steady.true, sound.in_phase.1) };
          reached = omega arith;
          in_phase = (
            record { is_open = o.is_open; log = o.log; writes = o.writes; rows = o.rows; frames = o.frames; begun = o.begun; tries = o.tries },
            aims_later s (aims.Read r) s.got c.args.seen c.args.seen (s.spent + 1) may,
            refl,
            omega (arith, left, spent, may.logging.grown, more s.tries s.tries (s.entry + total r + 4) round.tried (omega arith)),
          );
        };
      });
  proceeds = search rules;
  joins = search rules;
  order = search rules;
  ends = search rules;
  tries = search rules;
  snapshot = search rules;
  log = search rules;
}
