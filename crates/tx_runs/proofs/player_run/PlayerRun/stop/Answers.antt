use Rattle.std.proofs.Common.{◌≡◌, [], refl}
use Rattle.std.proofs.lemmas.List.{append-nil}
use Rattle.tx_attempts.specs.declared.attempt.Outcome.{Outcome}
use Rattle.tx_runs.specs.Currents.{Begins, IsNotWithin}
use Rattle.tx_runs.proofs.Common.{Current, Outside, Stand, Within, over_as, stage_of}
use Rattle.tx_runs.proofs.player_run.PlayerRun.stop.Goals as goal
use Rattle.tx_runs.proofs.player_run.PlayerRun.stop.Goals.{in-Some, in_default}

-- where none is open, none is over
none_over : (outcome : Outcome) (s : Stand) (c : Current) → IsNotWithin c → over_as outcome s (stage_of c) ≡ []
none_over outcome s Outside none = refl
none_over outcome s (Begins o) none = refl
none_over outcome s (Within o) none = absurd (none o refl)

pub returns-clause-over : goal.returns-clause-over
returns-clause-over g c is_open arena =
    elim c.match-within_mut.branch [
      | in-Some w ↦ rw (w.ended-is, w.push_reserved.ensures.items, w.end.ensures.ended is_open arena, w.in-Some.ensures.value)
      | in_default w ↦ rw (w.ended-is, none_over c.args.outcome _ c.args.self.now.current w.in_default.ensures.value, append-nil c.args.ended.now.items)
    ]
