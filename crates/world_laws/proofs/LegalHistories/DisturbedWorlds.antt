-- In a world whose attempts are opaque, each reads as many commits past its begin as it tells of blocks that ran again.
use Rattle.std.proofs.Common.{◌/◌, length, Some}
use Rattle.world_laws.proofs.Common.{AreOpaque, Rules, World, attempts_of, bytes_at, first_of, observed, of_thread, there_is}
use Rattle.tx_attempts.{specs.Outrun.AreDisturbed, specs.Outrun.IsDisturbed, proofs.DisturbedRuns.disturbed_run}
use Rattle.world_laws.proofs.LegalHistories.EachThread.{of_threads}

pub disturbed_world : {P : Type 0} (rules : Rules P) (w : World P) → AreOpaque rules (observed w) → AreDisturbed (attempts_of w)
disturbed_world rules w opaque = of_threads IsDisturbed (length w.opening) (attempts_of w) opaque.threads (λ thread l.
    (let p = there_is w.opening thread l in
    disturbed_run rules w.limits.depth (w.cells.clock / 2) (bytes_at w.limits.depth w.base (attempts_of w)) (Some (first_of p.0 w.arena)) (of_thread thread (attempts_of w)) (opaque.runs thread p.0 p.1)))
