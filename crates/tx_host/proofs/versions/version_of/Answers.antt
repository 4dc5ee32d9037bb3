use Rattle.std.proofs.Common.{rules, ap}
use Rattle.tx_host.proofs.Common.{told_by_three}
use Rattle.tx_host.proofs.versions.version_of.Goals as goal

pub returns-else-limits-eq-USUAL_DEPTH : goal.returns-else-limits-eq-USUAL_DEPTH
returns-else-limits-eq-USUAL_DEPTH c =
    told_by_three c.args.program.now c.limits-limits.result.depth c.size-size.result c.threads-threads.result c.unwrap.result
    (ap (λ l. l.depth) c.limits-limits.ensures.value) c.size-size.ensures.value c.threads-threads.ensures.value (search rules)
    c.else-limits-eq-USUAL_DEPTH.either
