use Rattle.std.proofs.Common.{arith}
use Rattle.script_fields.proofs.Common.{is_blank}
use Rattle.script_fields.proofs.Scans.{goes_on, here}
use Rattle.script_fields.proofs.scan.blank_at.Goals as goal

pub returns-then-found-ne0 : goal.returns-then-found-ne0
returns-then-found-ne0 c =
    here is_blank c.args.line.now c.loop-at.at 8 c.blanks-found.result c.loop-at.invariant.0 (omega arith) (omega arith) c.blanks-found.ensures (omega arith)

pub loop-at-preserved : goal.loop-at-preserved
loop-at-preserved c =
    let more = goes_on is_blank c.args.line.now c.loop-at.at 8 (omega arith) (omega (arith, c.blanks-found.ensures)) in
    (omega (arith, more, c.loop-at.invariant.0), omega arith)
