use Rattle.std.proofs.Common.{arith}
use Rattle.script_fields.proofs.Common.{is_feed}
use Rattle.script_fields.proofs.Scans.{goes_on, here}
use Rattle.script_fields.proofs.scan.feed_at.Goals as goal

pub returns-then-found-ne0 : goal.returns-then-found-ne0
returns-then-found-ne0 c =
    here is_feed c.args.text.now c.loop-at.at 16 c.feeds-found.result c.loop-at.invariant.0 (omega arith) (omega arith) c.feeds-found.ensures (omega arith)

pub loop-at-preserved : goal.loop-at-preserved
loop-at-preserved c =
    let more = goes_on is_feed c.args.text.now c.loop-at.at 16 (omega arith) (omega (arith, c.feeds-found.ensures)) in
    (omega (arith, more, c.loop-at.invariant.0), omega arith)
