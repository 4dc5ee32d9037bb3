use Rattle.std.proofs.Common.{sym}
use Rattle.script_asm.proofs.Common.{ltb-false}
use Rattle.script_asm.proofs.KeptLines.{repeats_kept}
use Rattle.script_asm.proofs.blocks.stand_again.Goals as goal

pub returns-in-Err : goal.returns-in-Err
returns-in-Err c =
    repeats_kept c.args.state.now c.args.line c.args.start c.args.times (ltb-false _ _ (sym c.if-exceeds.ensures)) c.in-Err.ensures.refused.0
