use Rattle.std.proofs.Common.{sym}
use Rattle.script_asm.proofs.Common.{leb-false}
use Rattle.script_asm.proofs.KeptLines.{begin_kept}
use Rattle.script_asm.proofs.blocks.begin.Goals as goal

pub returns-in-Err : goal.returns-in-Err
returns-in-Err c =
    begin_kept c.args.state.now c.push_code.new.state c.args.line c.args.instruction.now c.args.group (c.in_ok-push_code.ensures {u = tt}) (leb-false _ _ (sym c.if-is_full.ensures))
