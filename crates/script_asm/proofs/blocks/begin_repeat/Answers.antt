use Rattle.std.proofs.Common.{◌||◌, nat_eq, sym}
use Rattle.script_asm.proofs.Common.{leb-false, place_of, within_never}
use Rattle.script_asm.specs.declared.groups.Group.TheVariants as groups
use Rattle.script_asm.proofs.KeptLines.{level_kept}
use Rattle.script_asm.proofs.blocks.begin_repeat.Goals as goal

pub returns-in-Err : goal.returns-in-Err
returns-in-Err c =
    let start = place_of (nat_eq c.args.times 0 || within_never c.args.state.now.levels) c.args.state.now.threads in
    level_kept c.args.state.now c.args.line (groups.Repeat start c.args.times) (leb-false _ _ (sym c.if-is_full.ensures))
