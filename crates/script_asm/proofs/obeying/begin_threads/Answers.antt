use Rattle.std.proofs.Common.{◌≤◌, ◌+◌, ◌∙◌, sym, arith}
use Rattle.script_asm.proofs.Common.{MAX_ACTORS, innermost_line, thread_total}
use Rattle.script_asm.proofs.KeptLines.{section_kept}
use Rattle.script_asm.proofs.obeying.begin_threads.Goals as goal

pub returns-in-Err : goal.returns-in-Err
returns-in-Err c =
    let fits : thread_total c.args.state.now.threads + c.args.count ≤ MAX_ACTORS = omega (arith, c.count.ensures.value, c.count.ensures.few, c.if-count.false) in
    section_kept c.args.state.now c.args.line c.args.count (innermost_line c.args.state.now.levels) (sym c.innermost_line.ensures ∙ c.in_default.is) fits c.in-Err.ensures.refused.0
