use Rattle.std.proofs.Common.{sym, ◌∙◌}
use Rattle.step_table.proofs.Common.{put_as, said}
use Rattle.step_table.proofs.Texts.{line_shown}
use Rattle.step_table.proofs.lines.put_line.Goals as goal

pub returns : goal.returns
returns g c =
    put_as _ _ _ _ _ c.put_event.ensures
    (line_shown c.args.view.now c.args.event (said c.args.came.now) c.as_slice.result.now (sym c.shows.ensures ∙ c.if-not-shows.false) c.as_slice.ensures.value)
