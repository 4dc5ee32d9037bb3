use Rattle.std.proofs.Common.{sym, ◌∙◌}
use Rattle.write_set.proofs.Overlays.{lookup-take, put_new}
use Rattle.write_set.proofs.found.write_found.Goals as goal

pub returns-in-None-clause-rows : goal.returns-in-None-clause-rows
returns-in-None-clause-rows c done =
    c.add_at.ensures.added done ∙ sym (put_new c.args.rows.now.rows c.args.word c.args.mask c.args.value c.in-None.ensures)

pub returns-in-None-clause-first : goal.returns-in-None-clause-first
returns-in-None-clause-first c done = lookup-take c.args.first c.args.rows.now.rows c.args.word c.in-None.ensures
