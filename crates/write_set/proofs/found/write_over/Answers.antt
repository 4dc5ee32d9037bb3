use Rattle.std.proofs.Common.{◌∙◌}
use Rattle.write_set.{proofs.OpenMarks.none_so_far, proofs.Overlays.set_old}
use Rattle.write_set.proofs.found.write_over.Goals as goal

pub returns-clause-rows : goal.returns-clause-rows
returns-clause-rows c done word first =
    c.set.ensures
    ∙ set_old c.args.rows.now.rows c.args.place word c.args.mask c.args.value c.row-row.result c.merge.result first c.row-row.ensures c.merge.ensures.value

pub returns-clause-first : goal.returns-clause-first
returns-clause-first c done word first = none_so_far c.args.first c.args.rows.now.rows word c.args.place first c.if-place-first.false
