use Rattle.step_table.proofs.Common.{flat_map, put_as, spelled}
use Rattle.step_table.proofs.Texts.{came_parts}
use Rattle.step_table.proofs.lines.put_came.Goals as goal

pub returns : goal.returns
returns g c =
    let came = c.args.came.now in
    put_as _ _ _ _ _ c.put_three.ensures (came_parts (spelled came.bar) (flat_map spelled came.words) (spelled came.ending))
