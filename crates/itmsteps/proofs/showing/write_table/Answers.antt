use Rattle.itmsteps.proofs.Common.{ScheduleFirst, ScheduleRows, table_text, thread_rules}
use Rattle.itmsteps.proofs.Tables.{shows_as}
use Rattle.itmsteps.proofs.showing.write_table.Goals as goal

pub returns-clause-shows : goal.returns-clause-shows
returns-clause-shows g c =
    shows_as (ScheduleRows thread_rules c.args.items.now) (ScheduleFirst thread_rules c.args.items.now) (table_text c.args.view.now) c.args.world.now c.put_table.new.world _ _ c.put_table.result c.map_err.result
    c.map_err.ensures.variant c.put_table.ensures
