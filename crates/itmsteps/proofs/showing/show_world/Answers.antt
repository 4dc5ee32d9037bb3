use Rattle.std.proofs.Common.{Bool, sym, subst}
use Rattle.itmsteps.proofs.Common.{Tells}
use Rattle.itmsteps.proofs.Tables.{tabled}
use Rattle.itmsteps.proofs.showing.show_world.Goals as goal

pub returns-then-svg : goal.returns-then-svg
returns-then-svg g c =
    subst (λ (svg : Bool). Tells svg c.args.view.now c.args.items.now c.args.world.now c.draw.new.world (g.W.Write.contents c.args.writer.now) (g.W.Write.contents c.draw.new.writer) c.draw.result) (sym c.if-svg.true) c.draw.ensures

pub returns : goal.returns
returns g c =
    subst (λ (svg : Bool). Tells svg c.args.view.now c.args.items.now c.args.world.now c.write_table.new.world (g.W.Write.contents c.args.writer.now) (g.W.Write.contents c.write_table.new.writer) c.write_table.result) (sym c.if-svg.false)
    (tabled c.args.view.now c.args.items.now c.args.world.now c.write_table.new.world _ _ c.write_table.result c.write_table.ensures.shows c.write_table.ensures.failure)
