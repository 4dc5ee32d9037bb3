use Rattle.std.proofs.Common.{Bool, sym, subst}
use Rattle.itmsteps.proofs.Common.{Done}
use Rattle.itmsteps.proofs.command.show_text.Goals as goal

pub returns-then-choice : goal.returns-then-choice
returns-then-choice g c =
    let done = c.draw_text.ensures in
    let W = g.W.Write.contents in
    let E = g.E.Write.contents in (
      done.0,
      done.1,
      subst (λ (history : Bool). Done history c.args.choice done.0 c.draw_text.result (W c.args.writer.now) (W c.draw_text.new.writer) (E c.args.errors.now) (E c.draw_text.new.errors)) (sym c.if-choice.true) done.2,
    )

pub returns : goal.returns
returns g c =
    let done = c.steps.ensures in
    let W = g.W.Write.contents in
    let E = g.E.Write.contents in (
      done.0,
      done.1,
      subst (λ (history : Bool). Done history c.args.choice done.0 c.steps.result (W c.args.writer.now) (W c.steps.new.writer) (E c.args.errors.now) (E c.steps.new.errors)) (sym c.if-choice.false) done.2,
    )
