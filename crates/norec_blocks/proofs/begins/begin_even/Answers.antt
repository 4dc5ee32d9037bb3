use Rattle.std.proofs.Common.{Bool, ap, if◌then◌else◌, subst, sym, ◌∙◌}
use Rattle.norec_blocks.proofs.Common.{Code, Data, End, Props, Reply, StepTurns}
use Rattle.norec_core.specs.Phases.{Begin}
use Rattle.norec_blocks.proofs.Blocks.OuterBegins.{Opened, opens_even}
use Rattle.norec_blocks.proofs.begins.begin_even.Goals as goal

pub returns-clause-turns : goal.returns-clause-turns
returns-clause-turns c =
    let s = c.args.state.now in
    let o = c.open.ensures in
    let same = c.requires.props in
    let opens : Opened c.args.props s.frames c.open.new.state.frames = record { blocks = o.blocks; actions = o.actions; rows = o.rows; size = o.frames.0; room = o.frames.1; depth = o.depth } in
    subst (λ (d : Data). StepTurns s (Begin s.opening) c.args.seen (End c.open.result) d) (sym o.others)
    (opens_even s c.open.new.state.frames c.args.seen c.open.result c.requires.sound (ap (λ (p : Props). p.goes_irrevocable) (sym same) ∙ c.requires.stays) c.requires.fits c.requires.even
    (subst (λ (p : Props). Opened p s.frames c.open.new.state.frames) same opens)
    (λ d. o.reply d ∙ ap (λ (again : Bool). Reply (Code (if again then 9 else 5))) c.requires.again))
