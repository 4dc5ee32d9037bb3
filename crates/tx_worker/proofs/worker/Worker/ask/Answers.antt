use Rattle.std.proofs.Common.{◌≡◌, ℕ, Bool, true, false, refl, sym, subst, ◌∙◌}
use Rattle.itm_types.specs.declared.call.{Call.Call, Call.TheVariants.Begin, Props.Props}
use Rattle.call_rules.specs.CallResults.{Returns}
use Rattle.tx_runs.specs.Currents.{Current, Begins, is_begun}
use Rattle.worker_rules.{specs.Worker.Worker, specs.Workers.again_for, proofs.Laws.Rooms.not_told}
use Rattle.tx_worker.proofs.worker.Worker.ask.Goals as goal
use Rattle.tx_worker.proofs.worker.Worker.ask.Goals.{then-is_begun+in_default, else-is_begun}

-- the begin that is in progress is told whether an earlier try of its block got past it
told_again : (x : Current) (again : Bool) (props : Props) (room : ℕ) → is_begun x ≡ true → again_for x again (Begin props room) ≡ again
told_again (Begins o) again props room begun = refl
told_again x again props room begun = absurd (cc)

-- where none is in progress, no call is told anything
none_begun : (x : Current) (again : Bool) (call : Call) → is_begun x ≡ false → again_for x again call ≡ false
none_begun (Begins o) again call none = absurd (cc)
none_begun x again call none = refl

pub returns-in-Begin-clause-served : goal.returns-in-Begin-clause-served
returns-in-Begin-clause-served g c =
    let w = c.self.inside in
    let told = told_again w.run.current w.run.again c.in-Begin.props c.in-Begin.room (sym c.is_begun.ensures ∙ c.if-is_begun.true) in
    subst (λ (w : Worker g.row.P.Denot). Returns (λ a. a) c.args.words.now w.thread c.args.call.now (again_for w.run.current w.run.again c.args.call.now) c.begin.result c.begin.new.self) c.self.view_is
    (subst (λ (call : Call). Returns (λ a. a) c.args.words.now w.thread call (again_for w.run.current w.run.again call) c.begin.result c.begin.new.self) (sym c.in-Begin.is)
    (subst (λ (b : Bool). Returns (λ a. a) c.args.words.now w.thread (Begin c.in-Begin.props c.in-Begin.room) b c.begin.result c.begin.new.self) (sym told) c.begin.ensures))

pub returns-clause-served : goal.returns-clause-served
returns-clause-served g c =
    let w = c.self.inside in
    let not_again : again_for w.run.current w.run.again c.args.call.now ≡ false = elim c.if-is_begun.branch [
      | then-is_begun+in_default x ↦ not_told w.run.current w.run.again c.args.call.now x.in_default.not-Begin
      | else-is_begun x ↦ none_begun w.run.current w.run.again c.args.call.now (sym c.is_begun.ensures ∙ x.if-is_begun.false)
    ] in
    subst (λ (w : Worker g.row.P.Denot). Returns (λ a. a) c.args.words.now w.thread c.args.call.now (again_for w.run.current w.run.again c.args.call.now) c.call.result c.call.new.self) c.self.view_is
    (subst (λ (b : Bool). Returns (λ a. a) c.args.words.now w.thread c.args.call.now b c.call.result c.call.new.self) (sym not_again) c.call.ensures)
