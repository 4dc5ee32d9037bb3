use Rattle.std.proofs.Common.{◌≡◌, ◌∙◌, ℕ, subst, sym}
use Rattle.itm_runtime.proofs.Common.{Begin, Code, IsAnswered, Owns, Reply, Returns, Standing, answered, goes_on, left_standing, start_of, underway}
use Rattle.itm_runtime.proofs.thread.Thread.begin.Goals as goal

pub returns-in-Entered : goal.returns-in-Entered
returns-in-Entered g c =
    subst (λ (n : ℕ). IsAnswered c.args.words.now (start_of c.args.self.now (Begin c.args.props c.args.room) c.args.again) (Reply (Code n)) c.begin_block.new.pass c.begin_block.new.engine) (sym c.entered.ensures)
    (answered c.self.inside.pass c.self.invariant c.in-Entered.ensures.called c.in-Entered.ensures.finishes c.args.self.now c.self.view_is c.requires.own)

pub invariant_of-self : goal.invariant_of-self
invariant_of-self g c = left_standing c.self.inside.pass c.self.invariant c.in-Entered.ensures.called c.in-Entered.ensures.finishes c.args.self.now c.self.view_is c.requires.own

pub go_on_from-requires-clause-done : goal.go_on_from-requires-clause-done
go_on_from-requires-clause-done g c = underway c.args.words.now c.self.inside.pass c.self.inside.engine (Begin c.args.props c.args.room) c.args.again c.in-Odd.clock _ _ c.in-Odd.ensures c.self.invariant (subst (λ (t : Standing). Owns c.args.words.now t.pass) (sym c.self.view_is) c.requires.own).over

pub invariant_of-self-in-Odd : goal.invariant_of-self-in-Odd
invariant_of-self-in-Odd g c =
    let u = c.in-Odd.ensures in
    let f = goes_on c.args.words.now c.self.inside.pass c.self.inside.engine (Begin c.args.props c.args.room) c.args.again c.in-Odd.clock _ _ u c.go_on_from.result c.go_on_from.new.pass c.go_on_from.new.engine (c.go_on_from.ensures u.finds.before u.finds.step u.finds.stepped) in
    left_standing c.self.inside.pass c.self.invariant u.called f c.args.self.now c.self.view_is c.requires.own

pub returns-in-Odd : goal.returns-in-Odd
returns-in-Odd g c =
    let u = c.in-Odd.ensures in
    let f = goes_on c.args.words.now c.self.inside.pass c.self.inside.engine (Begin c.args.props c.args.room) c.args.again c.in-Odd.clock _ _ u c.go_on_from.result c.go_on_from.new.pass c.go_on_from.new.engine (c.go_on_from.ensures u.finds.before u.finds.step u.finds.stepped) in
    answered c.self.inside.pass c.self.invariant u.called f c.args.self.now c.self.view_is c.requires.own

pub returns-in-Nothing : goal.returns-in-Nothing
returns-in-Nothing g c =
    let slow = c.begin_slow in
    let same = c.in-Nothing.ensures in
    let here : Standing = record { pass = c.begin_block.new.pass; engine = c.begin_block.new.engine } in
    let was : here ≡ c.args.self.now = (let is : here ≡ (let o : Standing = record { pass = c.self.inside.pass; engine = c.self.inside.engine } in o) = (λ i. record { pass = same.0 i; engine = same.1 i }) in is) ∙ c.self.view_is in
    subst (λ (t : Standing). Returns (λ a. a) c.args.words.now t (Begin c.args.props c.args.room) c.args.again slow.result slow.new.self) was slow.ensures
