use Rattle.std.proofs.Common.{◌≡◌, ◌∙◌, false, refl, subst, sym}
use Rattle.itm_runtime.proofs.Common.{Commit, IsAnswered, Owns, Standing, answered, commit_whole, goes_on, left_standing, start_of, underway}
use Rattle.itm_runtime.proofs.thread.Thread.commit.Goals as goal

pub returns-in-Wrote-clause-answered : goal.returns-in-Wrote-clause-answered
returns-in-Wrote-clause-answered g c = answered c.self.inside.pass c.self.invariant c.in-Wrote.ensures.called c.in-Wrote.ensures.finishes c.args.self.now c.self.view_is c.requires.own

pub invariant_of-self : goal.invariant_of-self
invariant_of-self g c = left_standing c.self.inside.pass c.self.invariant c.in-Wrote.ensures.called c.in-Wrote.ensures.finishes c.args.self.now c.self.view_is c.requires.own

pub returns-in-Read-clause-answered : goal.returns-in-Read-clause-answered
returns-in-Read-clause-answered g c = answered c.self.inside.pass c.self.invariant c.in-Read.ensures.called c.in-Read.ensures.finishes c.args.self.now c.self.view_is c.requires.own

pub invariant_of-self-in-Read : goal.invariant_of-self-in-Read
invariant_of-self-in-Read g c = left_standing c.self.inside.pass c.self.invariant c.in-Read.ensures.called c.in-Read.ensures.finishes c.args.self.now c.self.view_is c.requires.own

pub go_on_from-answer-requires-clause-done : goal.go_on_from-answer-requires-clause-done
go_on_from-answer-requires-clause-done g c = underway c.args.words.now c.self.inside.pass c.self.inside.engine Commit false c.in-Found.found _ _ c.in-Found.ensures.0 c.self.invariant (subst (λ (t : Standing). Owns c.args.words.now t.pass) (sym c.self.view_is) c.requires.own).over

pub invariant_of-self-in-Found : goal.invariant_of-self-in-Found
invariant_of-self-in-Found g c =
    let u = c.in-Found.ensures.0 in
    let f = goes_on c.args.words.now c.self.inside.pass c.self.inside.engine Commit false c.in-Found.found _ _ u c.go_on_from-answer.result c.go_on_from-answer.new.pass c.go_on_from-answer.new.engine (c.go_on_from-answer.ensures u.finds.before u.finds.step u.finds.stepped) in
    left_standing c.self.inside.pass c.self.invariant u.called f c.args.self.now c.self.view_is c.requires.own

pub returns-in-Found-clause-answered : goal.returns-in-Found-clause-answered
returns-in-Found-clause-answered g c =
    let u = c.in-Found.ensures.0 in
    let f = goes_on c.args.words.now c.self.inside.pass c.self.inside.engine Commit false c.in-Found.found _ _ u c.go_on_from-answer.result c.go_on_from-answer.new.pass c.go_on_from-answer.new.engine (c.go_on_from-answer.ensures u.finds.before u.finds.step u.finds.stepped) in
    answered c.self.inside.pass c.self.invariant u.called f c.args.self.now c.self.view_is c.requires.own

pub returns-in-Found-clause-whole : goal.returns-in-Found-clause-whole
returns-in-Found-clause-whole g c =
    let u = c.in-Found.ensures.0 in
    let f = goes_on c.args.words.now c.self.inside.pass c.self.inside.engine Commit false c.in-Found.found _ _ u c.go_on_from-answer.result c.go_on_from-answer.new.pass c.go_on_from-answer.new.engine (c.go_on_from-answer.ensures u.finds.before u.finds.step u.finds.stepped) in
    commit_whole _ _ _ _ (answered c.self.inside.pass c.self.invariant u.called f c.args.self.now c.self.view_is c.requires.own).served refl

pub returns-in-Nothing-clause-answered : goal.returns-in-Nothing-clause-answered
returns-in-Nothing-clause-answered g c =
    let slow = c.commit_slow-answer in
    let same = c.in-Nothing.ensures in
    let here : Standing = record { pass = c.commit_block.new.pass; engine = c.commit_block.new.engine } in
    let was : here ≡ c.args.self.now = (let is : here ≡ (let o : Standing = record { pass = c.self.inside.pass; engine = c.self.inside.engine } in o) = (λ i. record { pass = same.0 i; engine = same.1 i }) in is) ∙ c.self.view_is in
    subst (λ (t : Standing). IsAnswered c.args.words.now (start_of t Commit false) slow.result slow.new.self.pass slow.new.self.engine) was slow.ensures
