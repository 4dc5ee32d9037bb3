use Rattle.std.proofs.Common.{◌≡◌, ◌∙◌, false, subst, sym}
use Rattle.itm_runtime.proofs.Common.{Owns, R, Read, Standing, Tells, U8, answer_to_read, answered, goes_on, left_standing, step_done, step_seen}
use Rattle.itm_runtime.proofs.NumberAnswers.{told_of}
use Rattle.itm_runtime.proofs.thread.Thread.read_u64.Goals as goal

pub returns-in-Number : goal.returns-in-Number
returns-in-Number g c = answered c.self.inside.pass c.self.invariant c.in-Number.ensures.called c.in-Number.ensures.finishes c.args.self.now c.self.view_is c.requires.own

pub invariant_of-self : goal.invariant_of-self
invariant_of-self g c = left_standing c.self.inside.pass c.self.invariant c.in-Number.ensures.called c.in-Number.ensures.finishes c.args.self.now c.self.view_is c.requires.own

pub read_from-number-requires-clause-done : goal.read_from-number-requires-clause-done
read_from-number-requires-clause-done g c =
    let call = Read R U8 c.args.at in
    let over = (subst (λ (t : Standing). Owns c.args.words.now t.pass) (sym c.self.view_is) c.requires.own).over in (
      record { pass = c.self.inside.pass; engine = c.self.inside.engine },
      c.args.at,
      step_done c.args.words.now c.self.inside.pass c.self.inside.engine call false c.in-Moved.clock _ _ c.in-Moved.ensures.0 c.self.invariant over,
      step_seen c.args.words.now c.self.inside.pass c.self.inside.engine call false c.in-Moved.clock _ _ c.in-Moved.ensures.0 c.self.invariant over,
    )

pub invariant_of-self-in-Moved : goal.invariant_of-self-in-Moved
invariant_of-self-in-Moved g c =
    let u = c.in-Moved.ensures.0 in
    let rest = c.read_from-number.ensures u.finds.before u.finds.step u.finds.stepped in
    let f = goes_on c.args.words.now c.self.inside.pass c.self.inside.engine (Read R U8 c.args.at) false c.in-Moved.clock _ _ u rest.0 c.read_from-number.new.pass c.read_from-number.new.engine rest.2 in
    left_standing c.self.inside.pass c.self.invariant u.called f c.args.self.now c.self.view_is c.requires.own

pub returns-in-Moved : goal.returns-in-Moved
returns-in-Moved g c =
    let u = c.in-Moved.ensures.0 in
    let rest = c.read_from-number.ensures u.finds.before u.finds.step u.finds.stepped in
    let f = goes_on c.args.words.now c.self.inside.pass c.self.inside.engine (Read R U8 c.args.at) false c.in-Moved.clock _ _ u rest.0 c.read_from-number.new.pass c.read_from-number.new.engine rest.2 in
    told_of (answer_to_read c.read_from-number.result) rest.0 c.args.words.now c.args.self.now (Read R U8 c.args.at) (record { pass = c.read_from-number.new.pass; engine = c.read_from-number.new.engine }) rest.1
    (answered c.self.inside.pass c.self.invariant u.called f c.args.self.now c.self.view_is c.requires.own)

pub returns-in-Nothing : goal.returns-in-Nothing
returns-in-Nothing g c =
    let slow = c.read_number-number in
    let same = c.in-Nothing.ensures in
    let here : Standing = record { pass = c.look.new.pass; engine = c.look.new.engine } in
    let was : here ≡ c.args.self.now = (let is : here ≡ (let o : Standing = record { pass = c.self.inside.pass; engine = c.self.inside.engine } in o) = (λ i. record { pass = same.0 i; engine = same.1 i }) in is) ∙ c.self.view_is in
    subst (λ (t : Standing). Tells c.args.words.now t (Read R U8 c.args.at) (answer_to_read slow.result) slow.new.self) was slow.ensures
