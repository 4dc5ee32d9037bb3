use Rattle.std.proofs.Common.{◌∙◌, Some, ap, false, rules, subst, sym}
use Rattle.transactions.proofs.Common.{HasValue, IsAnswered, R, Read, start_of, told_of, view_of}
use Rattle.transactions.{proofs.WidthReads.read_value, proofs.Within.lent_within}
use Rattle.transactions.proofs.transaction.Transaction.read.Goals as goal

pub value_in-requires : goal.value_in-requires
value_in-requires c =
    let w = c.args.self.now.words in
    let t = c.args.self.now.thread in
    let new = c.read.new.self in
    let answered : IsAnswered w (start_of t (Read R c.args.width c.args.at) false) c.in_ok-answer.answer new.pass new.engine = search rules in
    subst (HasValue c.args.width) (sym c.in_ok-checked.ensures.ok) (read_value t R c.args.width c.args.at c.in_ok-answer.answer (view_of new.pass) new.engine answered.served c.in_ok-checked.ensures.goes_on)

pub returns-clause-tells : goal.returns-clause-tells
returns-clause-tells c =
    let w = c.args.self.now.words in
    let t = c.args.self.now.thread in
    let new = c.read.new.self in
    let answered : IsAnswered w (start_of t (Read R c.args.width c.args.at) false) c.in_ok-answer.answer new.pass new.engine = search rules in
    told_of _ c.in_ok-answer.answer w t (Read R c.args.width c.args.at) new (c.value_in.ensures.told ∙ ap Some c.in_ok-checked.ensures.ok) answered

pub returns-clause-within : goal.returns-clause-within
returns-clause-within c =
    lent_within (record { words = c.self.inside.words.value; thread = c.self.inside.thread }) c.args.self.now c.deref.result.now (Read R c.args.width c.args.at) tt c.self.view_is (Some c.in_ok-answer.answer) c.read.new.self c.in_ok-answer.ensures c.self.invariant.revocable

pub returns-in_err-checked-clause-within : goal.returns-in_err-checked-clause-within
returns-in_err-checked-clause-within c =
    lent_within (record { words = c.self.inside.words.value; thread = c.self.inside.thread }) c.args.self.now c.deref.result.now (Read R c.args.width c.args.at) tt c.self.view_is (Some c.in_ok-answer.answer) c.read.new.self c.in_ok-answer.ensures c.self.invariant.revocable
