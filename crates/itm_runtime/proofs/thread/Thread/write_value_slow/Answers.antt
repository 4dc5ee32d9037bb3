use Rattle.std.proofs.Common.{false, rules, subst}
use Rattle.itm_runtime.proofs.Common.{Answer, IsAnswered, W, Write, start_of, view_of}
use Rattle.itm_runtime.proofs.NumberAnswers.{write_done}
use Rattle.itm_runtime.proofs.thread.Thread.write_value_slow.Goals as goal

pub returns : goal.returns
returns g c =
    let w = c.args.words.now in
    let t = c.args.self.now in
    let new = c.write.new.self in
    let value = c.args.value.now in
    let answered : IsAnswered w (start_of t (Write W c.args.at value) false) c.in_ok-answer.answer new.pass new.engine = search rules in
    subst (λ (a : Answer). IsAnswered w (start_of t (Write W c.args.at value) false) a new.pass new.engine)
    (write_done t W c.args.at value c.in_ok-answer.answer (view_of new.pass) new.engine answered.served c.in_ok-check.ensures.goes_on) answered
