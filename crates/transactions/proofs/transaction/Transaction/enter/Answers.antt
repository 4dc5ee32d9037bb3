use Rattle.std.proofs.Common.{◌≡◌, ap, false, rules, subst}
use Rattle.transactions.proofs.Common.{Answer, Begin, Core, IsAnswered, Lent, Pass, Props, Words, start_of, usual, view_of}
use Rattle.transactions.proofs.InnerBlocks.{begin_coded}
use Rattle.transactions.proofs.transaction.Transaction.enter.Goals as goal

-- told of the words and the thread as they were lent
told_here : (inside now : Lent) (w : Words) (props : Props) (a : Answer) (p : Pass) (e : Core) → w ≡ inside.words → props ≡ usual → inside ≡ now → IsAnswered w (start_of inside.thread (Begin props 0) false) a p e → IsAnswered now.words (start_of now.thread (Begin usual 0) false) a p e
told_here inside now w props a p e here plain is answered =
    subst (λ (l : Lent). IsAnswered l.words (start_of l.thread (Begin usual 0) false) a p e) is
    (subst (λ (q : Props). IsAnswered inside.words (start_of inside.thread (Begin q 0) false) a p e) plain
    (subst (λ (x : Words). IsAnswered x (start_of inside.thread (Begin props 0) false) a p e) here answered))

pub returns-clause-entered : goal.returns-clause-entered
returns-clause-entered c =
    let t = c.args.self.now.thread in
    let new = c.begin.new.self in
    let a : IsAnswered c.args.self.now.words (start_of t (Begin usual 0) false) c.in_ok-answer.answer new.pass new.engine =
    told_here (record { words = c.self.inside.words.value; thread = c.self.inside.thread }) c.args.self.now c.deref.result.now c.default.result c.in_ok-answer.answer new.pass new.engine c.deref.ensures (λ i. record { no_abort = c.default.ensures.0 i; no_irrevocable = c.default.ensures.1.0 i; goes_irrevocable = c.default.ensures.1.1 i }) c.self.view_is c.in_ok-answer.ensures in
    record {
      words = ap (λ (l : Lent). l.words) c.self.view_is;
      revocable = search rules;
      inside = search rules;
      answered = subst (λ (x : Answer). IsAnswered c.args.self.now.words (start_of t (Begin usual 0) false) x new.pass new.engine) (begin_coded t c.in_ok-answer.answer (view_of new.pass) new.engine a.served c.in_ok-check.ensures.goes_on) a;
    }
