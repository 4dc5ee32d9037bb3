use Rattle.std.proofs.Common.{◌≡◌, Bool, subst}
use Rattle.transactions.proofs.Common.{Answer, Begin, Core, IsAnswered, Lent, Pass, Props, Standing, Stands, Words, start_of, usual, view_of}
use Rattle.transactions.proofs.transaction.Transaction.begun.Goals as goal

-- told of the words and the thread as they were lent
told_here : (inside now : Lent) (w : Words) (props : Props) (again : Bool) (a : Answer) (p : Pass) (e : Core) → w ≡ inside.words → props ≡ usual → inside ≡ now → IsAnswered w (start_of inside.thread (Begin props 0) again) a p e → IsAnswered inside.words (start_of now.thread (Begin usual 0) again) a p e
told_here inside now w props again a p e here plain is answered =
    subst (λ (t : Standing). IsAnswered inside.words (start_of t (Begin usual 0) again) a p e) (lent_thread is)
    (subst (λ (q : Props). IsAnswered inside.words (start_of inside.thread (Begin q 0) again) a p e) plain
    (subst (λ (x : Words). IsAnswered x (start_of inside.thread (Begin props 0) again) a p e) here answered))
  where
    lent_thread : inside ≡ now → inside.thread ≡ now.thread
    lent_thread e = λ i. (e i).thread

pub returns-clause-begun : goal.returns-clause-begun
returns-clause-begun c = (
  c.in_ok-answer.answer,
  record {
    stood = subst (λ (l : Lent). Stands (view_of l.thread.pass) l.thread.engine) c.self.view_is c.clock-clock.ensures.stands;
    outside = c.requires.closed;
    answered = told_here (record { words = c.self.inside.words.value; thread = c.self.inside.thread }) c.args.self.now c.deref.result.now c.default.result c.args.again c.in_ok-answer.answer c.begin.new.self.pass c.begin.new.self.engine c.deref.ensures (λ i. record { no_abort = c.default.ensures.0 i; no_irrevocable = c.default.ensures.1.0 i; goes_irrevocable = c.default.ensures.1.1 i }) c.self.view_is c.in_ok-answer.ensures;
    goes_on = c.in_ok-check.ensures.goes_on;
  },
)
