use Rattle.std.proofs.Common.{refl, sym, subst}
use Rattle.itmsteps.proofs.Common.{IsJudgement}
use Rattle.history_checker.specs.declared.verdict.Verdict.{Verdict}
use Rattle.history_picture.specs.declared.note.Judgement.TheVariants.{Legal, Bad}
use Rattle.itmsteps.proofs.histories.judgement_of.Goals as goal

pub returns-in-Legal : goal.returns-in-Legal
returns-in-Legal c = subst (λ (v : Verdict). IsJudgement v Legal) (sym c.in-Legal.is) tt

pub returns-in-Bad : goal.returns-in-Bad
returns-in-Bad c = subst (λ (v : Verdict). IsJudgement v (Bad c.in-Bad.row c.text.result)) (sym c.in-Bad.is) (refl, c.text.ensures)
