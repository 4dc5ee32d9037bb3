use Rattle.std.proofs.Common.{◌≡◌, ◌∙◌, ℕ, Err, Ok, Result, add-one, arith, of_calls, refl, rules, subst, sym}
use Rattle.transactions.proofs.Common.{Folds, HasFolded, Steps}
use Rattle.transactions.proofs.client.Client.try_fold.Goals as goal

pub returns-in_err-value-clause-words : goal.returns-in_err-value-clause-words
returns-in_err-value-clause-words g c keeps = keeps _ _ _ _ _ _ _ (record { shown = _; shows = refl; left = _; called = c.step.ensures; leaves = refl }) ∙ c.loop-number.invariant.2 keeps

pub loop-number-preserved : goal.loop-number-preserved
loop-number-preserved g c =
    let run : Steps g.F.FnMut c.loop-number.step c.loop-number.self c.loop-number.value c.loop-number.number c.step.result c.step.new.self c.step.new.arg2 = record { shown = _; shows = refl; left = _; called = c.step.ensures; leaves = refl } in
    let gave : c.step.result ≡ Ok c.in_ok-value.value = c.in_ok-value.was in (
      search of_calls,
      subst (λ (n : ℕ). Folds g.F.FnMut c.args.step c.args.self.now c.args.first n c.step.new.self c.step.new.arg2 c.in_ok-value.value) (sym (add-one _)) (_, _, _, c.loop-number.invariant.1, subst (λ (r : Result g.row.T.Denot g.row.E.Denot). Steps g.F.FnMut c.loop-number.step c.loop-number.self c.loop-number.value c.loop-number.number r c.step.new.self c.step.new.arg2) gave run),
      λ keeps. keeps _ _ _ _ _ _ _ run ∙ c.loop-number.invariant.2 keeps,
      omega (arith, c.loop-number-test.true),
    )

pub returns-in_err-value-clause-folded : goal.returns-in_err-value-clause-folded
returns-in_err-value-clause-folded g c =
    let run : Steps g.F.FnMut c.loop-number.step c.loop-number.self c.loop-number.value c.loop-number.number c.step.result c.step.new.self c.step.new.arg2 = record { shown = _; shows = refl; left = _; called = c.step.ensures; leaves = refl } in
    let gave : c.step.result ≡ Err c.in_err-value.field-0.0 = c.in_err-value.was in
    let told : c.from_residual.result ≡ Err c.in_err-value.field-0.0 = search rules in
    let last : Steps g.F.FnMut c.loop-number.step c.loop-number.self c.loop-number.value c.loop-number.number (Err c.in_err-value.field-0.0) c.step.new.self c.step.new.arg2 = subst (λ (r : Result g.row.T.Denot g.row.E.Denot). Steps g.F.FnMut c.loop-number.step c.loop-number.self c.loop-number.value c.loop-number.number r c.step.new.self c.step.new.arg2) gave run in
    subst (λ (r : Result g.row.T.Denot g.row.E.Denot). HasFolded g.F.FnMut c.args.step c.args.self.now c.args.first c.args.times r c.step.new.arg2) (sym told) (c.loop-number.number, c.loop-number-test.true, _, _, _, _, c.loop-number.invariant.1, last)
