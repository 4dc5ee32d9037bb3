use Rattle.std.proofs.Common.{◌≡◌, rules, IfOk, List, Result, Ok, Some, ap, sym, ◌∙◌}
use Rattle.bank.proofs.Common.{TRANSFERS, ended}
use Rattle.std.specs.List.{slice_get}
use Rattle.tx_threads.proofs.Runs.{each_given}
use Rattle.bank.{specs.declared.fault.Fault.Fault, specs.declared.teller.Tally.Tally}
use Rattle.bank.proofs.branch.open_for_a_day.Goals as goal

pub all_of-requires-clause-all : goal.all_of-requires-clause-all
all_of-requires-clause-all g c n t e =
    let run = c.in_ok-joined.ensures.run in
    let values = c.in_ok-joined.joined.values.items in
    let here : slice_get values n ≡ Some (Ok t) = ap (λ (xs : List (Result Tally Fault)). slice_get xs n) (sym c.as_slice.ensures.value) ∙ e in
    each_given _ _ run.words run.whole.base _ (λ (r : Result Tally Fault). IfOk r (λ (t : Tally). ended t ≡ TRANSFERS)) (λ k lent left r called. search rules) 0 values run.all.views run.all.each n (Ok t) here
