use Rattle.std.proofs.Common.{◌≡◌, ◌==◌, option_map, find, rules, tests, sym, ap, ◌∙◌}
use Rattle.value_log.proofs.Common.{LogRow, value_found}
use Rattle.std.{proofs.lemmas.Iterator.YieldsList-from_slice, proofs.lemmas.Iterator.Search.find_from_yields_List}
use Rattle.value_log.proofs.log.scan.Goals as goal

pub returns-in_err-row : goal.returns-in_err-row
returns-in_err-row c =
    let rows = c.args.rows.now in
    let found : option_map (λ b. b.now) c.find.result ≡ find (λ (r : LogRow). r.word == c.args.word) rows =
    find_from_yields_List (λ (r : LogRow). r.word == c.args.word) _ _ c.find.result c.find.ensures.ran (YieldsList-from_slice rows (cc)) (λ x b q k. search (rules, tests)) in
    c.from_residual.ensures
    ∙ ((λ i. option_map (λ (r : LogRow). r.value) (option_map (λ b. b.now) (sym c.in_err-row.was i))) ∙ (ap (option_map (λ (r : LogRow). r.value)) found ∙ value_found c.args.word rows))

pub returns : goal.returns
returns c =
    let rows = c.args.rows.now in
    let found : option_map (λ b. b.now) c.find.result ≡ find (λ (r : LogRow). r.word == c.args.word) rows =
    find_from_yields_List (λ (r : LogRow). r.word == c.args.word) _ _ c.find.result c.find.ensures.ran (YieldsList-from_slice rows (cc)) (λ x b q k. search (rules, tests)) in
    (λ i. option_map (λ (r : LogRow). r.value) (option_map (λ b. b.now) (sym c.in_ok-row.was i))) ∙ (ap (option_map (λ (r : LogRow). r.value)) found ∙ value_found c.args.word rows)
