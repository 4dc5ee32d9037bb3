use Rattle.std.proofs.Common.{◌≡◌, ◌∷◌, ◌+◌, [], List, ℕ, length, drop, get_or, rules, ◌<◌, ◌^◌, sym, ap, ◌∙◌, subst, arith}
use Rattle.shared_words.proofs.Common.{Good, Held, IsOver, opening}
use Rattle.shared_words.{proofs.PassViews.opens, proofs.ClockFirst.clock_first, proofs.ClockFirst.words_behind, proofs.ClockFirst.rest_fits}
use Rattle.shared_words.proofs.words.Words.of_cells.Goals as goal

pub deal-shared-requires-clause-good : goal.deal-shared-requires-clause-good
deal-shared-requires-clause-good g c =
    let cells : List ℕ = c.args.cells.items in
    let fits : (i d : ℕ) → i < length cells → get_or cells i d < 2 ^ 64 = search rules in
    let same : c.detach-row.result.0.items ≡ cells = c.detach-row.ensures.1 ∙ ap (λ v. v.items) c.as_mut_ptr-ptr.ensures.unchanged in
    let is : 0 ∷ drop 1 cells ≡ cells = clock_first cells (let n = c.len-count.ensures in omega (arith, c.if-count-lt2.false, c.args.cells.ok.0)) c.requires.clock in
    let good : Good (0 ∷ drop 1 cells) (opening (drop 1 cells) ∷ []) = opens (drop 1 cells) (rest_fits cells fits) in
    let here : Good cells (opening (drop 1 cells) ∷ []) = subst (λ (l : List ℕ). Good l (opening (drop 1 cells) ∷ [])) is good in
    subst (λ (l : List ℕ). Good l (opening (drop 1 l) ∷ [])) (sym same) here

pub returns-clause-pass : goal.returns-clause-pass
returns-clause-pass g c =
    let cells : List ℕ = c.args.cells.items in
    let told = c.deal-shared.ensures in
    let fits : (i d : ℕ) → i < length cells → get_or cells i d < 2 ^ 64 = search rules in
    let same : c.detach-row.result.0.items ≡ cells = c.detach-row.ensures.1 ∙ ap (λ v. v.items) c.as_mut_ptr-ptr.ensures.unchanged in
    let view : c.deal-shared.result.1.me.0 ≡ opening (drop 1 cells) = ap (λ (m : Held). m.0) told.seat.1 ∙ ap (λ (l : List ℕ). opening (drop 1 l)) same in
    let size : length (drop 1 cells) + 1 ≡ c.deal-shared.result.0.table_id.words = words_behind cells (let n = c.len-count.ensures in omega (arith, c.if-count-lt2.false, c.args.cells.ok.0)) ∙ sym (told.counts.0 ∙ ap length same) in
    record {
      own = record {
        same = told.seat.0;
        over = subst (IsOver c.deal-shared.result.0.table_id.words) (sym view)
            record { size = size; base_fits = rest_fits cells fits; seen_fits = tt; done_fits = tt; high = omega arith; long = omega arith; known = omega arith };
      };
      first = view ∙ sym (ap (λ v. opening v.base) view);
    }
