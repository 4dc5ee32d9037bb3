use Rattle.std.proofs.Common.{◌≡◌, List, ℕ, drop, length, subst, arith, sym, ◌∙◌, ap}
use Rattle.shared_words.proofs.Common.{Good, View, view_of}
use Rattle.shared_words.{proofs.ClockFirst.clock_with_words, proofs.PassViews.ends_of, proofs.PassViews.held_of}
use Rattle.shared_words.proofs.words.Words.close_in_place.Goals as goal

pub returns-clause-held : goal.returns-clause-held
returns-clause-held g c = λ holds.
    let final = c.gather_with-row.ensures.values.1 in
    let s = final.0 in
    let v : View = view_of c.args.pass in
    let cells : List ℕ = c.attach.result.items in
    let same : c.gather_with-row.result.items ≡ cells = sym c.attach.ensures.0 in
    let good : Good cells s.views = subst (λ (l : List ℕ). Good l s.views) (final.2 ∙ same) final.1.0 in
    let e = held_of cells s.views good _ v final.1.1 holds _ (drop 1 cells) (clock_with_words cells (let n = ap length same in let m = c.gather_with-row.ensures.place.1 in omega (arith, c.args.self.clocked))) in
    record { clock_is = e.0; high = e.2; words_are = e.1 }

pub returns-clause-whole : goal.returns-clause-whole
returns-clause-whole g c = λ all idle.
    let final = c.gather_with-row.ensures.values.1 in
    let s = final.0 in
    let v : View = view_of c.args.pass in
    let cells : List ℕ = c.attach.result.items in
    let same : c.gather_with-row.result.items ≡ cells = sym c.attach.ensures.0 in
    let good : Good cells s.views = subst (λ (l : List ℕ). Good l s.views) (final.2 ∙ same) final.1.0 in
    ends_of cells s.views good _ v final.1.1 all idle _ (drop 1 cells) (clock_with_words cells (let n = ap length same in let m = c.gather_with-row.ensures.place.1 in omega (arith, c.args.self.clocked)))
