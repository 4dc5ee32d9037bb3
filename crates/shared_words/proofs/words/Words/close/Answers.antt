use Rattle.std.proofs.Common.{◌≡◌, ◌+◌, ◌*◌, List, ℕ, take, refl, arith, sym, ap, ◌∙◌, subst}
use Rattle.shared_words.proofs.Common.{Ends, EndsInHold, bytes_of, view_of, words_in}
use Rattle.shared_words.proofs.LaidWords.{laid_all, lays_more}
use Rattle.shared_words.proofs.words.Words.close.Goals as goal

pub loop-i-init : goal.loop-i-init
loop-i-init g c = refl

pub loop-i-preserved : goal.loop-i-preserved
loop-i-preserved g c =
    let words : List ℕ = words_in c.close_in_place-closed.result in
    let count = c.count-i-end.ensures in
    let cells = c.close_in_place-closed.ensures.count in
    let size = c.requires.size in
    let long = c.loop-i.auto.bytes in
    subst (λ (l : List ℕ). take (8 * (c.loop-i.i + 1)) l ≡ bytes_of (take (c.loop-i.i + 1) words)) (sym c.put_word.ensures)
    (lays_more words c.loop-i.bytes c.loop-i.i c.word.result c.loop-i.invariant (omega (arith, c.loop-i-test.true)) (omega (arith, c.loop-i-test.true)) c.word.ensures)

pub returns-clause-held : goal.returns-clause-held
returns-clause-held g c = λ holds.
    let words : List ℕ = words_in c.close_in_place-closed.result in
    let count = c.count-i-end.ensures in
    let cells = c.close_in_place-closed.ensures.count in
    let size = c.requires.size in
    let long = c.loop-i.auto.bytes in
    let e : EndsInHold (view_of c.args.pass) c.clock-clock.result words = subst (λ (n : ℕ). EndsInHold (view_of c.args.pass) n words) (sym c.clock-clock.ensures) (c.close_in_place-closed.ensures.held holds) in
    record { clock_is = e.clock_is; high = e.high; bytes_are = laid_all words c.loop-i.bytes c.loop-i.i c.loop-i.invariant (omega arith) (omega arith) ∙ ap bytes_of e.words_are }

pub returns-clause-whole : goal.returns-clause-whole
returns-clause-whole g c = λ all idle.
    let words : List ℕ = words_in c.close_in_place-closed.result in
    let count = c.count-i-end.ensures in
    let cells = c.close_in_place-closed.ensures.count in
    let size = c.requires.size in
    let long = c.loop-i.auto.bytes in
    let e : Ends (view_of c.args.pass) c.clock-clock.result words = subst (λ (n : ℕ). Ends (view_of c.args.pass) n words) (sym c.clock-clock.ensures) (c.close_in_place-closed.ensures.whole all idle) in
    record { clock_is = e.clock_is; high = e.high; bytes_are = laid_all words c.loop-i.bytes c.loop-i.i c.loop-i.invariant (omega arith) (omega arith) ∙ ap bytes_of e.words_are; met = e.met; mine = e.mine; no_other = e.no_other }
