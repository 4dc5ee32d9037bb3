use Rattle.std.proofs.Common.{◌≡◌, ◌∙◌, ℕ, suc, ◌+◌, ◌*◌, List, ap, arith, get_or, refl, subst, sym, take}
use Rattle.itm_types.specs.{Memory.bytes_of, declared.step.Step.TheVariants.Load}
use Rattle.shared_words.proofs.{LaidWords.laid_all, LaidWords.lays_more}
use Rattle.shared_words.specs.{Moves.Moves, Passes.cells_of, Passes.view_of, Steps.StepTells}
use Rattle.tx_threads.proofs.OnlyPass.{all_read, clock_found, clock_looked, looks_on_on, memory_of, memory_size, same_memory, share_most, word_found, word_looked}
use Rattle.tx_threads.proofs.closing.read_all.Goals as goal

pub loop-i-init : goal.loop-i-init
loop-i-init c =
    let most = share_most _ _ _ _ c.step-clock.ensures.moves in
    let all : (view_of c.args.pass).share ≡ 128 = omega (arith, c.requires.whole, most) in
    record {
      own = c.step-clock.ensures.own;
      on = clock_looked _ _ _ all c.requires.idle c.step-clock.ensures.moves c.step-clock.ensures.turn;
      laid = refl;
    }

pub loop-i-preserved : goal.loop-i-preserved
loop-i-preserved c =
    let v = view_of c.args.pass in
    let u = view_of c.loop-i.pass in
    let w = view_of c.step-word.new.pass in
    let i : ℕ = c.loop-i.i in
    let n : ℕ = c.step-word.result in
    let on = c.loop-i.invariant.on in
    let next : i + 1 ≡ suc i = omega arith in
    let told = subst (λ (k : ℕ). StepTells u (Load k) n w) next c.step-word.ensures.turn in
    let moves = subst (λ (k : ℕ). Moves u (Load k) n w) next c.step-word.ensures.moves in
    let most = share_most _ _ _ _ c.step-clock.ensures.moves in
    let whole : v.share ≡ 128 = omega (arith, c.requires.whole, most) in
    let all = on.share ∙ whole in
    let idle = on.holds ∙ c.requires.idle in
    let found : n ≡ get_or (memory_of v) i 0 = word_found u w n all idle i moves ∙ ap (λ (l : List ℕ). get_or l i 0) (same_memory v u on) in
    let size = c.requires.size in
    let ends = c.size-i-end.ensures.cells in
    let more = c.loop-i-test.true in
    let long = c.loop-i.auto.bytes in
    let count = memory_size (cells_of c.args.words.now) v c.requires.own.over in
    record {
      own = c.step-word.ensures.own;
      on = looks_on_on v u w on (word_looked u w n all idle i told);
      laid = subst (λ (l : List ℕ). take (8 * (i + 1)) l ≡ bytes_of (take (i + 1) (memory_of v))) (sym c.put_word.ensures) (lays_more (memory_of v) c.loop-i.bytes i n c.loop-i.invariant.laid (omega (arith, size, ends, more, long)) (omega (arith, size, ends, more, count)) found);
    }

pub returns : goal.returns
returns c =
    let v = view_of c.args.pass in
    let size = c.requires.size in
    let ends = c.size-i-end.ensures.cells in
    let last = c.loop-i-test.false in
    let most = c.loop-i.auto.i-end in
    let long = c.loop-i.auto.bytes in
    let count = memory_size (cells_of c.args.words.now) v c.requires.own.over in
    let most = share_most _ _ _ _ c.step-clock.ensures.moves in
    let whole : v.share ≡ 128 = omega (arith, c.requires.whole, most) in
    let clock = clock_found v (view_of c.step-clock.new.pass) _ whole c.requires.idle c.step-clock.ensures.moves in
    all_read v _ c.loop-i.bytes clock (laid_all (memory_of v) c.loop-i.bytes c.loop-i.i c.loop-i.invariant.laid (omega (arith, size, ends, last, most, long)) (omega (arith, size, ends, last, most, count)))
