use Rattle.std.proofs.Common.{rules, sym, ◌++◌, ◌∷◌, [], List, ℕ, drop, ◌≡◌, ◌∙◌, ap}
use Rattle.shared_words.proofs.Common.{bytes_of}
use Rattle.shared_words.proofs.LaidWords.{reads_more}
use Rattle.shared_words.proofs.bytes.cells_of_bytes.Goals as goal

pub loop-i-preserved : goal.loop-i-preserved
loop-i-preserved c =
    let cells : List ℕ = c.loop-i.cells.items in
    let w : ℕ = c.get_word.result in
    let e : c.push-in-loop-i.new.self.items ≡ cells ++ w ∷ [] = search rules in
    let first : cells ≡ 0 ∷ drop 1 cells = c.loop-i.invariant.0 in
    let grown : c.push-in-loop-i.new.self.items ≡ 0 ∷ (drop 1 cells ++ w ∷ []) = e ∙ ap (λ (l : List ℕ). l ++ w ∷ []) first in
    let rest : drop 1 c.push-in-loop-i.new.self.items ≡ drop 1 cells ++ w ∷ [] = ap (drop 1) grown in
    (grown ∙ ap (λ (l : List ℕ). 0 ∷ l) (sym rest), ap bytes_of rest ∙ reads_more c.args.bytes.now (drop 1 cells) c.loop-i.i w c.loop-i.invariant.1 c.get_word.ensures.bytes)
