use Rattle.std.proofs.Common.{ℕ, ◌≤◌, ◌<◌, ◌^◌, sym, subst}
use Rattle.value_log.proofs.index.Index.note.Goals as goal

pub returns-then-is_made-clause-right : goal.returns-then-is_made-clause-right
returns-then-is_made-clause-right c = λ rows size right value. record {
  few = subst (λ (n : ℕ). n ≤ 2 ^ 32) (sym c.put.ensures.last) c.requires.slots;
  index = λ made. c.put.ensures.index rows size (right.index (subst (λ (n : ℕ). 0 < n) c.put.ensures.last made)) value;
}
