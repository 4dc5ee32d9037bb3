-- Open blocks of which nothing changes but the write set.
use Rattle.std.proofs.Common.{◌≡◌, sym, ap, ◌∙◌}
use Rattle.norec_accesses.proofs.Common.{KeepsAllButWrites, Nest, Written}

pub only_writes : (old new : Nest) (writes : Written) → new ≡ record old { writes = writes } → KeepsAllButWrites old new
only_writes old new writes is = is ∙ ap (λ (w : Written). record old { writes = w }) (sym (ap (λ (n : Nest). n.writes) is))

-- one change after the other
pub kept_on : (old mid new : Nest) → KeepsAllButWrites old mid → KeepsAllButWrites mid new → KeepsAllButWrites old new
kept_on old mid new first then = then ∙ ap (λ (n : Nest). record n { writes = new.writes }) first
