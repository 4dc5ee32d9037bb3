-- Bytes with zeros after them.
use Rattle.std.proofs.Common.{◌≡◌, ℕ, List, ◌++◌, length, drop, replicate, ap, ◌∙◌}
use Rattle.script_vm.proofs.Common.{drop-replicate, of_bytes}

-- what is left of 32 zeros after the bytes
pub padded : (bytes rest : List ℕ) → rest ≡ drop (length bytes) (replicate 32 0) → bytes ++ rest ≡ of_bytes bytes
padded bytes rest e = ap (λ (l : List ℕ). bytes ++ l) (e ∙ drop-replicate (length bytes) 32 0)
