-- The bytes that a write of a register moves.
use Rattle.std.proofs.Common.{◌≡◌, ℕ, ◌≤◌, List, length, take, replicate, sym}
use Rattle.script_vm.proofs.Common.{low, take-append-le}

-- no zeros stand for bytes that are there
pub low_is : (n : ℕ) (bytes : List ℕ) → n ≤ length bytes → take n bytes ≡ low n bytes
low_is n bytes h = sym (take-append-le n bytes (replicate n 0) h)
