use Rattle.norec_world.proofs.{Cells, length-words_from, words_of, arith, ◌≡◌, ◌≤◌, ◌/◌, ℕ, List, length, ap}
use Rattle.std.proofs.Common.{◌*◌}
use Rattle.itm_types.specs.declared.limits.TheConstants.{MAX_MEMORY}
use Rattle.norec_world.proofs.memory.Memory.words.Goals as goal

-- whole words have eight bytes each
counted : (bytes : List ℕ) → length (words_of bytes) ≡ length bytes / 8
counted bytes = length-words_from (length bytes / 8) bytes

pub overflow_cast-result : goal.overflow_cast-result
overflow_cast-result c =
    let few : 8 * length c.args.self.now.words ≤ MAX_MEMORY = c.requires in
    omega (arith, counted c.self.inside.bytes.items, ap (λ (m : Cells). length m.words) c.self.view_is, c.len.ensures, c.self.inside.bytes.ok.0)

pub returns : goal.returns
returns c = omega (arith, counted c.self.inside.bytes.items, ap (λ (m : Cells). length m.words) c.self.view_is, c.len.ensures, c.self.inside.bytes.ok.0)
