-- Bytes for the memory, from their digits.
use Rattle.std.proofs.Common.{◌≡◌, ℕ, ◌+◌, true, false, leb, List, [], ◌∷◌, ◌++◌, length, Some, Ok, refl, sym, ap, ◌∙◌}
use Rattle.script_asm.proofs.Common.{Adds, Shared, State, fault, laid_in}
use Rattle.script_fields.specs.declared.fault.FaultKind.TheVariants as kinds
use Rattle.script_asm.proofs.KeptLines.{adds_init}

abbrev pub with_bytes : State → Shared → ℕ → List ℕ → State
with_bytes s m at bytes = record s { memory = Some (record m { inits = m.inits ++ record { at = at; bytes = bytes } ∷ [] }) }

pub lies_within : (s : State) (n at : ℕ) (bytes : List ℕ) (m : Shared) → s.memory ≡ Some m → leb (at + length bytes) m.size ≡ true → laid_in s n (at, bytes) s.memory ≡ Ok (with_bytes s m at bytes)
unfolding laid_in
lies_within s n at bytes m e h = rw (e, h) refl

pub lies_beyond : (s : State) (n at : ℕ) (bytes : List ℕ) (m : Shared) → s.memory ≡ Some m → leb (at + length bytes) m.size ≡ false → laid_in s n (at, bytes) s.memory ≡ fault n kinds.Range
unfolding laid_in
lies_beyond s n at bytes m e h = rw (e, h) refl

pub adds_bytes : (s : State) (n at : ℕ) (bytes : List ℕ) (m : Shared) → s.memory ≡ Some m → leb (at + length bytes) m.size ≡ true → Adds s (laid_in s n (at, bytes) s.memory)
adds_bytes s n at bytes m e h = rw (lies_within s n at bytes m e h) (adds_init s m (record { at = at; bytes = bytes }) e)

pub left_within : (s : State) (n at : ℕ) (bytes put : List ℕ) (m left : Shared) → s.memory ≡ Some m → leb (at + length bytes) m.size ≡ true → bytes ≡ put
    → left ≡ record m { inits = m.inits ++ record { at = at; bytes = put } ∷ [] } → laid_in s n (at, bytes) s.memory ≡ Ok (record s { memory = Some left })
left_within s n at bytes put m left e h same is = lies_within s n at bytes m e h ∙ ap (λ (x : List ℕ). Ok (with_bytes s m at x)) same ∙ ap (λ (x : Shared). Ok (record s { memory = Some x })) (sym is)
