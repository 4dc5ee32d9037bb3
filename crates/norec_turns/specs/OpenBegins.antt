-- At which point open blocks began.
use Rattle.std.specs.Prelude.{◌≡◌, ℕ, ◌≤◌, false, List, [], ◌∷◌}
use Rattle.nest_frames.specs.Nest.{Frame}

-- with no more read and registered than this; and the block does not go irrevocable
pub record HasBegun (reads commits undos : ℕ) (b : Frame) : Type 0 where
  pub read : b.reads ≤ reads
  pub to_commit : b.commits ≤ commits
  pub to_undo : b.undos ≤ undos
  pub revocable : b.props.goes_irrevocable ≡ false

-- the innermost one so, each other one with no more than the one within it, and the outermost one with nothing read
abbrev pub AreBegun : ℕ → ℕ → ℕ → List Frame → Type 0
AreBegun reads commits undos [] = Unit {0}
AreBegun reads commits undos (b ∷ []) = HasBegun reads commits undos b × (b.reads ≡ 0)
AreBegun reads commits undos (b ∷ p ∷ bs) = HasBegun reads commits undos b × AreBegun b.reads b.commits b.undos (p ∷ bs)
