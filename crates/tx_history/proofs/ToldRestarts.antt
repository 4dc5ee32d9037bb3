-- A version tells of the blocks that may have run again in a run that it tells of.
use Rattle.std.proofs.Common.{ℕ, ◌≤◌, List, [], ◌∷◌, length, refl, arith}
use Rattle.tx_history.proofs.Common.{Again, MayRestart, MayTell, One, Three, Two}
use Rattle.tx_history.specs.declared.history.Version.{Version}

pub may_tell : (version : Version) (most : ℕ) (restarts : List Again) → MayRestart version most → length restarts ≤ most → MayTell version restarts
may_tell One most [] none few = refl
may_tell One most (x ∷ xs) none few = absurd (omega (arith, none, few))
may_tell Two most restarts none few = tt
may_tell (Three depth) most restarts none few = tt
