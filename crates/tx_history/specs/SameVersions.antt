-- Versions that are equal are the same.
use Rattle.std.specs.Prelude.{◌≡◌, true, refl}
use Rattle.std.proofs.Common.{sym}
use mathlib.Core.Bool.{true≢false}
use Rattle.itm_types.specs.contracts.equality.DepthExactEq.TheImpl.Laws.{exact-law as exact_depth}
use Rattle.tx_history.specs.contracts.history.VersionPartialEq.TheImpl as equality
use Rattle.tx_history.specs.declared.history.Version.{Version}
use Rattle.tx_history.specs.declared.history.Version.TheVariants.{One, Two, Three}

pub same_version : (v w : Version) → (equality.ghosts).eq v w ≡ true → v ≡ w
same_version One One e = refl
same_version Two Two e = refl
same_version (Three d) (Three f) e = λ i. Three (exact_depth d f e i)
same_version v w e = absurd (true≢false (sym e))
