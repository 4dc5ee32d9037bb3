-- Depths by their numbers.
use Rattle.std.proofs.Common.{◌≡◌, ℕ, ◌<◌, ◌≤◌, arith}
use Rattle.tx_history.proofs.Common.{Depth}
use denote.Struct.Props.{props}
use mathlib.Core.HLevel.{is_prop→PathP}
use Rattle.itm_types.specs.declared.limits.TheConstants.{MAX_DEPTH}
use Rattle.tx_history.specs.Depths.{near}

-- depths of as many blocks are the same
pub same_depth : (d e : Depth) → d.blocks ≡ e.blocks → d ≡ e
same_depth d e b = λ i. record {
  blocks = b i;
  some = is_prop→PathP (λ j. 0 < b j) (λ j. hlevel props) d.some e.some i;
  few = is_prop→PathP (λ j. b j ≤ MAX_DEPTH) (λ j. hlevel props) d.few e.few i;
}

-- a number from 1 to 64 is the nearest of these
pub near_is : (n : ℕ) → 1 ≤ n → n ≤ MAX_DEPTH → near n ≡ n
near_is n l h = omega arith
