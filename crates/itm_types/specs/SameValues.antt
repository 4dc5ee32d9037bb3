-- Values with the same fields are the same, whatever proves what a type says of its fields.
use Rattle.std.specs.Prelude.{◌≡◌, ◌<◌, ◌≤◌, ◌&&◌, ◌==◌, Bool, true, length}
use Rattle.std.proofs.Common.{arith}
use Rattle.std.specs.Bool.{beq}
use Rattle.std.proofs.lemmas.Bool.Decides.{nat_tests}
use denote.Struct.Props.{props}
use mathlib.Core.HLevel.{is_prop→PathP}
use native.Mathlib.Nat.{ℕ_set}
use Rattle.itm_types.specs.declared.call.Copying.{Copying}
use Rattle.itm_types.specs.declared.copy.CopyPair.{CopyPair}
use Rattle.itm_types.specs.declared.datum.Datum.{Datum}
use Rattle.itm_types.specs.declared.limits.Depth.{Depth}
use Rattle.itm_types.specs.declared.limits.TheConstants.{MAX_DEPTH}
use Rattle.itm_types.specs.Access.{size_of}

pub same_datum : (d e : Datum) → d.width ≡ e.width → d.bytes ≡ e.bytes → d ≡ e
same_datum d e w b = λ i. record {
  width = w i;
  bytes = b i;
  sized = is_prop→PathP (λ j. length (b j).items ≡ size_of (w j)) (λ j. ℕ_set (length (b j).items) (size_of (w j))) d.sized e.sized i;
}

pub same_depth : (d e : Depth) → d.blocks ≡ e.blocks → d ≡ e
same_depth d e b = λ i. record {
  blocks = b i;
  some = is_prop→PathP (λ j. 0 < b j) (λ j. hlevel props) d.some e.some i;
  few = is_prop→PathP (λ j. b j ≤ MAX_DEPTH) (λ j. hlevel props) d.few e.few i;
}

pub same_copying : (same : CopyPair → CopyPair → Bool) → ((p q : CopyPair) → same p q ≡ true → p ≡ q) → (c d : Copying)
    → (beq c.moves d.moves && (same c.pair d.pair && ((c.to == d.to) && ((c.from == d.from) && (c.size == d.size))))) ≡ true → c ≡ d
same_copying same exact c d e = grind (arith, nat_tests, exact)
