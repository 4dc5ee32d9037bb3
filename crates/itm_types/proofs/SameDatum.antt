-- Values of one type with the same bytes.
use Rattle.std.proofs.Common.{◌≡◌, length}
use Rattle.itm_types.{specs.Access.size_of, specs.declared.datum.Datum.Datum}
use mathlib.Core.HLevel.{is_prop→PathP}
use native.Mathlib.Nat.{ℕ_set}

-- are the same
pub same_datum : (d e : Datum) → d.width ≡ e.width → d.bytes.items ≡ e.bytes.items → d ≡ e
same_datum d e w b = λ i. record {
  width = w i;
  bytes = record { items = b i };
  sized = is_prop→PathP (λ j. length (b j) ≡ size_of (w j)) (λ j. ℕ_set (length (b j)) (size_of (w j))) d.sized e.sized i;
}
