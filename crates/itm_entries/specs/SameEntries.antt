-- Entry points that are equal are the same.
use Rattle.std.specs.Prelude.{◌≡◌, true, refl}
use Rattle.std.proofs.Common.{sym}
use Rattle.std.proofs.lemmas.Bool.{and_parts}
use Rattle.std.specs.Cmp.{booleans_Decides}
use mathlib.Core.Bool.{true≢false}
use Rattle.itm_types.specs.contracts.equality.CopyPairExactEq.TheImpl.Laws.{exact-law as exact_pair}
use Rattle.itm_types.specs.contracts.equality.ReadHintExactEq.TheImpl.Laws.{exact-law as exact_read}
use Rattle.itm_types.specs.contracts.equality.WidthExactEq.TheImpl.Laws.{exact-law as exact_width}
use Rattle.itm_types.specs.contracts.equality.WriteHintExactEq.TheImpl.Laws.{exact-law as exact_write}
use Rattle.itm_entries.specs.contracts.entry.EntryPartialEq.TheImpl as equality
use Rattle.itm_entries.specs.contracts.equality.ControlExactEq.TheImpl.Laws.{exact-law as exact_control}
use Rattle.itm_entries.specs.declared.entry.Entry.{Entry}
use Rattle.itm_entries.specs.declared.entry.Entry.TheVariants as entry

pub same_entry : (a b : Entry) → (equality.ghosts).eq a b ≡ true → a ≡ b
same_entry (entry.Control c) (entry.Control d) e = λ i. entry.Control (exact_control c d e i)
same_entry (entry.Read h w) (entry.Read k v) e = let both = and_parts _ _ e in λ i. entry.Read (exact_read h k both.0 i) (exact_width w v both.1 i)
same_entry (entry.Write h w) (entry.Write k v) e = let both = and_parts _ _ e in λ i. entry.Write (exact_write h k both.0 i) (exact_width w v both.1 i)
same_entry (entry.Log w) (entry.Log v) e = λ i. entry.Log (exact_width w v e i)
same_entry entry.LogBytes entry.LogBytes e = refl
same_entry (entry.Copy m p) (entry.Copy n q) e = let both = and_parts _ _ e in λ i. entry.Copy ((booleans_Decides m n).0 both.0 i) (exact_pair p q both.1 i)
same_entry (entry.Fill h) (entry.Fill k) e = λ i. entry.Fill (exact_write h k e i)
same_entry a b e = absurd (true≢false (sym e))
